-- Readings that are wrong (document 01, the section of that name): each theorem here is false under one of them (must-fail/).
-- The calls meet a sound book as values; their call files and sheets: the crate sheet_examples.
use Rattle.std.specs.Prelude.{◌≡◌, refl, List, [], ◌∷◌, ℤ, pos, neg_ℤ}
use Rattle.rules.specs.Calls.{Call, enter, amend, roll, deposit, run}
use Rattle.rules.specs.Opened.{everything}
use Rattle.rules.specs.Written.{deal, book_with, through, shown}

abbrev left : List Call → List ℤ
left calls = shown (through (book_with (0 ∷ [])) calls)

-- Netting by firm: two accounts of one agent never meet. 2 and 3 are such accounts: 2 has bought, 3 has sold, and both stay open.
two_accounts_of_one_agent : left (enter (deal 1 2 1 0 100 1_000) ∷ enter (deal 2 1 3 0 100 1_100) ∷ roll ∷ [])
    ≡ pos 4_128 ∷ pos 0 ∷ pos 10_000
    ∷ pos 4_160 ∷ pos 100 ∷ pos 100_000
    ∷ pos 4_192 ∷ neg_ℤ (pos 100) ∷ neg_ℤ (pos 110_000)
    ∷ pos 0 ∷ pos 0 ∷ pos 0 ∷ pos 0 ∷ []
unfolding everything
two_accounts_of_one_agent = refl

-- The same over two days: what 3 has sold later is not set against what 2 has bought. Account 1, which traded both times, is offset.
on_two_days : left (enter (deal 1 2 1 0 100 1_000) ∷ roll ∷ enter (deal 1 1 3 0 100 1_100) ∷ roll ∷ roll ∷ [])
    ≡ pos 4_160 ∷ pos 100 ∷ pos 100_000
    ∷ pos 6_240 ∷ neg_ℤ (pos 100) ∷ neg_ℤ (pos 110_000)
    ∷ pos 0 ∷ pos 10_000 ∷ pos 0 ∷ pos 0 ∷ []
unfolding everything
on_two_days = refl

-- Dropping a net of zero shares: its money is lost. Here it is charged on its due day.
zero_shares : left (enter (deal 1 1 2 0 100 10_000) ∷ enter (deal 2 2 1 0 100 11_000) ∷ roll ∷ roll ∷ [])
    ≡ pos 0 ∷ neg_ℤ (pos 100_000) ∷ pos 100_000 ∷ pos 0 ∷ []
unfolding everything
zero_shares = refl

-- Giving back the part's rounding at each step: only the last part settles it. 1 receives 3 shares with 1,001 mils, and has received two of them, one by
-- one: 333 of 1,001, then 334 of what the record has left, 668. Given back they would be 334 and 334; at the record's first price 333 and 333.
rounding : left (enter (deal 1 1 2 0 4 300) ∷ enter (deal 2 3 1 0 1 199) ∷ roll ∷ roll ∷ deposit 2 0 1 ∷ run 0 ∷ deposit 2 0 1 ∷ run 0 ∷ [])
    ≡ pos 4_128 ∷ pos 1 ∷ pos 334
    ∷ pos 4_160 ∷ neg_ℤ (pos 2) ∷ neg_ℤ (pos 600)
    ∷ pos 4_192 ∷ pos 1 ∷ pos 199
    ∷ pos 0 ∷ pos 667 ∷ neg_ℤ (pos 600) ∷ pos 0 ∷ []
unfolding everything
rounding = refl

-- Joining records of equal direction: age and allocation change. They stay apart.
equal_direction : left (enter (deal 1 2 1 0 2_000 1_100) ∷ roll ∷ enter (deal 1 3 1 0 3_000 1_200) ∷ roll ∷ roll ∷ [])
    ≡ pos 4_128 ∷ neg_ℤ (pos 2_000) ∷ neg_ℤ (pos 2_200_000)
    ∷ pos 4_160 ∷ pos 2_000 ∷ pos 2_200_000
    ∷ pos 6_176 ∷ neg_ℤ (pos 3_000) ∷ neg_ℤ (pos 3_600_000)
    ∷ pos 6_240 ∷ pos 3_000 ∷ pos 3_600_000
    ∷ pos 0 ∷ pos 0 ∷ pos 0 ∷ pos 0 ∷ []
unfolding everything
equal_direction = refl

-- Putting an amended trade into the book without removing the old form.
amended : left (enter (deal 1 1 2 0 10 100) ∷ amend (deal 1 3 2 0 7 200) ∷ roll ∷ [])
    ≡ pos 4_160 ∷ neg_ℤ (pos 7) ∷ neg_ℤ (pos 1_400)
    ∷ pos 4_192 ∷ pos 7 ∷ pos 1_400
    ∷ pos 0 ∷ pos 0 ∷ pos 0 ∷ pos 0 ∷ []
unfolding everything
amended = refl
