-- Readings that are wrong (document 01, the section of that name): each sheet here is another under one of them. (The same as values, for must-fail edits: the crate rules.)
use Rattle.std.specs.Prelude.{◌≡◌, refl, List, [], ◌∷◌, ◌++◌, ℕ}
use Rattle.rules.specs.Words.{text}
use Rattle.rules.specs.Sheet.{sheet_of}
use Rattle.rules.specs.Opened.{everything}
use Rattle.rules.specs.Written.{hex, created}

-- Netting by firm: two accounts of one agent never meet. 2 and 3 are such accounts: 2 has bought, 3 has sold, and both stay open.
abbrev two_accounts_of_one_agent_file : List ℕ
two_accounts_of_one_agent_file =
    created (0 ∷ [])
    -- enter 1: 2 buys 100 of 0 from 1 at 1,000
    ++ hex "000e 01 0001 02 01 00 00000064 000003e8"
    -- enter 2: 1 buys 100 of 0 from 3 at 1,100
    ++ hex "000e 01 0002 01 03 00 00000064 0000044c"
    -- roll
    ++ hex "0001 04"

two_accounts_of_one_agent : sheet_of two_accounts_of_one_agent_file ≡ text "DAY 1\n"
    ++ text "P 4128 1 0 0 10000\n"
    ++ text "P 4160 2 0 100 100000\n"
    ++ text "P 4192 3 0 -100 -110000\n"
    ++ text "E 4\n"
unfolding everything
two_accounts_of_one_agent = refl

-- The same over two days: what 3 has sold later is not set against what 2 has bought. Account 1, which traded both times, is offset.
abbrev on_two_days_file : List ℕ
on_two_days_file =
    created (0 ∷ [])
    -- enter 1: 2 buys 100 of 0 from 1 at 1,000
    ++ hex "000e 01 0001 02 01 00 00000064 000003e8"
    -- roll
    ++ hex "0001 04"
    -- enter 1: 1 buys 100 of 0 from 3 at 1,100
    ++ hex "000e 01 0001 01 03 00 00000064 0000044c"
    -- roll
    ++ hex "0001 04"
    -- roll
    ++ hex "0001 04"

on_two_days : sheet_of on_two_days_file ≡ text "DAY 3\n"
    ++ text "P 4160 2 0 100 100000\n"
    ++ text "P 6240 3 0 -100 -110000\n"
    ++ text "C 1 0 10000\n"
    ++ text "E 4\n"
unfolding everything
on_two_days = refl

-- Dropping a net of zero shares: its money is lost. Here it is charged on its due day.
abbrev zero_shares_file : List ℕ
zero_shares_file =
    created (0 ∷ 0 ∷ [])
    -- enter 1: 1 buys 100 of 0 from 2 at 10,000
    ++ hex "000e 01 0001 01 02 00 00000064 00002710"
    -- enter 2: 2 buys 100 of 0 from 1 at 11,000
    ++ hex "000e 01 0002 02 01 00 00000064 00002af8"
    -- roll
    ++ hex "0001 04"
    -- roll
    ++ hex "0001 04"

zero_shares : sheet_of zero_shares_file ≡ text "DAY 2\n"
    ++ text "C 1 0 -100000\n"
    ++ text "C 2 0 100000\n"
    ++ text "E 3\n"
unfolding everything
zero_shares = refl

-- Giving back the part's rounding at each step: only the last part settles it. 1 receives 3 shares with 1,001 mils one by one: 333, then 334 of the 668 that the
-- record has left. Given back they would be 334 and 334; at the record's first price 333 and 333.
abbrev rounding_file : List ℕ
rounding_file =
    created (0 ∷ [])
    -- enter 1: 1 buys 4 of 0 from 2 at 300
    ++ hex "000e 01 0001 01 02 00 00000004 0000012c"
    -- enter 2: 3 buys 1 of 0 from 1 at 199
    ++ hex "000e 01 0002 03 01 00 00000001 000000c7"
    -- roll
    ++ hex "0001 04"
    -- roll
    ++ hex "0001 04"
    -- deposit 1 of 0 to 2
    ++ hex "000b 05 02 00 0000000000000001"
    -- run 0
    ++ hex "0002 07 00"
    -- deposit 1 of 0 to 2
    ++ hex "000b 05 02 00 0000000000000001"
    -- run 0
    ++ hex "0002 07 00"

rounding : sheet_of rounding_file ≡ text "DAY 2\n"
    ++ text "P 4128 1 0 1 334\n"
    ++ text "P 4160 2 0 -2 -600\n"
    ++ text "P 4192 3 0 1 199\n"
    ++ text "C 1 0 667\n"
    ++ text "C 2 0 -600\n"
    ++ text "E 6\n"
unfolding everything
rounding = refl

-- the last part: all that is left, 334
last_part : sheet_of (rounding_file ++ hex "000b 05 02 00 0000000000000001" ++ hex "0002 07 00") ≡ text "DAY 2\n"
    ++ text "P 4160 2 0 -1 -300\n"
    ++ text "P 4192 3 0 1 199\n"
    ++ text "C 1 0 1001\n"
    ++ text "C 2 0 -900\n"
    ++ text "E 5\n"
unfolding everything
last_part = refl

-- Joining records of equal direction: age and allocation change. They stay apart.
abbrev equal_direction_file : List ℕ
equal_direction_file =
    created (0 ∷ 0 ∷ [])
    -- enter 1: 2 buys 2,000 of 0 from 1 at 1,100
    ++ hex "000e 01 0001 02 01 00 000007d0 0000044c"
    -- roll
    ++ hex "0001 04"
    -- enter 1: 3 buys 3,000 of 0 from 1 at 1,200
    ++ hex "000e 01 0001 03 01 00 00000bb8 000004b0"
    -- roll
    ++ hex "0001 04"
    -- roll
    ++ hex "0001 04"

equal_direction : sheet_of equal_direction_file ≡ text "DAY 3\n"
    ++ text "P 4128 1 0 -2000 -2200000\n"
    ++ text "P 4160 2 0 2000 2200000\n"
    ++ text "P 6176 1 0 -3000 -3600000\n"
    ++ text "P 6240 3 0 3000 3600000\n"
    ++ text "E 5\n"
unfolding everything
equal_direction = refl

-- Putting an amended trade into the book without removing the old form.
abbrev amended_file : List ℕ
amended_file =
    created (0 ∷ [])
    -- enter 1: 1 buys 10 of 0 from 2 at 100
    ++ hex "000e 01 0001 01 02 00 0000000a 00000064"
    -- amend 1: 3 buys 7 of 0 from 2 at 200
    ++ hex "000e 02 0001 03 02 00 00000007 000000c8"
    -- roll
    ++ hex "0001 04"

amended : sheet_of amended_file ≡ text "DAY 1\n"
    ++ text "P 4160 2 0 -7 -1400\n"
    ++ text "P 4192 3 0 7 1400\n"
    ++ text "E 3\n"
unfolding everything
amended = refl
