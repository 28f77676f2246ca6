-- Refusals of the calls, each in the call that gives it and in ascending order: the first fault decides (document 01, "Refusal numbers").
-- The calls meet a sound book as values; their call files and sheets: the crate sheet_examples.
use Rattle.std.specs.Prelude.{◌≡◌, refl, List, [], ◌∷◌, ℕ}
use Rattle.rules.specs.Calls.{Call, enter, amend, exclude, roll, deposit, withdraw, run}
use Rattle.rules.specs.Opened.{everything}
use Rattle.rules.specs.Written.{deal, book_with, answers}

-- security 0 in currency 0, the others unlisted
abbrev answered : List Call → List ℕ
answered calls = answers (book_with (0 ∷ [])) calls

-- each call but the last mends the fault that the one before it was refused for
entering : answered
    (enter (deal 1 64 64 99 0 0) ∷ enter (deal 1 1 1 99 0 0) ∷ enter (deal 1 1 1 0 0 0) ∷ enter (deal 1 1 1 0 1 0)
    ∷ enter (deal 0 1 1 0 1 1) ∷ enter (deal 0 1 2 0 1 1) ∷ exclude 5 ∷ deposit 1 0 0 ∷ withdraw 1 0 1
    ∷ deposit 1 0 1_000_000_000_000 ∷ deposit 2 0 1 ∷ run 1 ∷ run 0 ∷ [])
    ≡ 2 ∷ 3 ∷ 4 ∷ 5 ∷ 6 ∷ 7 ∷ 8 ∷ 4 ∷ 11 ∷ 0 ∷ 12 ∷ 3 ∷ 0 ∷ []
unfolding everything
entering = refl

-- the seller alone above 63; security 32, and an unlisted one; 1,000,001 shares; price 10,000,000; then both at their bounds, and the number again
bounds : answered
    (enter (deal 1 1 64 0 1 1) ∷ enter (deal 1 1 2 32 1 1) ∷ enter (deal 1 1 2 1 1 1) ∷ enter (deal 1 1 2 0 1_000_001 1)
    ∷ enter (deal 1 1 2 0 1 10_000_000) ∷ enter (deal 1 1 2 0 1_000_000 9_999_999) ∷ enter (deal 1 1 2 0 1 1) ∷ [])
    ≡ 2 ∷ 3 ∷ 3 ∷ 4 ∷ 5 ∷ 0 ∷ 7 ∷ []
unfolding everything
bounds = refl

-- a number that is not in the list comes last
amending : answered
    (amend (deal 9 64 64 99 0 0) ∷ amend (deal 9 1 1 99 0 0) ∷ amend (deal 9 1 1 0 0 0) ∷ amend (deal 9 1 1 0 1 0)
    ∷ amend (deal 9 1 1 0 1 1) ∷ amend (deal 9 1 2 0 1 1) ∷ amend (deal 0 1 2 0 1 1) ∷ [])
    ≡ 2 ∷ 3 ∷ 4 ∷ 5 ∷ 6 ∷ 8 ∷ 8 ∷ []
unfolding everything
amending = refl

-- an excluded number is used, and is free again after the roll
excluding : answered
    (enter (deal 7 1 2 0 5 10) ∷ exclude 7 ∷ enter (deal 7 1 2 0 5 10) ∷ amend (deal 7 1 2 0 5 10) ∷ exclude 7 ∷ exclude 0
    ∷ roll ∷ enter (deal 7 1 2 0 5 10) ∷ roll ∷ [])
    ≡ 0 ∷ 0 ∷ 7 ∷ 8 ∷ 8 ∷ 8 ∷ 0 ∷ 0 ∷ 0 ∷ []
unfolding everything
excluding = refl

-- deposits and withdrawals: 10^12 and one more, more than the account holds, the total over all accounts
holding : answered
    (deposit 64 1 0 ∷ deposit 1 1 0 ∷ deposit 1 32 1 ∷ deposit 1 0 1_000_000_000_001 ∷ deposit 1 0 18_446_744_073_709_551_615
    ∷ withdraw 64 1 0 ∷ withdraw 1 1 0 ∷ withdraw 1 0 0 ∷ withdraw 1 0 1_000_000_000_001 ∷ deposit 1 0 5 ∷ withdraw 1 0 6 ∷ withdraw 1 0 5
    ∷ deposit 1 0 999_999_999_999 ∷ deposit 2 0 1 ∷ deposit 3 0 1 ∷ run 32 ∷ [])
    ≡ 2 ∷ 3 ∷ 3 ∷ 4 ∷ 4 ∷ 2 ∷ 3 ∷ 4 ∷ 4 ∷ 0 ∷ 11 ∷ 0 ∷ 0 ∷ 0 ∷ 12 ∷ 3 ∷ []
unfolding everything
holding = refl

-- 12 is of one security: the other one still takes 10^12
other_security : answers (book_with (0 ∷ 0 ∷ []))
    (deposit 1 0 1_000_000_000_000 ∷ deposit 2 1 1 ∷ deposit 1 1 999_999_999_999 ∷ deposit 3 1 1 ∷ [])
    ≡ 0 ∷ 0 ∷ 0 ∷ 12 ∷ []
unfolding everything
other_security = refl
