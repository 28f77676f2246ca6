-- Which refusal numbers each call has of its own (document 01, "Refusal numbers": which call each number belongs to, and the order of the checks). That each
-- call answers 0 or one of these is shown in proofs/OwnNumbers.
use Rattle.std.specs.Prelude.{Bool, List, [], ◌∷◌, ℕ, eqb}
use Rattle.rules.specs.Words.{any}
use Rattle.rules.specs.Calls.{Call, enter, amend, exclude, roll, deposit, withdraw, run}
use Rattle.rules.specs.Records.{Record, create, call, unreadable}

-- the number is 0 or stands in the list
unfoldable pub is_zero_or : List ℕ → ℕ → Bool
is_zero_or ns n = any (λ m. eqb m n) (0 ∷ ns)

-- ── which numbers a call has, in the order of its checks ──

unfoldable pub refusals_of : Call → List ℕ
refusals_of (enter t) = 1 ∷ 2 ∷ 3 ∷ 4 ∷ 5 ∷ 6 ∷ 7 ∷ 9 ∷ []
refusals_of (amend t) = 1 ∷ 2 ∷ 3 ∷ 4 ∷ 5 ∷ 6 ∷ 8 ∷ []
refusals_of (exclude n) = 1 ∷ 8 ∷ []
refusals_of roll = 1 ∷ 10 ∷ 14 ∷ []
refusals_of (deposit a s q) = 1 ∷ 2 ∷ 3 ∷ 4 ∷ 12 ∷ []
refusals_of (withdraw a s q) = 1 ∷ 2 ∷ 3 ∷ 4 ∷ 11 ∷ []
refusals_of (run s) = 1 ∷ 3 ∷ 13 ∷ []

-- a record has those of the call that it holds, beside 18 and 19
unfoldable pub refusals_in : Record → List ℕ
refusals_in (create codes) = 18 ∷ 19 ∷ []
refusals_in (call c) = 18 ∷ 19 ∷ refusals_of c
refusals_in unreadable = 18 ∷ 19 ∷ []
