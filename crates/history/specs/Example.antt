-- Days worked out, by computation: what survives a log, and what is left of a day with corrections and refused calls when it is tidy; money ever charged; shares
-- held in a run.
use Rattle.std.specs.Prelude.{◌≡◌, refl, List, [], ◌∷◌, ℕ, take, ◌+ℤ◌}
use Rattle.rules.specs.Opened.{everything}
use Rattle.rules.specs.Written.{deal, book_with, through}
use Rattle.rules.specs.Run.{meetings}
use Rattle.rules.specs.Calls.{Call, enter, amend, exclude, roll, deposit, withdraw, after, answer}
use Rattle.rules.specs.CallFile.{left}
use Rattle.rules.specs.declared.Book.{Book}
use Rattle.history.specs.Histories.{made, log_of, is_roll, is_other, others, last_of, last_forms, tidy}
use Rattle.history.specs.Amounts.{day_charges, ever_charged, held_then}

-- ── the survivors of a log ──

-- the last of two amendments counts, not the first form, nor the first amendment
last_amended : last_forms (enter (deal 1 3 4 0 10 100) ∷ amend (deal 1 3 4 0 15 110) ∷ amend (deal 1 5 4 0 20 120) ∷ []) ≡ deal 1 5 4 0 20 120 ∷ []
unfolding everything last_of last_forms
last_amended = refl

-- they stand in the order of entry, not of amendment
in_order : last_forms (enter (deal 2 3 4 0 10 100) ∷ enter (deal 1 3 5 0 20 100) ∷ amend (deal 1 3 5 0 25 100) ∷ amend (deal 2 3 4 0 15 110) ∷ []) ≡
    deal 2 3 4 0 15 110 ∷ deal 1 3 5 0 25 100 ∷ []
unfolding everything last_of last_forms
in_order = refl

-- an excluded trade is gone, amended or not, and no other with it
without_excluded : last_forms (enter (deal 1 3 4 0 10 100) ∷ enter (deal 2 3 5 0 20 100) ∷ amend (deal 1 3 4 0 15 110) ∷ exclude 1 ∷ []) ≡ deal 2 3 5 0 20 100 ∷ []
unfolding everything last_of last_forms
without_excluded = refl

-- trades of a day that is over do not survive into the next, where their numbers may be used again
new_day : last_forms (enter (deal 1 3 4 0 10 100) ∷ enter (deal 2 3 5 0 20 100) ∷ roll ∷ enter (deal 1 4 3 0 30 100) ∷ []) ≡ deal 1 4 3 0 30 100 ∷ []
unfolding everything last_of last_forms
new_day = refl

-- ── a day ──

-- security 0 is in the base currency, the rest unlisted
day : List Call
day =
    enter (deal 1 3 4 0 10 100) ∷
    enter (deal 2 3 5 0 20 100) ∷
    amend (deal 1 3 4 0 15 110) ∷
    -- refused: account 3 holds nothing
    withdraw 3 0 1 ∷
    deposit 3 0 7 ∷
    exclude 2 ∷
    -- refused: 2 is excluded
    amend (deal 2 3 5 0 20 100) ∷
    []

-- the deposit, and trade 1 in its last accepted form
tidied : tidy (book_with (0 ∷ [])) day ≡ deposit 3 0 7 ∷ enter (deal 1 3 4 0 15 110) ∷ []
unfolding everything day made log_of is_other others last_of last_forms tidy
tidied = refl

-- ── money ever charged ──

-- The charges of the day that a roll ends count on, with those of the day that it begins. (A refused roll ends no day.)
day_ended : (k : Book) (c : ℕ) → answer k roll ≡ 0 → ever_charged k (roll ∷ []) c ≡ day_charges k c +ℤ day_charges (after k roll) c
unfolding is_roll left ever_charged
day_ended k c e = rw e

day_goes_on : (k : Book) (c : ℕ) → answer k roll ≡ 10 → ever_charged k (roll ∷ []) c ≡ day_charges k c
unfolding is_roll left ever_charged
day_goes_on k c e = rw e

-- ── shares held in a run ──

-- Account 4 holds 10 and delivers 6 to account 3, and then 4 to account 5.
before_run : Book
before_run = through (book_with (0 ∷ [])) (deposit 4 0 10 ∷ enter (deal 1 3 4 0 6 100) ∷ enter (deal 2 5 4 0 4 100) ∷ roll ∷ roll ∷ [])

-- At the second meeting it holds what the first has left, not what it held when the run began; and account 3 holds what it has received.
at_its_moment : held_then before_run 0 [] 4 ∷ held_then before_run 0 (take 1 (meetings before_run 0)) 4 ∷ held_then before_run 0 (take 1 (meetings before_run 0)) 3 ∷ []
    ≡ 10 ∷ 4 ∷ 6 ∷ []
unfolding everything before_run held_then
at_its_moment = refl
