-- Calls among which no roll is accepted keep the day.
use Rattle.std.specs.Prelude.{◌≡◌, refl, false, List, [], ◌∷◌}
use Rattle.std.proofs.Common.{◌∙◌}
use Rattle.rules.specs.Book.{with_open, with_list, with_holdings, with_charges}
use Rattle.rules.specs.Run.{settled}
use Rattle.rules.specs.Calls.{Call, enter, amend, exclude, roll, deposit, withdraw, run, after}
use Rattle.rules.specs.CallFile.{left}
use Rattle.rules.specs.declared.Book.{Book}
use Rattle.laws.specs.Cases.{by_test, true_false}
use Rattle.history.specs.Histories.{accepted, made, is_roll, rolls}
use Rattle.history.specs.Logs.{rolls_yes, rolls_no}
use Rattle.history.specs.Steps.{left_yes, left_no}

after_day : (k : Book) (c : Call) → is_roll c ≡ false → (after k c).day ≡ k.day
unfolding after is_roll with_list with_holdings settled with_open with_charges
after_day k (enter t) e = refl
after_day k (amend t) e = refl
after_day k (exclude n) e = refl
after_day k roll e = true_false refl e
after_day k (deposit a s q) e = refl
after_day k (withdraw a s q) e = refl
after_day k (run s) e = refl

-- one call, and the calls behind it
step : (k : Book) (c : Call) (cs : List Call) → rolls k (c ∷ cs) ≡ false → ((left k c).day ≡ k.day) × (rolls (left k c) cs ≡ false)
step k c cs e =
    by_test (accepted k c)
    (λ y. let r = rolls_yes k c cs y e in rw (left_yes k c y) (after_day k c r.0, r.1))
    (λ n. rw (left_no k c n) (refl, rw (rolls_no k c cs n) at e))

pub made_day : (k : Book) (cs : List Call) → rolls k cs ≡ false → (made k cs).day ≡ k.day
unfolding made
made_day k [] e = refl
made_day k (c ∷ cs) e = let s = step k c cs e in made_day (left k c) cs s.1 ∙ s.0
