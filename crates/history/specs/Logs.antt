-- The log of a history, call by call: an accepted call stands in it, a refused one does not; and calls behind calls.
use Rattle.std.specs.Prelude.{◌≡◌, refl, true, false, List, [], ◌∷◌, ◌++◌}
use Rattle.std.proofs.Math.Path.{ap}
use Rattle.std.proofs.Common.{◌∙◌, eq-eqb}
use Rattle.rules.specs.Words.{any, keep}
use Rattle.rules.specs.Calls.{Call, enter, amend, exclude, roll, deposit, withdraw, run, after, answer}
use Rattle.rules.specs.CallFile.{left}
use Rattle.rules.specs.declared.Book.{Book}
use Rattle.laws.specs.Cases.{by_test, true_false, neither, cond_yes, cond_no}
use Rattle.laws.specs.Keeping.{keep_yes, keep_no}
use Rattle.history.specs.Histories.{accepted, made, log_of, is_roll, is_other, rolls, others}
use Rattle.history.specs.Steps.{left_yes, left_no}

pub is_roll_lem : (c : Call) → is_roll c ≡ true → c ≡ roll
unfolding is_roll
is_roll_lem (enter t) e = true_false e refl
is_roll_lem (amend t) e = true_false e refl
is_roll_lem (exclude n) e = true_false e refl
is_roll_lem roll e = refl
is_roll_lem (deposit a s q) e = true_false e refl
is_roll_lem (withdraw a s q) e = true_false e refl
is_roll_lem (run s) e = true_false e refl

module _ (k : Book) (c : Call) (cs : List Call) where
  -- ── accepted ──

  pub made_yes : accepted k c ≡ true → made k (c ∷ cs) ≡ made (after k c) cs
  unfolding made
  made_yes e = ap (λ (b : Book). made b cs) (left_yes k c e)

  pub log_yes : accepted k c ≡ true → log_of k (c ∷ cs) ≡ c ∷ log_of (after k c) cs
  unfolding log_of
  log_yes e =
      let rest = log_of (left k c) cs in
      cond_yes (c ∷ rest) rest e ∙ ap (λ (b : Book). c ∷ log_of b cs) (left_yes k c e)

  pub rolls_yes : accepted k c ≡ true → rolls k (c ∷ cs) ≡ false → (is_roll c ≡ false) × (rolls (after k c) cs ≡ false)
  unfolding rolls any
  rolls_yes e f = neither (is_roll c) (any is_roll (log_of (after k c) cs)) (rw (log_yes e) at f)

  pub others_yes : accepted k c ≡ true → is_other c ≡ true → others k (c ∷ cs) ≡ c ∷ others (after k c) cs
  unfolding others
  others_yes e o = ap (keep is_other) (log_yes e) ∙ keep_yes is_other c (log_of (after k c) cs) o

  pub others_pass : accepted k c ≡ true → is_other c ≡ false → others k (c ∷ cs) ≡ others (after k c) cs
  unfolding others
  others_pass e o = ap (keep is_other) (log_yes e) ∙ keep_no is_other c (log_of (after k c) cs) o

  -- ── refused ──

  pub made_no : accepted k c ≡ false → made k (c ∷ cs) ≡ made k cs
  unfolding made
  made_no e = ap (λ (b : Book). made b cs) (left_no k c e)

  pub log_no : accepted k c ≡ false → log_of k (c ∷ cs) ≡ log_of k cs
  unfolding log_of
  log_no e =
      let rest = log_of (left k c) cs in
      cond_no (c ∷ rest) rest e ∙ ap (λ (b : Book). log_of b cs) (left_no k c e)

  pub rolls_no : accepted k c ≡ false → rolls k (c ∷ cs) ≡ rolls k cs
  unfolding rolls
  rolls_no e = ap (any is_roll) (log_no e)

  pub others_no : accepted k c ≡ false → others k (c ∷ cs) ≡ others k cs
  unfolding others
  others_no e = ap (keep is_other) (log_no e)

-- ── calls behind calls ──

pub made_append : (k : Book) (cs ds : List Call) → made k (cs ++ ds) ≡ made (made k cs) ds
unfolding made
made_append k [] ds = refl
made_append k (c ∷ cs) ds = made_append (left k c) cs ds

pub log_append : (k : Book) (cs ds : List Call) → log_of k (cs ++ ds) ≡ log_of k cs ++ log_of (made k cs) ds
unfolding made log_of
log_append k [] ds = refl
log_append k (c ∷ cs) ds =
    let ih = log_append (left k c) cs ds in
    by_test (accepted k c) (λ e. rw e (ap (λ (l : List Call). c ∷ l) ih)) (λ e. rw e ih)

-- an accepted roll behind them
pub rolled_made : (k : Book) (cs : List Call) → answer (made k cs) roll ≡ 0 → made k (cs ++ (roll ∷ [])) ≡ after (made k cs) roll
unfolding made
rolled_made k cs e = made_append k cs (roll ∷ []) ∙ left_yes (made k cs) roll (eq-eqb (answer (made k cs) roll) 0 e)
