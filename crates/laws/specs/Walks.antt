-- What a loop over a table needs of `all`: nothing tested yet, one more passes, one fails, all passed. And that `all` reads each element.
use Rattle.std.specs.Prelude.{◌≡◌, Bool, true, false, ◌&&◌, length, get_or, take}
use Rattle.std.proofs.Math.Path.{refl, sym, ap}
use Rattle.std.proofs.Common.{◌∙◌, le_of_suc-le-suc, add-one, arith, take-suc, take_all}
use Rattle.std.proofs.Math.Bool.{and-false, and-true}
use mathlib.Core.List.{List, [], ◌∷◌, ◌++◌}
use Prim.Native.Nat.{ℕ, zero, suc, ◌+◌, ◌<◌, ◌≤◌}
use Rattle.rules.specs.Words.{all}
use Rattle.laws.specs.Cases.{both_hold, and_step}

module _ {A : Type 0} (t : A → Bool) where
  pub all_append : (l m : List A) → all t (l ++ m) ≡ all t l && all t m
  unfolding all
  all_append [] m = refl
  all_append (x ∷ l) m = and_step (t x) _ _ _ (all_append l m)

  all_one : (x : A) → all t (x ∷ []) ≡ t x
  unfolding all
  all_one x = and-true (t x)

  pub all_at : (l : List A) (i : ℕ) (d : A) → all t l ≡ true → i < length l → t (get_or l i d) ≡ true
  unfolding all
  all_at [] i d a h = absurd (omega arith)
  all_at (x ∷ l) zero d a h = (both_hold (t x) (all t l) a).0
  all_at (x ∷ l) (suc i) d a h = all_at l i d (both_hold (t x) (all t l) a).1 (le_of_suc-le-suc h)

  -- ── the loop: before it, in it, behind it ──

  pub all_none : (l : List A) → all t (take 0 l) ≡ true
  unfolding all
  all_none l = refl

  pub all_more : (l : List A) (i : ℕ) (d : A) → i < length l → all t (take i l) ≡ true → t (get_or l i d) ≡ true → all t (take (i + 1) l) ≡ true
  all_more l i d h e f = rw (add-one i, take-suc l i d h, all_append (take i l) (get_or l i d ∷ []), e, all_one (get_or l i d)) f

  pub all_fails : (l : List A) (i : ℕ) (d : A) → i < length l → t (get_or l i d) ≡ false → false ≡ all t l
  unfolding all
  all_fails [] i d h e = absurd (omega arith)
  all_fails (x ∷ l) zero d h e = sym (ap (λ (b : Bool). b && all t l) e)
  all_fails (x ∷ l) (suc i) d h e = sym (and-false (t x)) ∙ ap (λ (b : Bool). t x && b) (all_fails l i d (le_of_suc-le-suc h) e)

  pub all_done : (l : List A) (i : ℕ) → length l ≤ i → all t (take i l) ≡ true → true ≡ all t l
  all_done l i h e = sym e ∙ ap (all t) (take_all i l h)
