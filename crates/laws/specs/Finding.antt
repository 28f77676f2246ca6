-- What a loop that looks for an element needs of `any`: nothing found yet, not this one either, found, none at all.
use Rattle.std.specs.Prelude.{◌≡◌, Bool, true, false, ◌||◌, length, get_or, take}
use Rattle.std.proofs.Math.Path.{refl, sym, ap}
use Rattle.std.proofs.Common.{◌∙◌, le_of_suc-le-suc, add-one, arith, take-suc, take_all, get_or-take, length-take-le}
use Rattle.std.proofs.Math.Bool.{or-true}
use mathlib.Core.List.{List, [], ◌∷◌, ◌++◌}
use Prim.Native.Nat.{ℕ, zero, suc, ◌+◌, ◌<◌, ◌≤◌}
use Rattle.rules.specs.Words.{any}
use Rattle.laws.specs.Cases.{or_step}

module _ {A : Type 0} (t : A → Bool) where
  any_append : (l m : List A) → any t (l ++ m) ≡ any t l || any t m
  unfolding any
  any_append [] m = refl
  any_append (x ∷ l) m = or_step (t x) _ _ _ (any_append l m)

  any_one : (x : A) → t x ≡ false → any t (x ∷ []) ≡ false
  unfolding any
  any_one x e = rw e

  pub any_none : (l : List A) → any t (take 0 l) ≡ false
  unfolding any
  any_none l = refl

  pub any_more : (l : List A) (i : ℕ) (d : A) → i < length l → any t (take i l) ≡ false → t (get_or l i d) ≡ false → any t (take (i + 1) l) ≡ false
  any_more l i d h e f = rw (add-one i, take-suc l i d h, any_append (take i l) (get_or l i d ∷ []), e) (any_one (get_or l i d) f)

  pub any_found : (l : List A) (i : ℕ) (d : A) → i < length l → t (get_or l i d) ≡ true → true ≡ any t l
  unfolding any
  any_found [] i d h e = absurd (omega arith)
  any_found (x ∷ l) zero d h e = sym (ap (λ (b : Bool). b || any t l) e)
  any_found (x ∷ l) (suc i) d h e = sym (or-true (t x)) ∙ ap (λ (b : Bool). t x || b) (any_found l i d (le_of_suc-le-suc h) e)

  pub any_done : (l : List A) (i : ℕ) → length l ≤ i → any t (take i l) ≡ false → false ≡ any t l
  any_done l i h e = sym e ∙ ap (any t) (take_all i l h)

  -- ── in the first n entries of a table ──

  module _ (l : List A) (n : ℕ) (h : n ≤ length l) where
    pub listed_more : (i : ℕ) (d : A) → i < n → any t (take i (take n l)) ≡ false → t (get_or l i d) ≡ false → any t (take (i + 1) (take n l)) ≡ false
    listed_more i d k e f = any_more (take n l) i d (omega (arith, length-take-le n l h)) e (ap t (get_or-take n l i d k) ∙ f)

    pub listed_found : (i : ℕ) (d : A) → i < n → t (get_or l i d) ≡ true → true ≡ any t (take n l)
    listed_found i d k f = any_found (take n l) i d (omega (arith, length-take-le n l h)) (ap t (get_or-take n l i d k) ∙ f)

    pub listed_done : (i : ℕ) → n ≤ i → any t (take i (take n l)) ≡ false → false ≡ any t (take n l)
    listed_done i k e = any_done (take n l) i (omega (arith, length-take-le n l h)) e
