-- Tests and sums over tables: of one entry many times, and cut into groups, as accounts are cut out of the holdings.
use Rattle.std.specs.Prelude.{◌≡◌, Bool, true, eqb, length, take, drop, set, replicate}
use Rattle.std.proofs.Math.Path.{refl, ap}
use Rattle.std.proofs.Common.{ap₂, ◌∙◌, zero-mul, le_of_suc-le-suc, arith, length-take-le, drop-set-lt, get_or-take, eq-eqb}
use mathlib.Core.List.{List, [], ◌∷◌}
use Prim.Native.Nat.{ℕ, zero, suc, ◌+◌, ◌*◌, ◌<◌, ◌≤◌}
use Rattle.std.proofs.Math.Nat.{zero-add, suc-mul}
use Rattle.std.proofs.Math.ListN.{get_or, length-drop}
use Rattle.std.proofs.Math.Seq.{take-set-lt, get_or-drop}
use Rattle.std.proofs.lemmas.List.{take-set-le, drop-set-add}
use Rattle.rules.specs.Words.{all, total}
use Rattle.rules.specs.Sound.{by_account}
use Rattle.laws.specs.Cases.{and_hold}

-- ── one entry many times ──

module _ {A : Type 0} (t : A → Bool) where
  pub all_same : (n : ℕ) (x : A) → t x ≡ true → all t (replicate n x) ≡ true
  unfolding all
  all_same zero x e = refl
  all_same (suc n) x e = and_hold e (all_same n x e)

-- one entry is part of the sum
pub total_part : {A : Type 0} (f : A → ℕ) (l : List A) (i : ℕ) (d : A) → i < length l → f (get_or l i d) ≤ total f l
unfolding total
total_part f [] i d h = absurd (omega arith)
total_part f (x ∷ l) zero d h = omega arith
total_part f (x ∷ l) (suc i) d h = omega (arith, total_part f l i d (le_of_suc-le-suc h))

-- ── groups of w entries, n of them ──

module _ {A : Type 0} (w : ℕ) where
  pub groups_length : (n : ℕ) (l : List A) → length (by_account w n l) ≡ n
  unfolding by_account
  groups_length zero l = refl
  groups_length (suc n) l = ap suc (groups_length n (drop w l))

  -- each has its w entries
  abbrev pub wide : List A → Bool
  wide r = eqb (length r) w

  pub groups_wide : (n : ℕ) (l : List A) → length l ≡ n * w → all wide (by_account w n l) ≡ true
  unfolding by_account all
  groups_wide zero l e = refl
  groups_wide (suc n) l e =
      let m = suc-mul n w in
      and_hold (eq-eqb (length (take w l)) w (length-take-le w l (omega arith))) (groups_wide n (drop w l) (omega (arith, length-drop w l)))

  -- group a
  abbrev pub group : ℕ → List A → ℕ → List A
  group n l a = get_or (by_account w n l) a []

  -- entry s of group a
  pub groups_at : (n : ℕ) (l : List A) (a s : ℕ) (d : A) → a < n → s < w → get_or (group n l a) s d ≡ get_or l (a * w + s) d
  unfolding by_account
  groups_at zero l a s d h k = absurd (omega arith)
  groups_at (suc n) l zero s d h k = rw (zero-mul w, zero-add s) (get_or-take w l s d k)
  groups_at (suc n) l (suc a) s d h k =
      groups_at n (drop w l) a s d (le_of_suc-le-suc h) k ∙ get_or-drop w l (a * w + s) d ∙ ap (λ (i : ℕ). get_or l i d) (omega (arith, suc-mul a w))

  -- an entry set in the table is set in its group
  pub groups_set : (n : ℕ) (l : List A) (a s : ℕ) (v : A) → s < w
      → by_account w n (set l (a * w + s) v) ≡ set (by_account w n l) a (set (group n l a) s v)
  unfolding by_account
  groups_set zero l a s v h = refl
  groups_set (suc n) l zero s v h =
      rw (zero-mul w, zero-add s) (ap₂ (λ (r : List A) (q : List (List A)). r ∷ q) (take-set-lt w l s v h) (ap (by_account w n) (drop-set-lt w l s v h)))
  groups_set (suc n) l (suc a) s v h =
      let e : suc a * w + s ≡ w + (a * w + s) = omega (arith, suc-mul a w) in
      rw e
      (ap₂ (λ (r : List A) (q : List (List A)). r ∷ q) (take-set-le w l (w + (a * w + s)) v (omega arith))
      (ap (by_account w n) (drop-set-add w l (a * w + s) v) ∙ groups_set n (drop w l) a s v h))
