-- Sums of integers over lists: `sum_by f l` is f of each element, summed. Each law is one induction whose step is linear (`Linear`).
use Rattle.std.specs.Prelude.{◌≡◌, refl, ◌≢◌, ℕ, zero, suc, ◌+◌, ◌<◌, length, get_or, take, set, ℤ, pos, ◌+ℤ◌, ◌-ℤ◌}
use Rattle.std.proofs.Common.{sym, ap, ◌∙◌, get_or-set_other, le_of_suc-le-suc, add-one, arith, length-set}
use mathlib.Core.List.{List, [], ◌∷◌, ◌++◌, map, Permᴰ, Perm}
use Rattle.std.proofs.Math.Logic.{∥∥₁_elim}
use Rattle.integers.specs.Linear.{zlin}
use Rattle.std.proofs.Math.IntN.{ℤ_set}

module _ {A : Type 0} where
  abbrev pub sum_by : (A → ℤ) → List A → ℤ
  sum_by f [] = pos 0
  sum_by f (x ∷ l) = f x +ℤ sum_by f l

  pub sum_by_append : (f : A → ℤ) (l m : List A) → sum_by f (l ++ m) ≡ sum_by f l +ℤ sum_by f m
  sum_by_append f [] m = simp zlin (omega arith)
  sum_by_append f (x ∷ l) m = simp zlin (omega (arith, simp zlin at (sum_by_append f l m)))

  pub sum_by_set : (f : A → ℤ) (l : List A) (i : ℕ) (a d : A) → i < length l → sum_by f (set l i a) ≡ (sum_by f l -ℤ f (get_or l i d)) +ℤ f a
  sum_by_set f [] i a d h = absurd (omega arith)
  sum_by_set f (x ∷ l) zero a d h = simp zlin (omega arith)
  sum_by_set f (x ∷ l) (suc i) a d h = simp zlin (omega (arith, simp zlin at (sum_by_set f l i a d (le_of_suc-le-suc h))))

  -- the first i + 1 elements: what a loop that sums adds in a turn
  pub sum_by_take : (f : A → ℤ) (l : List A) (i : ℕ) (d : A) → i < length l → sum_by f (take (i + 1) l) ≡ sum_by f (take i l) +ℤ f (get_or l i d)
  sum_by_take f l i d h = rw add-one (go l i h)
    where
      go : (l : List A) (i : ℕ) → i < length l → sum_by f (take (suc i) l) ≡ sum_by f (take i l) +ℤ f (get_or l i d)
      go [] i h = absurd (omega arith)
      go (x ∷ l) zero h = simp zlin (omega arith)
      go (x ∷ l) (suc i) h = simp zlin (omega (arith, simp zlin at (go l i (le_of_suc-le-suc h))))

  pub sum_by_sum : (f g : A → ℤ) (l : List A) → sum_by (λ x. f x +ℤ g x) l ≡ sum_by f l +ℤ sum_by g l
  sum_by_sum f g [] = refl
  sum_by_sum f g (x ∷ l) = simp zlin (omega (arith, simp zlin at (sum_by_sum f g l)))

pub sum_by_map : {A B : Type 0} (f : B → ℤ) (g : A → B) (l : List A) → sum_by f (map g l) ≡ sum_by (λ x. f (g x)) l
sum_by_map f g [] = refl
sum_by_map f g (x ∷ l) = ap (λ (t : ℤ). f (g x) +ℤ t) (sum_by_map f g l)

-- the order of two sums is free
pub sum_by_swap : {A B : Type 0} (f : A → B → ℤ) (l : List A) (m : List B) → sum_by (λ x. sum_by (f x) m) l ≡ sum_by (λ y. sum_by (λ x. f x y) l) m
sum_by_swap f [] m = sym (none m)
  where
    none : {B : Type 0} (m : List B) → sum_by (λ (y : B). pos 0) m ≡ pos 0
    none [] = refl
    none (y ∷ m) = rw (none m)
sum_by_swap f (x ∷ l) m =
    ap (λ (t : ℤ). sum_by (f x) m +ℤ t) (sum_by_swap f l m) ∙ sym (sum_by_sum (f x) (λ y. sum_by (λ x. f x y) l) m)

-- a permutation keeps the sum
permᴰ : {A : Type 0} (f : A → ℤ) {l m : List A} → Permᴰ l m → sum_by f l ≡ sum_by f m
permᴰ f Permᴰ.nil = refl
permᴰ f (Permᴰ.cons e q) = rw (e, permᴰ f q)
permᴰ f (Permᴰ.swap {a = a} {b = b} {a' = a'} {b' = b'} {l = l} e₁ e₂) =
    rw (e₁, e₂) (simp zlin (omega arith))
permᴰ f (Permᴰ.trans q r) = permᴰ f q ∙ permᴰ f r

pub sum_by_perm : {A : Type 0} (f : A → ℤ) (l m : List A) → Perm l m → sum_by f l ≡ sum_by f m
sum_by_perm f l m p = ∥∥₁_elim p (ℤ_set (sum_by f l) (sum_by f m)) (λ q. permᴰ f q)

-- two entries are replaced by two others with the same sum: the whole sum stays
pub sum_by_move : {A : Type 0} (f : A → ℤ) (l : List A) (i j : ℕ) (a b d : A) → i < length l → j < length l → j ≢ i
    → f a +ℤ f b ≡ f (get_or l i d) +ℤ f (get_or l j d) → sum_by f (set (set l i a) j b) ≡ sum_by f l
sum_by_move f l i j a b d h k ne e =
    let e₁ = sum_by_set f l i a d h in
    let e₂ = rw (get_or-set_other l i j a d ne) at (sum_by_set f (set l i a) j b d (rw (length-set l i a) k)) in
    simp zlin (omega (arith, simp zlin at e, simp zlin at e₁, simp zlin at e₂))
