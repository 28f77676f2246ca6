-- One pass over a table whose entries count by their place: a test of each entry, and amounts that are added up at one of n places.
use Rattle.std.specs.List.{list_all, range_with_len}
use Rattle.std.specs.Prelude.{◌≡◌, Bool, true, cond, ◌&&◌, eqb, length, get_or, take, drop, set, replicate}
use Rattle.std.proofs.Math.Path.{refl, sym, ap}
use Rattle.std.proofs.Common.{◌∙◌, add-one, length-set, drop_of_length-le, get_or-set_same, get_or-set_other, eq-eqb, ne_eqb}
use mathlib.Core.List.{List, [], ◌∷◌}
use Rattle.std.proofs.Math.Logic.{dite}
use Prim.Native.Nat.{ℕ, zero, suc, ◌+◌, ◌*◌, ◌<◌, ◌≤◌}
use Rattle.std.proofs.Math.Decide.{ℕ_discrete}
use native.Mathlib.Omega.{arith}
use Rattle.std.proofs.lemmas.List.{length-replicate, get_or-replicate}
use Rattle.std.proofs.Math.Seq.{drop-cons}
use Rattle.units.specs.declared.Amount.{Amount}
use Rattle.laws.specs.Cases.{cond_yes, cond_no, and_step}

-- ── a test ──

-- each entry passes the test at its place, the first at j
unfoldable pub all_from : {A : Type 0} → (ℕ → A → Bool) → ℕ → List A → Bool
all_from t j [] = true
all_from t j (x ∷ l) = t j x && all_from t (suc j) l

module _ {A : Type 0} (t : ℕ → A → Bool) where
  pub from_split : (j m : ℕ) (l : List A) → all_from t j l ≡ all_from t j (take m l) && all_from t (j + m) (drop m l)
  unfolding all_from
  from_split j zero l = let z : j + 0 ≡ j = omega arith in rw z
  from_split j (suc m) [] = refl
  from_split j (suc m) (x ∷ l) = let z : j + suc m ≡ suc j + m = omega arith in rw z (and_step (t j x) _ _ _ (from_split (suc j) m l))

  -- a walk by places
  pub all_places : (l : List A) (d : A) (n a : ℕ) → length l ≡ a + n → list_all (λ i. t i (get_or l i d)) (range_with_len a n) ≡ all_from t a (drop a l)
  unfolding all_from
  all_places l d zero a h = let e : drop a l ≡ [] = drop_of_length-le l {i = a} (omega arith) in rw e
  all_places l d (suc n) a h = rw (drop-cons l a d (omega arith), all_places l d n (a + 1) (omega arith), add-one a)

-- ── amounts ──

-- what the entries, the first at j, add up to at the place x
unfoldable pub amounts_at : {A : Type 0} → (ℕ → A → ℕ) → (A → ℕ) → ℕ → ℕ → List A → ℕ
amounts_at place amount x j [] = 0
amounts_at place amount x j (a ∷ l) = cond (eqb (place j a) x) (amount a) 0 + amounts_at place amount x (suc j) l

module _ {A : Type 0} (place : ℕ → A → ℕ) (amount : A → ℕ) where
  amounts_step : (x i : ℕ) (l : List A) (d : A) → i < length l
      → amounts_at place amount x i (drop i l) ≡ cond (eqb (place i (get_or l i d)) x) (amount (get_or l i d)) 0 + amounts_at place amount x (i + 1) (drop (i + 1) l)
  unfolding amounts_at
  amounts_step x i l d h = rw (add-one i, drop-cons l i d h)

-- a number of mils as an amount, and the number in the sum at a place
abbrev pub as_amount : ℕ → Amount
as_amount n = record { 0 = n }

abbrev pub sum_at : List Amount → ℕ → ℕ
sum_at sums x = (get_or sums x (as_amount 0)).0

-- the sums of the first i entries, each amount at most b: with what is left they make the whole
pub record Gathered {A : Type 0} (place : ℕ → A → ℕ) (amount : A → ℕ) (n b : ℕ) (sums : List Amount) (l : List A) (i : ℕ) : Type 0 where
  pub long : length sums ≡ n
  pub sum : (x : ℕ) → x < n → sum_at sums x + amounts_at place amount x i (drop i l) ≡ amounts_at place amount x 0 l
  pub small : (x : ℕ) → x < n → sum_at sums x ≤ i * b

module _ {A : Type 0} (place : ℕ → A → ℕ) (amount : A → ℕ) (n b : ℕ) where
  pub gathered_none : (l : List A) → Gathered place amount n b (replicate n (as_amount 0)) l 0
  gathered_none l = record {
    long = length-replicate n (as_amount 0);
    sum = λ x h. omega (arith, ap (λ (a : Amount). a.0) (get_or-replicate n x (as_amount 0) (as_amount 0) h));
    small = λ x h. omega (arith, ap (λ (a : Amount). a.0) (get_or-replicate n x (as_amount 0) (as_amount 0) h));
  }

  -- one entry more, with the place y and the amount m
  pub gathered_more : (sums : List Amount) (l : List A) (i : ℕ) (d : A) (y m : ℕ) → i < length l → place i (get_or l i d) ≡ y → amount (get_or l i d) ≡ m
      → y < n → m ≤ b → Gathered place amount n b sums l i → Gathered place amount n b (set sums y (as_amount (sum_at sums y + m))) l (i + 1)
  gathered_more sums l i d y m h p a k s g = record {
    long = length-set sums y (as_amount (sum_at sums y + m)) ∙ g.long;
    sum = λ x o. dite (ℕ_discrete x y)
        (λ e. omega (arith, g.sum x o, amounts_step place amount x i l d h, cond_yes (amount (get_or l i d)) 0 (eq-eqb (place i (get_or l i d)) x (p ∙ sym e)), a, same x e))
        (λ u. omega (arith, g.sum x o, amounts_step place amount x i l d h, cond_no (amount (get_or l i d)) 0 (ne_eqb (place i (get_or l i d)) x (λ e. u (sym e ∙ p))), other x u));
    small = λ x o. let had : sum_at sums x ≤ i * b = g.small x o in
        let more : (i + 1) * b ≡ i * b + b = omega arith in
        dite (ℕ_discrete x y) (λ e. omega (arith, same x e)) (λ u. omega (arith, other x u));
  }
    where
      same : (x : ℕ) → x ≡ y → sum_at (set sums y (as_amount (sum_at sums y + m))) x ≡ sum_at sums x + m
      same x e = rw e (ap (λ (a : Amount). a.0) (get_or-set_same sums y (as_amount (sum_at sums y + m)) (as_amount 0) (omega (arith, g.long))))

      other : (x : ℕ) → (x ≡ y → ⊥) → sum_at (set sums y (as_amount (sum_at sums y + m))) x ≡ sum_at sums x
      other x u = ap (λ (a : Amount). a.0) (get_or-set_other sums y x (as_amount (sum_at sums y + m)) (as_amount 0) u)

  pub gathered_done : (sums : List Amount) (l : List A) (i : ℕ) → length l ≤ i → Gathered place amount n b sums l i
      → (x : ℕ) → x < n → sum_at sums x ≡ amounts_at place amount x 0 l
  unfolding amounts_at
  gathered_done sums l i h g x k =
      omega (arith, g.sum x k, ap (amounts_at place amount x i) (drop_of_length-le l {i = i} h))
