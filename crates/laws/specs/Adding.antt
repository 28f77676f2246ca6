-- Sums beside `keep`, `each` and `from`: what the kept elements add up to, sums element by element, and sums where one element counts.
use Rattle.std.specs.Prelude.{◌≡◌, Bool, true, false, cond, ◌≢◌, get_or, set, ℤ, pos, ◌+ℤ◌, ◌-ℤ◌}
use Rattle.std.proofs.Math.Path.{refl, ap}
use Rattle.std.proofs.Common.{◌∙◌, le_of_suc-le-suc}
use mathlib.Core.List.{List, [], ◌∷◌, ◌++◌}
use Prim.Native.Nat.{ℕ, zero, suc, ◌+◌, ◌*◌, ◌<◌, ◌≤◌, zero-le}
use Rattle.std.proofs.Math.Logic.{dite}
use native.Mathlib.Omega.{arith}
use Rattle.std.proofs.Math.Decide.{dec_lt}
use Rattle.std.proofs.Math.ListN.{length}
use Rattle.std.proofs.Math.IntN.{nat_abs, +ℤ_idr, +ℤ_idl}
use Rattle.integers.specs.Sizes.{nat_abs_sum}
use Rattle.integers.specs.Linear.{zlin}
use Rattle.integers.specs.Sums.{sum_by, sum_by_append}
use Rattle.rules.specs.Words.{all, keep, total, each, from}
use Rattle.rules.specs.Bounds.{accounts, securities, every_account, every_security}
use Rattle.laws.specs.Cases.{by_test, both_hold}
use Rattle.laws.specs.Keeping.{keep_none, keep_yes, keep_no}

module _ {A : Type 0} where
  -- ── total ──

  pub total_append : (f : A → ℕ) (l m : List A) → total f (l ++ m) ≡ total f l + total f m
  unfolding total
  total_append f [] m = omega arith
  total_append f (x ∷ l) m = omega (arith, total_append f l m)

  -- one entry is replaced
  pub total_set : (f : A → ℕ) (l : List A) (i : ℕ) (a d : A) → i < length l → total f (set l i a) + f (get_or l i d) ≡ total f l + f a
  unfolding total
  total_set f [] i a d h = absurd (omega arith)
  total_set f (x ∷ l) zero a d h = omega arith
  total_set f (x ∷ l) (suc i) a d h = omega (arith, total_set f l i a d (le_of_suc-le-suc h))

  -- ── what is kept ──

  -- it adds up to the sum with nothing for the others
  pub sum_by_keep : (f : A → ℤ) (t : A → Bool) (l : List A) → sum_by f (keep t l) ≡ sum_by (λ x. cond (t x) (f x) (pos 0)) l
  sum_by_keep f t [] = rw keep_none
  sum_by_keep f t (x ∷ l) =
      let ih = sum_by_keep f t l in
      by_test (t x) (λ e. rw (keep_yes t x l e, e, ih)) (λ e. rw (keep_no t x l e, e, ih) (simp zlin (omega arith)))

  pub total_keep : (f : A → ℕ) (t : A → Bool) (l : List A) → total f (keep t l) ≡ total (λ x. cond (t x) (f x) 0) l
  unfolding total
  total_keep f t [] = rw keep_none
  total_keep f t (x ∷ l) =
      let ih = total_keep f t l in
      by_test (t x) (λ e. rw (keep_yes t x l e, e, ih)) (λ e. rw (keep_no t x l e, e, ih) (omega arith))

  -- to the same where f of each dropped element is 0
  pub sum_by_kept : (f : A → ℤ) (t : A → Bool) (l : List A) → ((x : A) → t x ≡ false → f x ≡ pos 0) → sum_by f (keep t l) ≡ sum_by f l
  sum_by_kept f t [] h = rw keep_none
  sum_by_kept f t (x ∷ l) h =
      let ih = sum_by_kept f t l h in
      by_test (t x) (λ e. rw (keep_yes t x l e, ih)) (λ e. rw (keep_no t x l e, h x e, ih) (simp zlin (omega arith)))

  pub total_kept : (f : A → ℕ) (t : A → Bool) (l : List A) → ((x : A) → t x ≡ false → f x ≡ 0) → total f (keep t l) ≡ total f l
  unfolding total
  total_kept f t [] h = rw keep_none
  total_kept f t (x ∷ l) h =
      let ih = total_kept f t l h in
      by_test (t x) (λ e. rw (keep_yes t x l e, ih)) (λ e. rw (keep_no t x l e, h x e, ih) (omega arith))

  -- and never to more
  pub total_keep_le : (f : A → ℕ) (t : A → Bool) (l : List A) → total f (keep t l) ≤ total f l
  unfolding total
  total_keep_le f t [] = rw keep_none zero-le
  total_keep_le f t (x ∷ l) =
      let ih = total_keep_le f t l in
      by_test (t x) (λ e. rw (keep_yes t x l e) (omega arith)) (λ e. rw (keep_no t x l e) (omega arith))

  -- ── sums, element by element ──

  pub sum_by_each : (f g : A → ℤ) (l : List A) → ((x : A) → f x ≡ g x) → sum_by f l ≡ sum_by g l
  sum_by_each f g [] h = refl
  sum_by_each f g (x ∷ l) h = rw (h x, sum_by_each f g l h)

  -- the same of elements that pass a test
  pub sum_by_each_in : (u : A → Bool) (f g : A → ℤ) (l : List A) → all u l ≡ true → ((x : A) → u x ≡ true → f x ≡ g x)
      → sum_by f l ≡ sum_by g l
  unfolding all
  sum_by_each_in u f g [] a h = refl
  sum_by_each_in u f g (x ∷ l) a h = let p = both_hold (u x) (all u l) a in rw (h x p.0, sum_by_each_in u f g l p.1 h)

  pub sum_by_nothing : (l : List A) → sum_by (λ (x : A). pos 0) l ≡ pos 0
  sum_by_nothing [] = refl
  sum_by_nothing (x ∷ l) = rw (sum_by_nothing l)

  pub sum_by_diff : (f g : A → ℤ) (l : List A) → sum_by (λ x. f x -ℤ g x) l ≡ sum_by f l -ℤ sum_by g l
  sum_by_diff f g [] = refl
  sum_by_diff f g (x ∷ l) = simp zlin (omega (arith, simp zlin at (sum_by_diff f g l)))

  -- a sum of terms that are each at most b
  pub sum_by_within : (u : A → Bool) (f : A → ℤ) (l : List A) (b : ℕ) → all u l ≡ true → ((x : A) → u x ≡ true → nat_abs (f x) ≤ b)
      → nat_abs (sum_by f l) ≤ length l * b
  unfolding all
  sum_by_within u f [] b a h = zero-le
  sum_by_within u f (x ∷ l) b a h =
      let p = both_hold (u x) (all u l) a in
      let one : nat_abs (f x) ≤ b = h x p.0 in
      let rest : nat_abs (sum_by f l) ≤ length l * b = sum_by_within u f l b p.1 h in
      omega (arith, nat_abs_sum (f x) (sum_by f l))

-- a sum of sums
module _ {A B : Type 0} where
  pub each_sum_by : (g : B → ℤ) (f : A → List B) (l : List A) → sum_by g (each f l) ≡ sum_by (λ x. sum_by g (f x)) l
  unfolding each
  each_sum_by g f [] = refl
  each_sum_by g f (x ∷ l) = sum_by_append g (f x) (each f l) ∙ ap (λ (r : ℤ). sum_by g (f x) +ℤ r) (each_sum_by g f l)

-- two numbers with the sum of two others: so too where they count only by one test
pub cond_sum : (b : Bool) (x y x' y' : ℤ) → x' +ℤ y' ≡ x +ℤ y → cond b x' (pos 0) +ℤ cond b y' (pos 0) ≡ cond b x (pos 0) +ℤ cond b y (pos 0)
cond_sum true x y x' y' e = e
cond_sum false x y x' y' e = refl

-- ── sums over the n numbers from i on ──

-- none counts
pub sum_by_miss : (f : ℕ → ℤ) (i n : ℕ) → ((j : ℕ) → i ≤ j → j < i + n → f j ≡ pos 0) → sum_by f (from i n) ≡ pos 0
unfolding from
sum_by_miss f i zero h = refl
sum_by_miss f i (suc n) h =
    rw (h i (omega arith) (omega arith), sum_by_miss f (suc i) n (λ j a b. h j (omega arith) (omega arith)))

-- only k counts
pub sum_by_hit : (f : ℕ → ℤ) (k i n : ℕ) → i ≤ k → k < i + n → ((j : ℕ) → i ≤ j → j < i + n → j ≢ k → f j ≡ pos 0)
    → sum_by f (from i n) ≡ f k
unfolding from
sum_by_hit f k i zero a b h = absurd (omega arith)
sum_by_hit f k i (suc n) a b h =
    let later : i < k → sum_by f (from (suc i) n) ≡ f k =
    λ c. sum_by_hit f k (suc i) n c (omega arith) (λ j p q r. h j (omega arith) (omega arith) r) in
    dite (dec_lt i k)
    (λ c. let e : f i ≡ pos 0 = h i (omega arith) (omega arith) (λ r. omega arith) in rw (e, later c) (+ℤ_idl (f k)))
    (λ c. let e : i ≡ k = omega arith in
    let m : sum_by f (from (suc i) n) ≡ pos 0 = sum_by_miss f (suc i) n (λ j p q. h j (omega arith) (omega arith) (λ r. omega arith)) in
    rw m (+ℤ_idr (f i)) ∙ ap f e)

-- only account k counts, or only security k
pub sum_account : (f : ℕ → ℤ) (k : ℕ) → k < accounts → ((a : ℕ) → a < accounts → a ≢ k → f a ≡ pos 0) → sum_by f every_account ≡ f k
unfolding every_account
sum_account f k h z = sum_by_hit f k 0 accounts (omega arith) h (λ a p q r. z a q r)

pub sum_security : (f : ℕ → ℤ) (k : ℕ) → k < securities → ((s : ℕ) → s < securities → s ≢ k → f s ≡ pos 0) → sum_by f every_security ≡ f k
unfolding every_security
sum_security f k h z = sum_by_hit f k 0 securities (omega arith) h (λ s p q r. z s q r)
