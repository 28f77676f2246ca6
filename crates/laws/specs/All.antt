-- Laws of `all`: from its elements, for parts of a list, and for lists that are made of the elements of another.
use Rattle.std.specs.Prelude.{◌≡◌, Bool, true, ◌&&◌, ltb, length, get_or, set}
use Rattle.std.proofs.Math.Path.{refl}
use Rattle.std.proofs.Common.{ap, le_of_suc-le-suc, arith, lt-ltb}
use mathlib.Core.List.{List, [], ◌∷◌, ◌++◌, map}
use Prim.Native.Nat.{ℕ, zero, suc, ◌+◌, ◌<◌, ◌≤◌, zero-le, suc-le-suc}
use Rattle.rules.specs.Words.{all, each, from}
use Rattle.rules.specs.Bounds.{accounts, securities, currencies, every_account, every_security, every_currency}
use Rattle.laws.specs.Cases.{both_hold, and_hold}

module _ {A : Type 0} where
  -- ── by its elements ──

  pub all_by : (t : A → Bool) (l : List A) → ((x : A) → t x ≡ true) → all t l ≡ true
  unfolding all
  all_by t [] h = refl
  all_by t (x ∷ l) h = and_hold (h x) (all_by t l h)

  pub all_by_index : (t : A → Bool) (l : List A) (d : A) → ((i : ℕ) → i < length l → t (get_or l i d) ≡ true) → all t l ≡ true
  unfolding all
  all_by_index t [] d h = refl
  all_by_index t (x ∷ l) d h = and_hold (h zero (suc-le-suc zero-le)) (all_by_index t l d (λ i k. h (suc i) (suc-le-suc k)))

  -- what one test says of an element, the other says too
  pub all_so : (t u : A → Bool) (l : List A) → ((x : A) → t x ≡ true → u x ≡ true) → all t l ≡ true → all u l ≡ true
  unfolding all
  all_so t u [] h a = refl
  all_so t u (x ∷ l) h a = let b = both_hold (t x) (all t l) a in and_hold (h x b.0) (all_so t u l h b.1)

  -- two tests
  pub all_and : (t u : A → Bool) (l : List A) → all t l ≡ true → all u l ≡ true → all (λ x. t x && u x) l ≡ true
  unfolding all
  all_and t u [] a b = refl
  all_and t u (x ∷ l) a b =
      let p = both_hold (t x) (all t l) a in
      let q = both_hold (u x) (all u l) b in
      and_hold (and_hold p.0 q.0) (all_and t u l p.1 q.1)

  -- ── parts of a list ──

  pub all_cons : (t : A → Bool) (x : A) (l : List A) → all t (x ∷ l) ≡ true → (t x ≡ true) × (all t l ≡ true)
  unfolding all
  all_cons t x l a = both_hold (t x) (all t l) a

  pub all_both : (t : A → Bool) (l m : List A) → all t l ≡ true → all t m ≡ true → all t (l ++ m) ≡ true
  unfolding all
  all_both t [] m a b = b
  all_both t (x ∷ l) m a b = let p = both_hold (t x) (all t l) a in and_hold p.0 (all_both t l m p.1 b)

  pub all_left : (t : A → Bool) (l m : List A) → all t (l ++ m) ≡ true → all t l ≡ true
  unfolding all
  all_left t [] m a = refl
  all_left t (x ∷ l) m a = let p = both_hold (t x) (all t (l ++ m)) a in and_hold p.0 (all_left t l m p.1)

  -- one element is replaced
  pub all_set : (t : A → Bool) (l : List A) (i : ℕ) (a : A) → all t l ≡ true → t a ≡ true → all t (set l i a) ≡ true
  unfolding all
  all_set t [] i a h e = refl
  all_set t (x ∷ l) zero a h e = and_hold e (both_hold (t x) (all t l) h).1
  all_set t (x ∷ l) (suc i) a h e = let p = both_hold (t x) (all t l) h in and_hold p.0 (all_set t l i a p.1 e)

-- ── lists made of the elements of a list ──

module _ {A B : Type 0} where
  pub each_all : (t : B → Bool) (f : A → List B) (l : List A) → ((x : A) → all t (f x) ≡ true) → all t (each f l) ≡ true
  unfolding each all
  each_all t f [] h = refl
  each_all t f (x ∷ l) h = all_both t (f x) (each f l) (h x) (each_all t f l h)

  -- where the elements of the first list pass a test that makes those of the second pass theirs
  pub each_all_in : (u : A → Bool) (t : B → Bool) (f : A → List B) (l : List A) → all u l ≡ true
      → ((x : A) → u x ≡ true → all t (f x) ≡ true) → all t (each f l) ≡ true
  unfolding each all
  each_all_in u t f [] a h = refl
  each_all_in u t f (x ∷ l) a h =
      let p = both_hold (u x) (all u l) a in
      all_both t (f x) (each f l) (h x p.0) (each_all_in u t f l p.1 h)

  pub map_all_in : (u : A → Bool) (t : B → Bool) (f : A → B) (l : List A) → all u l ≡ true
      → ((x : A) → u x ≡ true → t (f x) ≡ true) → all t (map f l) ≡ true
  unfolding all
  map_all_in u t f [] a h = refl
  map_all_in u t f (x ∷ l) a h =
      let p = both_hold (u x) (all u l) a in
      and_hold (h x p.0) (map_all_in u t f l p.1 h)

-- ── numbers ──

-- the n numbers from i on
pub from_length : (i n : ℕ) → length (from i n) ≡ n
unfolding from
from_length i zero = refl
from_length i (suc n) = ap suc (from_length (suc i) n)

pub from_at : (i n j : ℕ) → j < n → get_or (from i n) j 0 ≡ i + j
unfolding from
from_at i zero j h = absurd (omega arith)
from_at i (suc n) zero h = omega arith
from_at i (suc n) (suc j) h = omega (arith, from_at (suc i) n j (le_of_suc-le-suc h))

-- they are below any k that is at least i + n
pub from_below : (i n k : ℕ) → i + n ≤ k → all (λ j. ltb j k) (from i n) ≡ true
unfolding from all
from_below i zero k h = refl
from_below i (suc n) k h = and_hold (lt-ltb i k (omega arith)) (from_below (suc i) n k (omega arith))

pub accounts_below : all (λ a. ltb a accounts) every_account ≡ true
unfolding every_account
accounts_below = from_below 0 accounts accounts (omega arith)

pub securities_below : all (λ s. ltb s securities) every_security ≡ true
unfolding every_security
securities_below = from_below 0 securities securities (omega arith)

pub currencies_below : all (λ c. ltb c currencies) every_currency ≡ true
unfolding every_currency
currencies_below = from_below 0 currencies currencies (omega arith)

-- the securities by their place
pub securities_length : length every_security ≡ securities
unfolding every_security
securities_length = from_length 0 securities

pub security_at : (s : ℕ) → s < securities → get_or every_security s 0 ≡ s
unfolding every_security
security_at s h = omega (arith, from_at 0 securities s h)
