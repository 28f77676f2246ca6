-- A table: a loop over the entries in use, and one over the room behind them, and what a test of each says of `all`.
use Rattle.std.specs.Prelude.{◌≡◌, refl, Bool, true, false, ◌&&◌, List, [], ◌∷◌, ℕ, zero, suc, ◌+◌, ◌-◌, ◌<◌, ◌≤◌, length, get_or, take, drop}
use Rattle.std.specs.List.{list_all, range_with_len}
use Rattle.std.proofs.Common.{sym, ap, ◌∙◌, add-one, arith, get_or-take, length-take-le, drop-cons, take_all, length-drop}
use Rattle.std.proofs.lemmas.List.FromFn.{fill_by_all}
use Rattle.std.proofs.lemmas.List.Folds.{list_all-map}
use Rattle.rules.specs.Words.{all, from}
use Rattle.laws.specs.Cases.{and_mix}
use Rattle.laws.specs.Walks.{all_fails}

module _ {A : Type 0} (t : A → Bool) (l : List A) where
  -- ── the first n ──

  pub take_fails : (n i : ℕ) (d : A) → n ≤ length l → i < n → t (get_or l i d) ≡ false → false ≡ all t (take n l)
  take_fails n i d w h e =
      all_fails t (take n l) i d (omega (arith, length-take-le n l w)) (ap t (get_or-take n l i d h) ∙ e)

  pub take_done : (n i : ℕ) → i ≡ n → all t (take i l) ≡ true → true ≡ all t (take n l)
  take_done n i e a = sym a ∙ ap (λ (j : ℕ). all t (take j l)) e

  -- ── a walk by places ──

  all_places : (d : A) (n a : ℕ) → a + n ≤ length l → list_all (λ i. t (get_or l i d)) (range_with_len a n) ≡ all t (take n (drop a l))
  unfolding all
  all_places d zero a h = refl
  all_places d (suc n) a h =
      rw (drop-cons l a d (omega arith), all_places d n (a + 1) (omega arith), add-one a)

  -- over the first n entries, and over those from n on
  pub all_first : (d : A) (n : ℕ) → n ≤ length l → list_all (λ i. t (get_or l i d)) (range_with_len 0 n) ≡ all t (take n l)
  all_first d n h = all_places d n 0 (omega arith)

  pub all_rest : (d : A) (n m : ℕ) → length l ≡ m → n ≤ m → list_all (λ i. t (get_or l i d)) (range_with_len n (m - n)) ≡ all t (drop n l)
  all_rest d n m e h =
      all_places d (m - n) n (omega arith) ∙ ap (all t) (take_all (m - n) (drop n l) (omega (arith, length-drop n l)))

-- ── a walk over a list itself, and over all places of a list ──

pub all_is : {A : Type 0} (t : A → Bool) (l : List A) → list_all t l ≡ all t l
unfolding all
all_is t [] = refl
all_is t (x ∷ l) = ap (λ (b : Bool). t x && b) (all_is t l)

numbers_are : (n a : ℕ) → range_with_len a n ≡ from a n
unfolding from
numbers_are zero a = refl
numbers_are (suc n) a = rw (numbers_are n (a + 1), add-one a)

pub all_numbers : (t : ℕ → Bool) (n : ℕ) → list_all t (range_with_len 0 n) ≡ all t (from 0 n)
all_numbers t n = rw (numbers_are n 0) (all_is t (from 0 n))

pub all_by_place : {A : Type 0} (t : A → Bool) (l : List A) (d : A) (n : ℕ) → length l ≡ n → list_all t l ≡ all (λ i. t (get_or l i d)) (from 0 n)
all_by_place t l d n e =
    ap (list_all t) (fill_by_all (λ i. get_or l i d) l n d e (λ k h. refl)) ∙ list_all-map t (λ i. get_or l i d) (range_with_len 0 n)
    ∙ all_numbers (λ i. t (get_or l i d)) n

-- ── tests that agree ──

pub all_same : {A : Type 0} (t u : A → Bool) (l : List A) → ((x : A) → t x ≡ u x) → all t l ≡ all u l
unfolding all
all_same t u [] h = refl
all_same t u (x ∷ l) h = rw (h x, all_same t u l h)

-- two tests of each element are two walks
pub all_two : {A : Type 0} (t u : A → Bool) (l : List A) → all (λ x. t x && u x) l ≡ all t l && all u l
unfolding all
all_two t u [] = refl
all_two t u (x ∷ l) = ap (λ (b : Bool). (t x && u x) && b) (all_two t u l) ∙ and_mix (t x) (u x) (all t l) (all u l)
