-- A walk over the list by number: the test of each row below the count is the test of the list.
use Rattle.std.proofs.Common.{◌≡◌, ℕ, zero, suc, ◌+◌, ◌≤◌, Bool, ◌||◌, List, [], ◌∷◌, length, get_or, take, refl, sym, ap, ap₂, ◌∙◌, add-zero, arith}
use Rattle.std.specs.List.{list_any, range_with_len}
use Rattle.rules.specs.Words.{any}

module _ {A : Type 0} (t : A → Bool) (l : List A) (d : A) where
  -- the rows from a on are m
  any_from : (a n : ℕ) (m : List A) → n ≤ length m → ((i : ℕ) → get_or l (a + i) d ≡ get_or m i d)
      → list_any (λ i. t (get_or l i d)) (range_with_len a n) ≡ any t (take n m)
  unfolding any
  any_from a zero m h e = refl
  any_from a (suc n) [] h e = absurd (omega arith)
  any_from a (suc n) (x ∷ m) h e =
      ap₂ (λ (b c : Bool). b || c)
      (ap t (ap (λ (j : ℕ). get_or l j d) (sym (add-zero a)) ∙ e 0))
      (any_from (a + 1) n m (omega arith) (λ i. let f : (a + 1) + i ≡ a + suc i = omega arith in ap (λ (j : ℕ). get_or l j d) f ∙ e (suc i)))

  pub any_listed : (n : ℕ) → n ≤ length l → list_any (λ i. t (get_or l i d)) (range_with_len 0 n) ≡ any t (take n l)
  any_listed n h = any_from 0 n l h (λ i. let f : 0 + i ≡ i = omega arith in ap (λ (j : ℕ). get_or l j d) f)
