-- Sums of quantities by security, one record more at a time.
use Rattle.std.specs.Prelude.{◌≡◌, refl, Bool, true, cond, List, [], ◌∷◌, ◌++◌, ℕ, zero, suc, ◌+◌, ◌*◌, ◌<◌, ◌≤◌, eqb, length, get_or, set, take, replicate, ℤ, pos, nat_abs, ◌+ℤ◌}
use Rattle.std.proofs.Common.{sym, ap, ◌∙◌, append-nil, le_of_suc-le-suc, add-one, arith, length-set, take-suc, get_or-take, length-take-le, get_or-set_same, get_or-set_other, eqb-true}
use Rattle.std.proofs.lemmas.List.{length-replicate, get_or-replicate}
use Rattle.std.proofs.lemmas.Bool.{eqb-false}
use Rattle.integers.specs.Linear.{zlin}
use Rattle.integers.specs.Sums.{sum_by, sum_by_append}
use Rattle.units.specs.Units.{shares_of, shares, most_shares}
use Rattle.units.specs.declared.Shares.{Shares}
use Rattle.rules.specs.Words.{all, keep}
use Rattle.rules.specs.Bounds.{securities, most_records}
use Rattle.rules.specs.Book.{quantity_of, security_of, no_position}
use Rattle.rules.specs.Sound.{sizes_fit}
use Rattle.rules.specs.declared.Position.{Position}
use Rattle.laws.specs.Cases.{by_test, both_hold, and_hold, cond_yes, cond_no}
use Rattle.laws.specs.Walks.{all_at}
use Rattle.laws.specs.Keeping.{keep_append, keep_none, keep_yes, keep_no, keep_all, keep_length}
use Rattle.laws.specs.Adding.{sum_by_within}
use Rattle.laws.specs.Numbers.{security_below}
use Rattle.laws.specs.SoundParts.{shares_fit}

-- ── the sums ──

abbrev pub of_security : ℕ → List Position → List Position
of_security s ps = keep (λ p. eqb (security_of p) s) ps

-- what the quantities of a security add up to
abbrev pub sum_of : ℕ → List Position → ℤ
sum_of s ps = sum_by quantity_of (of_security s ps)

-- the sum of a security, and what it comes to
abbrev pub sum_in : List Shares → ℕ → Shares
sum_in sums s = get_or sums s (shares (pos 0))

abbrev pub sum_at : List Shares → ℕ → ℤ
sum_at sums s = shares_of (sum_in sums s)

-- one record more
unfoldable pub with_quantity : List Shares → Position → List Shares
with_quantity sums p = set sums (security_of p) (shares (sum_at sums (security_of p) +ℤ quantity_of p))

-- as the code has it: the sum q stands at the record's security
pub with_sum : (sums : List Shares) (s : ℕ) (p : Position) (q : Shares) → s ≡ security_of p → shares_of q ≡ sum_at sums s +ℤ quantity_of p
    → set sums s q ≡ with_quantity sums p
unfolding with_quantity
with_sum sums s p q e f = let g : q ≡ shares (sum_at sums s +ℤ quantity_of p) = ap shares f in rw (g, e)

-- the sums are those of the positions
pub record Summed (ps : List Position) (sums : List Shares) : Type 0 where
  pub room : length sums ≡ securities
  pub sum : (s : ℕ) → s < securities → sum_at sums s ≡ sum_of s ps

pub summed_none : (d : Position → Bool) (l : List Position) → Summed (keep d (take 0 l)) (replicate securities (shares (pos 0)))
summed_none d l =
    let none : (s : ℕ) → sum_of s (keep d []) ≡ pos 0 = λ s. rw (keep_none d, keep_none (λ p. eqb (security_of p) s)) in
    record {
      room = length-replicate securities (shares (pos 0));
      sum = λ s h. ap shares_of (get_or-replicate securities s (shares (pos 0)) (shares (pos 0)) h) ∙ sym (none s);
    }

sum_append : (s : ℕ) (ps qs : List Position) → sum_of s (ps ++ qs) ≡ sum_of s ps +ℤ sum_of s qs
sum_append s ps qs =
    ap (sum_by quantity_of) (keep_append (λ p. eqb (security_of p) s) ps qs) ∙ sum_by_append quantity_of (of_security s ps) (of_security s qs)

one_more : (sums : List Shares) (ps : List Position) (p : Position) → Summed ps sums → (s : ℕ) → s < securities
    → sum_at (with_quantity sums p) s ≡ sum_of s (ps ++ (p ∷ []))
unfolding with_quantity
one_more sums ps p h s k =
    let t : Position → Bool = λ p. eqb (security_of p) s in
    let v : Shares = shares (sum_at sums (security_of p) +ℤ quantity_of p) in
    by_test (t p)
    (λ y. let i : security_of p ≡ s = eqb-true (security_of p) s y in
    let a : sum_at (set sums (security_of p) v) (security_of p) ≡ shares_of v = ap shares_of (get_or-set_same sums (security_of p) v (shares (pos 0)) (omega (arith, h.room, security_below p))) in
    let b : sum_of s (p ∷ []) ≡ quantity_of p +ℤ pos 0 = ap (sum_by quantity_of) (keep_yes t p [] y ∙ ap (λ (r : List Position). p ∷ r) (keep_none t)) in
    let c : sum_at (set sums (security_of p) v) s ≡ sum_at sums s +ℤ quantity_of p =
    ap (λ (j : ℕ). sum_at (set sums (security_of p) v) j) (sym i) ∙ a ∙ ap (λ (j : ℕ). sum_at sums j +ℤ quantity_of p) i in
    c ∙ ap (λ (z : ℤ). z +ℤ quantity_of p) (h.sum s k)
    ∙ sym (sum_append s ps (p ∷ []) ∙ ap (λ (z : ℤ). sum_of s ps +ℤ z) (b ∙ simp zlin (omega arith))))
    (λ y. let b : sum_of s (p ∷ []) ≡ pos 0 = ap (sum_by quantity_of) (keep_no t p [] y ∙ keep_none t) in
    let c : sum_at (set sums (security_of p) v) s ≡ sum_at sums s =
    ap shares_of (get_or-set_other sums (security_of p) s v (shares (pos 0)) (λ i. eqb-false (security_of p) s y (sym i))) in
    c ∙ h.sum s k ∙ sym (sum_append s ps (p ∷ []) ∙ ap (λ (z : ℤ). sum_of s ps +ℤ z) b ∙ simp zlin (omega arith)))

summed_more : (ps : List Position) (sums : List Shares) (p : Position) → Summed ps sums → Summed (ps ++ (p ∷ [])) (with_quantity sums p)
unfolding with_quantity
summed_more ps sums p h =
    record {
      room = length-set sums (security_of p) (shares (sum_at sums (security_of p) +ℤ quantity_of p)) ∙ h.room;
      sum = one_more sums ps p h;
    }

-- one more record of a table, counted if it passes the test d
pub summed_step : (d : Position → Bool) (l : List Position) (i : ℕ) (t u : List Shares) → i < length l → Summed (keep d (take i l)) t
    → u ≡ cond (d (get_or l i no_position)) (with_quantity t (get_or l i no_position)) t → Summed (keep d (take (i + 1) l)) u
summed_step d l i t u w h e =
    let p = get_or l i no_position in
    let a : keep d (take (i + 1) l) ≡ keep d (take i l) ++ keep d (p ∷ []) =
    ap (λ (j : ℕ). keep d (take j l)) (add-one i) ∙ ap (keep d) (take-suc l i no_position w) ∙ keep_append d (take i l) (p ∷ []) in
    by_test (d p)
    (λ y. let g : keep d (take (i + 1) l) ≡ keep d (take i l) ++ (p ∷ []) =
    a ∙ ap (λ (r : List Position). keep d (take i l) ++ r) (keep_yes d p [] y ∙ ap (λ (r : List Position). p ∷ r) (keep_none d)) in
    let v : u ≡ with_quantity t p = e ∙ cond_yes (with_quantity t p) t y in
    rw (g, v) (summed_more (keep d (take i l)) t p h))
    (λ y. let g : keep d (take (i + 1) l) ≡ keep d (take i l) =
    a ∙ ap (λ (r : List Position). keep d (take i l) ++ r) (keep_no d p [] y ∙ keep_none d) ∙ append-nil (keep d (take i l)) in
    let v : u ≡ t = e ∙ cond_no (with_quantity t p) t y in
    rw (g, v) h)

-- ── no sum passes 64 bits ──

-- the most that 1,024 records add up to, either side of zero
abbrev pub most_sum : ℕ
most_sum = most_records * most_shares

pub record Room (sum : Shares) (p : Position) : Type 0 where
  pub had : nat_abs (shares_of sum) ≤ most_sum
  pub size : nat_abs (quantity_of p) ≤ most_shares

-- as the code has it: the security and the record as they were read
pub room_read : (sums : List Shares) (s : ℕ) (p q : Position) → s ≡ security_of p → p ≡ q → Room (sum_in sums (security_of q)) q → Room (sum_in sums s) p
room_read sums s p q e f r = rw (e, f) r

all_first : (t : Position → Bool) (l : List Position) (i n : ℕ) → i ≤ n → all t (take n l) ≡ true → all t (take i l) ≡ true
unfolding all
all_first t l zero n h a = refl
all_first t l (suc i) zero h a = absurd (omega arith)
all_first t [] (suc i) (suc n) h a = refl
all_first t (p ∷ l) (suc i) (suc n) h a =
    let b = both_hold (t p) (all t (take n l)) a in
    and_hold b.0 (all_first t l i n (le_of_suc-le-suc h) b.1)

module _ (l : List Position) (n i : ℕ) (a : all sizes_fit (take n l) ≡ true) (h : i < n) (w : n ≤ length l) (v : n ≤ most_records) where
  within : (d : Position → Bool) (s : ℕ) → nat_abs (sum_of s (keep d (take i l))) ≤ most_sum
  within d s =
      let t : Position → Bool = λ p. eqb (security_of p) s in
      let fits = keep_all t sizes_fit (keep d (take i l)) (keep_all d sizes_fit (take i l) (all_first sizes_fit l i n (omega arith) a)) in
      omega (arith, sum_by_within sizes_fit quantity_of (keep t (keep d (take i l))) most_shares fits shares_fit, keep_length t (keep d (take i l)), keep_length d (take i l), length-take-le i l (omega arith))

  pub room_for : (d : Position → Bool) (sums : List Shares) → Summed (keep d (take i l)) sums → Room (sum_in sums (security_of (get_or l i no_position))) (get_or l i no_position)
  room_for d sums e =
      let p = get_or l i no_position in
      record {
        had = rw (e.sum (security_of p) (security_below p)) (within d (security_of p));
        size = shares_fit p (rw (get_or-take n l i no_position h) at (all_at sizes_fit (take n l) i no_position a (omega (arith, length-take-le n l w))));
      }
