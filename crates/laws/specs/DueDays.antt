-- Records that ascend, by a day: the older ones stand first, then those due on the day, then the later ones; and no two that are due on
-- one day face each other.
use Rattle.std.specs.Prelude.{◌≡◌, Bool, true, ◌&&◌, ℕ, ◌<◌, ◌≤◌, eqb}
use Rattle.std.proofs.Math.Path.{refl, sym, ap}
use Rattle.std.proofs.Common.{◌∙◌, arith}
use Rattle.std.proofs.Math.Bool.{not}
use mathlib.Core.List.{List, [], ◌∷◌, ◌++◌}
use Rattle.std.proofs.Math.Dec.{ltb}
use borrow.Author.Tests.{ltb-true, ltb-false, lt-ltb, le-ltb, eqb-true, eqb-false, eq-eqb, ne_eqb}
use Rattle.rules.specs.Words.{all, keep}
use Rattle.rules.specs.Book.{due_of}
use Rattle.rules.specs.Sound.{ascends}
use Rattle.rules.specs.declared.Position.{Position}
use Rattle.laws.specs.Cases.{by_test, both_hold, and_hold}
use Rattle.laws.specs.All.{all_so, all_and}
use Rattle.laws.specs.Keeping.{keep_none, keep_yes, keep_no, keep_nothing}
use Rattle.laws.specs.Numbers.{number_order}
use Rattle.laws.specs.Order.{from_ascends, from_above}
use Rattle.laws.specs.Facing.{apart, peace, peace_back, peace_joined, numbers_apart, not_itself}

-- ── older, newly due, later ──

abbrev pub is_older : ℕ → Position → Bool
is_older d p = ltb (due_of p) d

abbrev pub is_newly : ℕ → Position → Bool
is_newly d p = eqb (due_of p) d

abbrev pub is_later : ℕ → Position → Bool
is_later d p = ltb d (due_of p)

-- behind a record come no earlier due days
not_earlier : (p : Position) (ps : List Position) → ascends (p ∷ ps) ≡ true → (t : Position → Bool)
    → ((q : Position) → due_of p ≤ due_of q → not (t q) ≡ true) → all (λ q. not (t q)) ps ≡ true
unfolding ascends
not_earlier p ps a t f =
    all_so (λ q. ltb p.number q.number) (λ q. not (t q)) ps
    (λ q e. f q (number_order p q (ltb-true p.number q.number e))) (from_above p.number ps a)

module _ (d : ℕ) where
  abbrev parts : List Position → List Position
  parts ps = keep (is_older d) ps ++ (keep (is_newly d) ps ++ keep (is_later d) ps)

  module _ (p : Position) (ps : List Position) (a : ascends (p ∷ ps) ≡ true) (ih : parts ps ≡ ps) where
    first_older : due_of p < d → parts (p ∷ ps) ≡ p ∷ ps
    first_older h =
        rw (
          keep_yes (is_older d) p ps (lt-ltb (due_of p) d h),
          keep_no (is_newly d) p ps (ne_eqb (due_of p) d (λ e. omega arith)),
          keep_no (is_later d) p ps (le-ltb d (due_of p) (omega arith)),
        )
        (ap (λ (l : List Position). p ∷ l) ih)

    -- no older one stands behind one that is not older
    none_older : d ≤ due_of p → keep (is_older d) ps ≡ []
    none_older h =
        keep_nothing (is_older d) ps (not_earlier p ps a (is_older d) (λ q l. ap not (le-ltb (due_of q) d (omega arith))))

    none_newly : d < due_of p → keep (is_newly d) ps ≡ []
    none_newly h =
        keep_nothing (is_newly d) ps (not_earlier p ps a (is_newly d) (λ q l. ap not (ne_eqb (due_of q) d (λ e. omega arith))))

    first_newly : due_of p ≡ d → parts (p ∷ ps) ≡ p ∷ ps
    first_newly h =
        let n = none_older (omega arith) in
        rw (
          keep_no (is_older d) p ps (le-ltb (due_of p) d (omega arith)),
          keep_yes (is_newly d) p ps (eq-eqb (due_of p) d h),
          keep_no (is_later d) p ps (le-ltb d (due_of p) (omega arith)),
          n,
        )
        (ap (λ (l : List Position). p ∷ l) (rw n at ih))

    first_later : d < due_of p → parts (p ∷ ps) ≡ p ∷ ps
    first_later h =
        let n = none_older (omega arith) in
        let m = none_newly h in
        rw (
          keep_no (is_older d) p ps (le-ltb (due_of p) d (omega arith)),
          keep_no (is_newly d) p ps (ne_eqb (due_of p) d (λ e. omega arith)),
          keep_yes (is_later d) p ps (lt-ltb d (due_of p) h),
          n,
          m,
        )
        (ap (λ (l : List Position). p ∷ l) (rw (n, m) at ih))

  pub parts_whole : (ps : List Position) → ascends ps ≡ true → keep (is_older d) ps ++ (keep (is_newly d) ps ++ keep (is_later d) ps) ≡ ps
  unfolding ascends
  parts_whole [] a = rw (keep_none (is_older d), keep_none (is_newly d), keep_none (is_later d))
  parts_whole (p ∷ ps) a =
      let ih = parts_whole ps (from_ascends p.number ps a) in
      by_test (ltb (due_of p) d)
      (λ e. first_older p ps a ih (ltb-true (due_of p) d e))
      (λ e. by_test (eqb (due_of p) d)
      (λ f. first_newly p ps a ih (eqb-true (due_of p) d f))
      (λ f. first_later p ps a ih (omega (arith, ltb-false (due_of p) d e, eqb-false (due_of p) d f))))

  -- ── records of one due day ──

  one_before : (p : Position) (ps : List Position) → ascends (p ∷ ps) ≡ true → due_of p ≡ d → all (is_newly d) ps ≡ true → all (apart p) ps ≡ true
  unfolding ascends
  one_before p ps a h n =
      all_so (λ q. ltb p.number q.number && is_newly d q) (apart p) ps
      (λ q e. let x = both_hold (ltb p.number q.number) (is_newly d q) e in
      ap not (numbers_apart p q (h ∙ sym (eqb-true (due_of q) d x.1)) (ltb-true p.number q.number x.0)))
      (all_and (λ q. ltb p.number q.number) (is_newly d) ps (from_above p.number ps a) n)

  pub day_peace : (ps : List Position) → ascends ps ≡ true → all (is_newly d) ps ≡ true → peace ps ps ≡ true
  unfolding peace all ascends
  day_peace [] a n = refl
  day_peace (p ∷ ps) a n =
      let x = both_hold (is_newly d p) (all (is_newly d) ps) n in
      peace_joined (p ∷ []) ps
      (and_hold (and_hold (ap not (not_itself p)) refl) refl)
      (day_peace ps (from_ascends p.number ps a) x.1)
      (peace_back (p ∷ []) ps (and_hold (one_before p ps a (eqb-true (due_of p) d x.0) x.1) refl))
