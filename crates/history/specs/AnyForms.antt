-- Two lists of trades, each with distinct numbers, that have the same trade for every number are the same list in another order.
use Rattle.std.specs.Prelude.{◌≡◌, true, false, cond, Option, Some, None}
use Rattle.std.proofs.Math.Path.{refl, ap}
use Rattle.std.proofs.Common.{sym, ◌∙◌}
use Rattle.std.proofs.Math.Bool.{Bool, not}
use mathlib.Core.List.Perm
use mathlib.Core.List.{List, [], ◌∷◌, Perm}
use Prim.Native.Nat.{ℕ}
use Rattle.std.proofs.Math.Dec.{eqb}
use borrow.Author.Tests.{eqb-true, eq-eqb, not-true}
use Rattle.rules.specs.Words.{all}
use Rattle.rules.specs.Sound.{distinct}
use Rattle.rules.specs.declared.Trade.{Trade}
use Rattle.laws.specs.Cases.{by_test, true_false, both_hold, and_hold, cond_yes, cond_no, eqb_swap}
use Rattle.history.specs.Histories.{find}
use Rattle.history.specs.Survivors.{numbers_of}

-- ── found or not ──

is_found : Option Trade → Bool
is_found None = false
is_found (Some t) = true

found_one : {P : Type 0} {t : Trade} → None ≡ Some t → P
unfolding is_found
found_one e = true_false refl (sym (ap is_found e))

same_one : (t u : Trade) → Some t ≡ Some u → t ≡ u
same_one t u e = cc

-- the number stands in none of them
absent : (n : ℕ) (ts : List Trade) → all (λ m. not (eqb n m)) (numbers_of ts) ≡ true → find n ts ≡ None
unfolding all find
absent n [] a = refl
absent n (t ∷ ts) a =
    let p = both_hold (not (eqb n t.number)) (all (λ m. not (eqb n m)) (numbers_of ts)) a in
    cond_no (Some t) (find n ts) (eqb_swap t.number n ∙ not-true (eqb n t.number) p.0) ∙ absent n ts p.1

-- ── a list without the trade of a number ──

removed : ℕ → List Trade → List Trade
removed n [] = []
removed n (t ∷ ts) = let rest = t ∷ removed n ts in cond (eqb t.number n) ts rest

module _ (n : ℕ) where
  removed_all : (u : ℕ → Bool) (ts : List Trade) → all u (numbers_of ts) ≡ true → all u (numbers_of (removed n ts)) ≡ true
  unfolding all removed
  removed_all u [] a = refl
  removed_all u (t ∷ ts) a =
      let p = both_hold (u t.number) (all u (numbers_of ts)) a in
      let ih = removed_all u ts p.1 in
      by_test (eqb t.number n) (λ y. rw y p.1) (λ z. rw z (and_hold p.0 ih))

  removed_distinct : (ts : List Trade) → distinct (numbers_of ts) ≡ true → distinct (numbers_of (removed n ts)) ≡ true
  unfolding distinct removed
  removed_distinct [] d = refl
  removed_distinct (t ∷ ts) d =
      let others : ℕ → Bool = λ m. not (eqb t.number m) in
      let p = both_hold (all others (numbers_of ts)) (distinct (numbers_of ts)) d in
      let ih = removed_distinct ts p.1 in
      by_test (eqb t.number n) (λ y. rw y p.1) (λ z. rw z (and_hold (removed_all others ts p.0) ih))

  -- it stands before the rest, in another order
  removed_order : (ts : List Trade) (u : Trade) → find n ts ≡ Some u → Perm ts (u ∷ removed n ts)
  unfolding find removed
  removed_order [] u e = found_one e
  removed_order (t ∷ ts) u e =
      by_test (eqb t.number n)
      (λ y. rw y (Perm.cons' (same_one t u (rw y at e)) (Perm.refl ts)))
      (λ z. rw z (Perm.trans (Perm.cons t (removed_order ts u (rw z at e))) (Perm.swap u t (removed n ts))))

  -- every other number stands in the rest as before, and this one no more
  removed_find : (m : ℕ) (ts : List Trade) → distinct (numbers_of ts) ≡ true → find m (removed n ts) ≡ cond (eqb n m) None (find m ts)
  unfolding find removed distinct
  removed_find m [] d = by_test (eqb n m) (λ y. rw y) (λ z. rw z)
  removed_find m (t ∷ ts) d =
      let p = both_hold (all (λ i. not (eqb t.number i)) (numbers_of ts)) (distinct (numbers_of ts)) d in
      let ih = removed_find m ts p.1 in
      by_test (eqb t.number n)
      (λ y. by_test (eqb n m)
      (λ e. rw (y, e) (absent m ts (rw (eqb-true t.number n y, eqb-true n m e) at p.0)))
      (λ e. rw (y, e) (sym (cond_no (Some t) (find m ts) (ap (λ (i : ℕ). eqb i m) (eqb-true t.number n y) ∙ e)))))
      (λ z. by_test (eqb t.number m)
      (λ e. rw (z, e, ap (eqb n) (sym (eqb-true t.number m e)) ∙ eqb_swap n t.number ∙ z))
      (λ e. rw (z, e) ih))

-- ── the same trade for every number ──

pub same_order : (us vs : List Trade) → distinct (numbers_of us) ≡ true → distinct (numbers_of vs) ≡ true → ((n : ℕ) → find n us ≡ find n vs) → Perm us vs
unfolding find distinct
same_order [] [] d e h = Perm.refl []
same_order [] (v ∷ vs) d e h = found_one (h v.number ∙ cond_yes (Some v) (find v.number vs) (eq-eqb v.number v.number refl))
same_order (u ∷ us) vs d e h =
    let n = u.number in
    let p = both_hold (all (λ m. not (eqb n m)) (numbers_of us)) (distinct (numbers_of us)) d in
    let here : find n vs ≡ Some u = sym (h n) ∙ cond_yes (Some u) (find n us) (eq-eqb n n refl) in
    let rest : (m : ℕ) → find m us ≡ find m (removed n vs) =
    λ m. by_test (eqb n m)
    (λ y. absent m us (rw (eqb-true n m y) at p.0) ∙ sym (removed_find n m vs e ∙ cond_yes None (find m vs) y))
    (λ z. sym (cond_no (Some u) (find m us) z) ∙ h m ∙ sym (removed_find n m vs e ∙ cond_no None (find m vs) z)) in
    Perm.trans (Perm.cons u (same_order us (removed n vs) p.1 (removed_distinct n vs e) rest)) (Perm.symm (removed_order n vs u here))
