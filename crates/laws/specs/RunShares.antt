-- The shares of a run: each security's quantities due by the day total as before, as do those due on day + 1; what is owed and what is wanted
-- each fall by the shares moved.
use Rattle.std.specs.Prelude.{◌≡◌, refl, true, false, ◌&&◌, List, [], ◌∷◌, ℕ, ◌+◌, ◌-◌, ◌<◌, length, set}
use Rattle.std.proofs.Math.Path.{sym, ap}
use Rattle.std.proofs.Common.{◌∙◌, length-set, get_or-set_other}
use Rattle.std.proofs.Math.Bool.{Bool}
use native.Mathlib.Omega.{arith}
use Rattle.std.proofs.Math.Dec.{eqb}
use borrow.Author.Tests.{ltb-false, leb-true, ne_eqb}
use Rattle.integers.specs.Sums.{sum_by}
use Rattle.rules.specs.Words.{keep, total}
use Rattle.rules.specs.Bounds.{every_security}
use Rattle.rules.specs.Book.{quantity_of, is_zero, due_of, security_of, open_of, no_position}
use Rattle.rules.specs.Sound.{is_due, balanced, due_balanced, sound}
use Rattle.rules.specs.Parts.{without}
use Rattle.rules.specs.Roll.{remains}
use Rattle.rules.specs.Run.{Side, short_of, long_of, due_in, receivers, wanted, shares_moved, settled}
use Rattle.rules.specs.declared.Position.{Position}
use Rattle.rules.specs.declared.Book.{Book}
use Rattle.laws.specs.Cases.{both_hold, and_hold, cond_none}
use Rattle.laws.specs.All.{all_so}
use Rattle.laws.specs.Keeping.{keep_both, keep_swap}
use Rattle.laws.specs.Adding.{sum_by_kept, total_kept, total_set}
use Rattle.laws.specs.Rows.{row, without_both}
use Rattle.laws.specs.Taking.{without_due, without_security}
use Rattle.laws.specs.Meetings.{both_shares_of}
use Rattle.laws.specs.Walk.{Walking, is_due_in, owes, wants, met_at, walked}
use Rattle.laws.specs.Spare.{some}
use Rattle.laws.specs.SidesOf.{asked, owing_less, wanting_less, owes_or_wants, receivers_are}
use Rattle.laws.specs.SoundParts.{sound_parts}
use Rattle.laws.specs.Shaped.{Shaped}
use Rattle.laws.specs.RunKeeps.{Loses, Meets, unlike, Steady, walk_keeps}
use Rattle.laws.specs.RunLeaves.{room, gone, settled_is, settled_open, closed_day, end_shares}

-- ── what two rows count, when each has k shares less ──

total_both : (f : Position → ℕ) (ps : List Position) (g r k : ℕ) → g < length ps → r < length ps → (r ≡ g → ⊥)
    → total f (without_both ps g r k) + (f (row ps g) + f (row ps r)) ≡ total f ps + (f (without (row ps g) k) + f (without (row ps r) k))
unfolding without_both
total_both f ps g r k hg hr ne =
    let p : Position = without (row ps g) k in
    let e = total_set f ps g p no_position hg in
    let e' = rw (get_or-set_other ps g r p no_position ne) at (total_set f (set ps g p) r (without (row ps r) k) no_position (omega (arith, length-set ps g p))) in
    omega arith

-- what is owed is k less, and what is wanted
pub owes_less : (d s : ℕ) (p : Position) (k : ℕ) → owes d s (without p k) ≡ owes d s p - k
owes_less d s p k = ap (λ (x : Side). x.shares) (owing_less d s p k)

pub wants_less : (d s : ℕ) (p : Position) (k : ℕ) → wants d s (without p k) ≡ wants d s p - k
wants_less d s p k = ap (λ (x : Side). x.shares) (wanting_less d s p k)

-- the receivers' total is all that is wanted
asked_total : (d s : ℕ) (ps : List Position) → total (λ (x : Side). x.shares) (asked d s ps) ≡ total (wants d s) ps
unfolding total
asked_total d s [] = refl
asked_total d s (p ∷ ps) = omega (arith, asked_total d s ps)

pub wanted_is : (b : Book) (s : ℕ) → wanted b s ≡ total (wants b.day s) (open_of b)
unfolding wanted receivers due_in
wanted_is b s =
    ap (total (λ (x : Side). x.shares)) (receivers_are b.day s (open_of b))
    ∙ total_kept (λ (x : Side). x.shares) some (asked b.day s (open_of b)) (λ x e. omega (arith, ltb-false 0 x.shares e))
    ∙ asked_total b.day s (open_of b)

-- balances that add up alike
balanced_same : (ps qs : List Position)
    → ((u : ℕ) → sum_by quantity_of (keep (λ p. eqb (security_of p) u) ps) ≡ sum_by quantity_of (keep (λ p. eqb (security_of p) u) qs))
    → balanced qs ≡ true → balanced ps ≡ true
unfolding balanced
balanced_same ps qs same h =
    all_so (λ s. is_zero (sum_by quantity_of (keep (λ p. eqb (security_of p) s) qs))) (λ s. is_zero (sum_by quantity_of (keep (λ p. eqb (security_of p) s) ps)))
    every_security (λ u e. ap is_zero (same u) ∙ e) h

module _ (b : Book) (s : ℕ) (hs : s < 32) (ok : sound b ≡ true) (shape : Shaped b) where
  abbrev x₁ : Walking
  x₁ = walked b s

  -- ── quantities stay in sum ──

  -- those of records that pass a test which all records that lose shares pass, or none does
  module _ (t : Position → Bool) (same : (p : Position) (k : ℕ) → t (without p k) ≡ t p)
      (alike : (p q : Position) (k : ℕ) → Loses b s p k → Loses b s q k → t q ≡ t p) where
    met_sum : (x : Walking) (g r k : ℕ) → Steady b x → Meets b s x g r k → sum_by quantity_of (keep t x.records) ≡ sum_by quantity_of (keep t (open_of b))
        → sum_by quantity_of (keep t (met_at b s x g r k).records) ≡ sum_by quantity_of (keep t (open_of b))
    unfolding met_at
    met_sum x g r k c m e =
        both_shares_of x.records g r k m.giver_row m.taker_row m.apart (unlike b s x g r k m) m.giver.within m.taker.within t (λ p. same p k)
        (alike (row x.records g) (row x.records r) k m.giver m.taker)
        ∙ e

    end_sum : sum_by quantity_of (keep t x₁.records) ≡ sum_by quantity_of (keep t (open_of b))
    end_sum = walk_keeps b s (room b s hs ok shape) (λ x. sum_by quantity_of (keep t x.records) ≡ sum_by quantity_of (keep t (open_of b))) met_sum refl

    pub run_sum : sum_by quantity_of (keep t (open_of (settled b s))) ≡ sum_by quantity_of (keep t (open_of b))
    run_sum =
        ap (λ (l : List Position). sum_by quantity_of (keep t l)) (settled_open b s hs ok shape)
        ∙ ap (sum_by quantity_of) (keep_swap t (remains b.day) x₁.records)
        ∙ sum_by_kept quantity_of (remains b.day) (keep t x₁.records) (λ p e. (gone b.day p e).1)
        ∙ end_sum

  -- those of one security, of records due by a test of the due day
  module _ (t : Position → Bool) (same : (p : Position) (k : ℕ) → t (without p k) ≡ t p)
      (alike : (p q : Position) (k : ℕ) → Loses b s p k → Loses b s q k → t q ≡ t p) where
    security_sum : (u : ℕ) → sum_by quantity_of (keep (λ p. eqb (security_of p) u) (keep t (open_of (settled b s))))
        ≡ sum_by quantity_of (keep (λ p. eqb (security_of p) u) (keep t (open_of b)))
    security_sum u =
        let of : Position → Bool = λ p. eqb (security_of p) u in
        ap (sum_by quantity_of) (keep_both of t (open_of (settled b s)))
        ∙ run_sum (λ p. t p && of p) (λ p k. rw (same p k, without_security p k)) (λ p q k h l. rw (alike p q k h l, h.security, l.security))
        ∙ sym (ap (sum_by quantity_of) (keep_both of t (open_of b)))

  pub run_due_sum : (u : ℕ) → sum_by quantity_of (keep (λ p. eqb (security_of p) u) (keep (is_due b.day) (open_of (settled b s))))
      ≡ sum_by quantity_of (keep (λ p. eqb (security_of p) u) (keep (is_due b.day) (open_of b)))
  unfolding is_due
  run_due_sum = security_sum (is_due b.day) (λ p k. rw (without_due p k)) (λ p q k h l. l.due ∙ sym h.due)

  not_next : (p : Position) (k : ℕ) → Loses b s p k → eqb (due_of p) (b.day + 1) ≡ false
  unfolding is_due
  not_next p k h = ne_eqb (due_of p) (b.day + 1) (λ e. omega (arith, leb-true (due_of p) b.day h.due))

  pub run_next_sum : (u : ℕ) → sum_by quantity_of (keep (λ p. eqb (security_of p) u) (keep (λ p. eqb (due_of p) (b.day + 1)) (open_of (settled b s))))
      ≡ sum_by quantity_of (keep (λ p. eqb (security_of p) u) (keep (λ p. eqb (due_of p) (b.day + 1)) (open_of b)))
  run_next_sum =
      security_sum (λ p. eqb (due_of p) (b.day + 1)) (λ p k. rw (without_due p k)) (λ p q k h l. not_next q k l ∙ sym (not_next p k h))

  -- so they total zero
  pub run_balances : due_balanced (settled b s) ≡ true
  unfolding due_balanced
  run_balances =
      let day : (settled b s).day ≡ b.day = ap (λ (k : Book). k.day) (settled_is b s hs ok shape) ∙ closed_day b x₁ in
      let next : Position → Bool = λ p. eqb (due_of p) (b.day + 1) in
      let h = both_hold (balanced (keep (is_due b.day) (open_of b))) (balanced (keep next (open_of b))) (sound_parts b ok).balances in
      ap (λ (d : ℕ). balanced (keep (is_due d) (open_of (settled b s))) && balanced (keep (λ p. eqb (due_of p) (d + 1)) (open_of (settled b s)))) day
      ∙ and_hold
      (balanced_same (keep (is_due b.day) (open_of (settled b s))) (keep (is_due b.day) (open_of b)) run_due_sum h.0)
      (balanced_same (keep next (open_of (settled b s))) (keep next (open_of b)) run_next_sum h.1)

  -- ── owed and wanted fall by the shares moved ──

  met_owed : (x : Walking) (g r k : ℕ) → Steady b x → Meets b s x g r k → total (owes b.day s) x.records + x.shares ≡ total (owes b.day s) (open_of b)
      → total (owes b.day s) (met_at b s x g r k).records + (met_at b s x g r k).shares ≡ total (owes b.day s) (open_of b)
  unfolding met_at
  met_owed x g r k c m e =
      let p : Position = row x.records g in
      let q : Position = row x.records r in
      omega (
        arith,
        total_both (owes b.day s) x.records g r k m.giver_row m.taker_row m.apart,
        owes_less b.day s p k,
        owes_less b.day s q k,
        owes_or_wants b.day s q,
        m.owed,
        m.wanted,
        m.giver.some,
      )

  met_wanted : (x : Walking) (g r k : ℕ) → Steady b x → Meets b s x g r k → total (wants b.day s) x.records + x.shares ≡ total (wants b.day s) (open_of b)
      → total (wants b.day s) (met_at b s x g r k).records + (met_at b s x g r k).shares ≡ total (wants b.day s) (open_of b)
  unfolding met_at
  met_wanted x g r k c m e =
      let p : Position = row x.records g in
      let q : Position = row x.records r in
      omega (
        arith,
        total_both (wants b.day s) x.records g r k m.giver_row m.taker_row m.apart,
        wants_less b.day s p k,
        wants_less b.day s q k,
        owes_or_wants b.day s p,
        m.owed,
        m.wanted,
        m.giver.some,
      )

  none_owed : (p : Position) → remains b.day p ≡ false → owes b.day s p ≡ 0
  unfolding owes short_of
  none_owed p e = cond_none (is_due_in b.day s p) _ (ap short_of (gone b.day p e).1)

  none_wanted : (p : Position) → remains b.day p ≡ false → wants b.day s p ≡ 0
  unfolding wants long_of
  none_wanted p e = cond_none (is_due_in b.day s p) _ (ap long_of (gone b.day p e).1)

  pub run_owed : total (owes b.day s) (open_of (settled b s)) + shares_moved b s ≡ total (owes b.day s) (open_of b)
  run_owed =
      omega (
        arith,
        ap (total (owes b.day s)) (settled_open b s hs ok shape),
        total_kept (owes b.day s) (remains b.day) x₁.records none_owed,
        end_shares b s hs ok shape,
        walk_keeps b s (room b s hs ok shape) (λ x. total (owes b.day s) x.records + x.shares ≡ total (owes b.day s) (open_of b)) met_owed (omega arith),
      )

  pub run_wanted : wanted (settled b s) s + shares_moved b s ≡ wanted b s
  run_wanted =
      let day : (settled b s).day ≡ b.day = ap (λ (k : Book). k.day) (settled_is b s hs ok shape) ∙ closed_day b x₁ in
      omega (
        arith,
        wanted_is b s,
        wanted_is (settled b s) s ∙ ap (λ (d : ℕ). total (wants d s) (open_of (settled b s))) day,
        ap (total (wants b.day s)) (settled_open b s hs ok shape),
        total_kept (wants b.day s) (remains b.day) x₁.records none_wanted,
        end_shares b s hs ok shape,
        walk_keeps b s (room b s hs ok shape) (λ x. total (wants b.day s) x.records + x.shares ≡ total (wants b.day s) (open_of b)) met_wanted (omega arith),
      )
