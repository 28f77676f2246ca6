-- Offsetting keeps the bound on money at stake: where nothing is charged yet, at most 1,024 records bring an account and currency no
-- further than the bound, and offsetting does not raise it.
use Rattle.std.specs.Prelude.{◌≡◌, true, List, [], ◌∷◌, ◌++◌, ℕ, ◌+◌, ◌*◌, ◌<◌, ◌≤◌, leb, length, replicate, pos, nat_abs}
use Rattle.std.proofs.Common.{ap, zero-le, leb-true}
use native.Mathlib.Omega.{arith}
use Rattle.std.proofs.lemmas.List.{get_or-replicate}
use Rattle.units.specs.Units.{mils_of, mils, most_shares, most_mils}
use Rattle.rules.specs.Words.{all, total}
use Rattle.rules.specs.Bounds.{accounts, currencies, most_at_stake}
use Rattle.rules.specs.Book.{quantity_of, money_of, open_of, with_open, with_charges, currency_of, charge_at}
use Rattle.rules.specs.Sound.{is_position, sizes_fit, money_fits}
use Rattle.rules.specs.Roll.{offset}
use Rattle.rules.specs.declared.Position.{Position}
use Rattle.rules.specs.declared.Book.{Book}
use Rattle.laws.specs.Cases.{by_test, both_hold}
use Rattle.laws.specs.Adding.{total_append}
use Rattle.laws.specs.Charging.{is_of, charge_in, charge_at_below}
use Rattle.laws.specs.Against.{size_in}
use Rattle.laws.specs.DueDays.{parts_whole}
use Rattle.laws.specs.Showing.{money_by}
use Rattle.laws.specs.Remaining.{left_total}
use Rattle.laws.specs.OffsetKept.{older_of, newly_of, later_of, Ready, met_of, left_of, offset_open, done, older_due, newly_due, later_next}

-- nothing is charged
pub no_charge : (a c : ℕ) → a < accounts → c < currencies → charge_in (replicate (accounts * currencies) (mils (pos 0))) a c ≡ pos 0
no_charge a c h l = ap mils_of (get_or-replicate (accounts * currencies) (charge_at a c) (mils (pos 0)) (mils (pos 0)) (charge_at_below a c h l))

-- the sizes of n records' money
pub size_within : (b : Book) (a c : ℕ) (ps : List Position) → all sizes_fit ps ≡ true → total (size_in b a c) ps ≤ length ps * most_mils
unfolding all total sizes_fit
size_within b a c [] e = zero-le
size_within b a c (p ∷ ps) e =
    let x = both_hold (sizes_fit p) (all sizes_fit ps) e in
    let y = both_hold (leb (nat_abs (quantity_of p)) most_shares) _ x.0 in
    let z = both_hold (leb (nat_abs (money_of p)) most_mils) (is_position p) y.1 in
    let m = leb-true (nat_abs (money_of p)) most_mils z.0 in
    let one : size_in b a c p ≤ most_mils = by_test (is_of b a c p) (λ t. rw t m) (λ t. rw t zero-le) in
    let rest = size_within b a c ps x.1 in
    omega arith

module _ (b : Book) (r : Ready b) (a c : ℕ) (ha : a < accounts) (hc : c < currencies) where
  abbrev size : Position → ℕ
  size = size_in b a c

  -- before, the table is all that is at stake
  stake_before : nat_abs (charge_in b.charges a c) + (total size (newly_of b) + total size (older_of b)) + total size (later_of b) ≤ most_at_stake
  stake_before =
      let none : nat_abs (charge_in b.charges a c) ≡ 0 = rw r.uncharged (ap nat_abs (no_charge a c ha hc)) in
      let split = ap (total size) (parts_whole b.day (open_of b) r.order) in
      omega (
        arith,
        split,
        total_append size (older_of b) (newly_of b ++ later_of b),
        total_append size (newly_of b) (later_of b),
        size_within b a c (open_of b) r.sizes,
        r.few,
      )

  stake_after : nat_abs (charge_in (met_of b).charges a c) + total size (left_of b) ≤ most_at_stake
  unfolding left_of
  stake_after =
      omega (
        arith,
        stake_before,
        (done b r).stakes a c hc,
        left_total b.day (met_of b).older (met_of b).newly (later_of b) (older_due b r) (newly_due b r) (later_next b r) size,
      )

pub kept_money : (b : Book) → Ready b → money_fits (offset b) ≡ true
unfolding offset with_charges with_open currency_of met_of
kept_money b r = money_by (offset b) (λ a c ha hc. rw (offset_open b) (stake_after b r a c ha hc))
