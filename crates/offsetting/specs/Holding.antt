-- What holds of the rows and the charges throughout the walk: each record is within its bounds, and each charge with the open money of its
-- account and currency is within a bound that leaves room in 64 bits.
use Rattle.std.specs.Prelude.{◌≡◌, ◌≢◌, Bool, true, false, cond, ◌&&◌, List, ℕ, ◌+◌, ◌*◌, ◌<◌, ◌≤◌, leb, length, set, pos, nat_abs}
use Rattle.std.proofs.Common.{ap, ◌∙◌, le_trans, arith, ltb-true, leb-true, le-leb}
use Rattle.std.proofs.lemmas.List.{length-replicate}
use Rattle.integers.specs.Sizes.{nat_abs_sum}
use Rattle.units.specs.Units.{mils, most_shares, most_mils}
use Rattle.units.specs.declared.Mils.{Mils}
use Rattle.rules.specs.Words.{all}
use Rattle.rules.specs.Bounds.{accounts, currencies, most_records}
use Rattle.rules.specs.Book.{quantity_of, money_of, is_zero, security_of, no_position, open_of, currency_of}
use Rattle.rules.specs.Sound.{is_position, sizes_fit}
use Rattle.rules.specs.Parts.{without, charged_to, charged_both}
use Rattle.rules.specs.Roll.{faces, smaller}
use Rattle.rules.specs.declared.Position.{Position}
use Rattle.rules.specs.declared.Book.{Book}
use Rattle.laws.specs.Cases.{by_test, both_hold, and_hold}
use Rattle.laws.specs.Walks.{all_at}
use Rattle.laws.specs.All.{all_so, all_and, all_set}
use Rattle.laws.specs.Adding.{total_keep}
use Rattle.laws.specs.Rows.{row, without_both}
use Rattle.laws.specs.Taking.{smaller_newly, smaller_older}
use Rattle.laws.specs.Charging.{is_of, charge_in, weight, charged_long, charged_for_lem}
use Rattle.laws.specs.Meetings.{both_length, both_charged_long, both_weight}
use Rattle.laws.specs.Lessened.{Less, less_without, less_security}
use Rattle.laws.specs.Against.{in_currency}
use Rattle.laws.specs.OffsetKept.{Ready}
use Rattle.laws.specs.StakeKept.{no_charge, size_within}
use Rattle.offsetting_meetings.specs.Meeting.{Sized}
use Rattle.offsetting.specs.Walk.{Walking, walking, meet, whole}

-- ── one record ──

module _ (b : Book) where
  abbrev fitting : Position → Bool
  fitting p = leb (nat_abs (quantity_of p)) most_shares && (leb (nat_abs (money_of p)) most_mils && in_currency b p)

  abbrev Parts : Position → Type 0
  Parts p = (nat_abs (quantity_of p) ≤ most_shares) × (nat_abs (money_of p) ≤ most_mils) × (in_currency b p ≡ true)

  parts_of : (p : Position) → fitting p ≡ true → Parts p
  parts_of p e =
      let x = both_hold (leb (nat_abs (quantity_of p)) most_shares) _ e in
      let y = both_hold (leb (nat_abs (money_of p)) most_mils) (in_currency b p) x.1 in
      (leb-true (nat_abs (quantity_of p)) most_shares x.0, leb-true (nat_abs (money_of p)) most_mils y.0, y.1)

  fits_less : (p q : Position) → Less p q → fitting p ≡ true → fitting q ≡ true
  fits_less p q h e =
      let x = parts_of p e in
      and_hold (le-leb (nat_abs (quantity_of q)) most_shares (omega (arith, h.shares, x.0)))
      (and_hold (le-leb (nat_abs (money_of q)) most_mils (omega (arith, h.money, x.1))) (rw (less_security p q h) x.2))

  sized_fits : (p : Position) → sizes_fit p && in_currency b p ≡ true → fitting p ≡ true
  unfolding sizes_fit
  sized_fits p e =
      let x = both_hold (sizes_fit p) (in_currency b p) e in
      let y = both_hold (leb (nat_abs (quantity_of p)) most_shares) _ x.0 in
      let z = both_hold (leb (nat_abs (money_of p)) most_mils) (is_position p) y.1 in
      and_hold y.0 (and_hold z.0 x.1)

-- ── rows and charges ──

pub record Held (b : Book) (m : ℕ) (x : Walking) : Type 0 where
  pub long : length x.rows ≡ b.records
  pub fit : all (fitting b) x.rows ≡ true
  pub wide : length x.charges ≡ accounts * currencies
  pub stakes : (a c : ℕ) → a < accounts → c < currencies → weight b a c x.charges x.rows ≤ m

-- within a bound, and so within a higher one
pub held_within : (b : Book) (m n : ℕ) (x : Walking) → m ≤ n → Held b m x → Held b n x
held_within b m n x h held =
    record { long = held.long; fit = held.fit; wide = held.wide; stakes = λ a c ha hc. le_trans (held.stakes a c ha hc) h }

module _ (b : Book) (m : ℕ) (x : Walking) (held : Held b m x) where
  -- each row's bounds, and its currency
  module _ (i : ℕ) (h : i < b.records) where
    row_parts : Parts b (row x.rows i)
    row_parts = parts_of b (row x.rows i) (all_at (fitting b) x.rows i no_position held.fit (omega (arith, held.long)))

    pub row_sized : Sized (row x.rows i)
    row_sized = record { shares = row_parts.0; money = row_parts.1 }

    pub row_currency : currency_of b (security_of (row x.rows i)) < currencies
    row_currency = ltb-true (currency_of b (security_of (row x.rows i))) currencies row_parts.2

  -- each charge
  pub charge_within : (a c : ℕ) → a < accounts → c < currencies → nat_abs (charge_in x.charges a c) ≤ m
  charge_within a c ha hc =
      let all = held.stakes a c ha hc in
      let most : nat_abs (charge_in x.charges a c) ≤ weight b a c x.charges x.rows = omega arith in
      le_trans most all

  -- ── a meeting ──

  module _ (i j : ℕ) (hi : i < b.records) (hj : j < b.records) (ne : i ≢ j) where
    abbrev p : Position
    p = row x.rows i

    abbrev o : Position
    o = row x.rows j

    abbrev k : ℕ
    k = smaller p o

    fit_at : (r : ℕ) → r < b.records → fitting b (row x.rows r) ≡ true
    fit_at r h = all_at (fitting b) x.rows r no_position held.fit (omega (arith, held.long))

    fit_both : all (fitting b) (without_both x.rows j i k) ≡ true
    unfolding without_both
    fit_both =
        all_set (fitting b) (set x.rows j (without o k)) i (without p k)
        (all_set (fitting b) x.rows j (without o k) held.fit (fits_less b o (without o k) (less_without o k (smaller_older p o)) (fit_at j hj)))
        (fits_less b p (without p k) (less_without p k (smaller_newly p o)) (fit_at i hi))

    held_met : Held b m (walking (without_both x.rows j i k) (charged_both b x.charges o p k))
    held_met =
        record {
          long = both_length x.rows j i k ∙ held.long;
          fit = fit_both;
          wide = both_charged_long b x.charges o p k ∙ held.wide;
          stakes = λ a c ha hc. le_trans
              (both_weight b a c hc x.charges x.rows j i k (omega (arith, held.long)) (omega (arith, held.long)) ne held.wide
              (row_currency j hj) (row_currency i hi) (smaller_older p o) (smaller_newly p o))
              (held.stakes a c ha hc);
        }

    pub held_meet : Held b m (meet b i j x)
    unfolding meet
    held_meet = by_test (faces p o) (λ f. rw f held_met) (λ f. rw f held)

  -- ── a record charged whole ──

  module _ (i : ℕ) (hi : i < b.records) where
    abbrev q : Position
    q = row x.rows i

    abbrev after : List Mils
    after = charged_to b x.charges q (money_of q)

    charge_after : (a c : ℕ) → c < currencies → nat_abs (charge_in after a c) ≤ nat_abs (charge_in x.charges a c) + most_mils
    charge_after a c hc =
        rw (charged_for_lem b a c hc x.charges q (money_of q) held.wide (row_currency i hi))
        (omega (arith, nat_abs_sum (charge_in x.charges a c) (cond (is_of b a c q) (money_of q) (pos 0)), counted (is_of b a c q)))
      where
        counted : (t : Bool) → nat_abs (cond t (money_of q) (pos 0)) ≤ most_mils
        counted true = (row_sized i hi).money
        counted false = omega arith

    held_charged : Held b (m + most_mils) (walking x.rows after)
    held_charged =
        record {
          long = held.long;
          fit = held.fit;
          wide = charged_long b x.charges q (money_of q) ∙ held.wide;
          stakes = λ a c ha hc. omega (arith, held.stakes a c ha hc, charge_after a c hc);
        }

    pub held_whole : Held b (m + most_mils) (whole b i x)
    unfolding whole
    held_whole = by_test (is_zero (quantity_of q)) (λ z. rw z held_charged) (λ z. rw z (held_within b m (m + most_mils) x (omega arith) held))

-- ── before the walk ──

module _ (b : Book) (r : Ready b) (few : length (open_of b) ≡ b.records) where
  stake_start : (a c : ℕ) → a < accounts → c < currencies → weight b a c b.charges (open_of b) ≤ most_records * most_mils
  stake_start a c ha hc =
      let none : nat_abs (charge_in b.charges a c) ≡ 0 = rw r.uncharged (ap nat_abs (no_charge a c ha hc)) in
      omega (arith, total_keep (λ p. nat_abs (money_of p)) (is_of b a c) (open_of b), size_within b a c (open_of b) r.sizes, r.few)

  pub held_start : Held b (most_records * most_mils) (walking (open_of b) b.charges)
  held_start =
      record {
        long = few;
        fit = all_so (λ p. sizes_fit p && in_currency b p) (fitting b) (open_of b) (sized_fits b) (all_and sizes_fit (in_currency b) (open_of b) r.sizes r.valued);
        wide = ap length r.uncharged ∙ length-replicate (accounts * currencies) (mils (pos 0));
        stakes = stake_start;
      }
