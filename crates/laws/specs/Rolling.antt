-- The day roll before its offsetting: charges zero, today's nets behind the open positions, an empty list, the next day. Of a sound book
-- and an accepted roll this is ready for offsetting.
use Rattle.std.specs.Prelude.{◌≡◌, Bool, true, false, List, [], ◌++◌, ℕ, ◌+◌, ◌*◌, ◌-◌, ◌≤◌, leb, replicate, pos}
use Rattle.std.proofs.Math.Path.{refl, sym, ap}
use Rattle.std.proofs.Common.{◌∙◌, append-nil, arith}
use Rattle.std.proofs.Math.Bool.{not}
use Rattle.std.proofs.Math.Dec.{eqb, ltb}
use Rattle.std.proofs.Math.ListN.{length, length-take, length-append}
use Rattle.std.proofs.Math.Seq.{take_at}
use borrow.Author.Tests.{ltb-false, lt-ltb, le-ltb, leb-true, leb-false, le-leb, eqb-true, ne_eqb}
use Rattle.units.specs.Units.{mils}
use Rattle.rules.specs.Words.{all, keep, above}
use Rattle.rules.specs.Bounds.{accounts, currencies, last_day, most_records}
use Rattle.rules.specs.Book.{due_of, security_of, no_position, open_of, list_of, with_open, with_list, with_charges, with_day, currency_of, unlisted}
use Rattle.rules.specs.Sound.{codes_fit, ascends, records_fit, sizes_fit, due_fits, is_due, balanced, due_balanced, unlisted_empty}
use Rattle.rules.specs.Nets.{nets}
use Rattle.rules.specs.Roll.{uncharged, netted, emptied, next_day, open_plus_nets}
use Rattle.rules.specs.Calls.{roll, tests, answer_sound}
use Rattle.rules.specs.declared.Position.{Position}
use Rattle.rules.specs.declared.Book.{Book}
use Rattle.laws.specs.Cases.{by_test, both_hold}
use Rattle.laws.specs.Accepted.{passed}
use Rattle.laws.specs.All.{all_so, all_both}
use Rattle.laws.specs.Keeping.{keep_append, keep_same, keep_whole, keep_nothing}
use Rattle.laws.specs.NetList.{nets_due, ascends_nets}
use Rattle.laws.specs.Listed.{listed_balanced, listed_fit}
use Rattle.laws.specs.SoundParts.{SoundBook}
use Rattle.laws.specs.Shaped.{Shaped}
use Rattle.laws.specs.DueDays.{is_older, is_newly, is_later}
use Rattle.laws.specs.Showing.{has_currency_lem}
use Rattle.laws.specs.OffsetKept.{Ready}
use Rattle.laws.specs.NetListed.{nets_listed}

-- ── accepted ──

pub may_roll : (k : Book) → answer_sound k roll ≡ 0 → (open_plus_nets k ≤ most_records) × (eqb k.day last_day ≡ false)
unfolding answer_sound tests
may_roll k e =
    let p = passed (above most_records (open_plus_nets k)) 9 _ e in
    let q = passed (eqb k.day last_day) 13 [] p.1 in
    (ltb-false most_records (open_plus_nets k) p.0, q.0)

-- ── the book before offsetting ──

unfoldable pub rolling : Book → Book
rolling k = next_day (emptied (netted (uncharged k)))

abbrev pub new_nets : Book → List Position
new_nets k = nets (k.day + 2) (list_of k)

module _ (k : Book) where
  pub rolling_day : (rolling k).day ≡ k.day + 1
  unfolding rolling next_day emptied netted uncharged with_day with_list with_open with_charges
  rolling_day = refl

  pub rolling_open : open_of (rolling k) ≡ open_of k ++ new_nets k
  unfolding rolling next_day emptied netted uncharged with_day with_list with_open with_charges open_of list_of
  rolling_open =
      let ps = open_of k ++ new_nets k in
      take_at ps (replicate (most_records - length ps) no_position) (length ps) refl

  pub rolling_charges : (rolling k).charges ≡ replicate (accounts * currencies) (mils (pos 0))
  unfolding rolling next_day emptied netted uncharged with_day with_list with_open with_charges
  rolling_charges = refl

  pub rolling_currency : (rolling k).currency ≡ k.currency
  unfolding rolling next_day emptied netted uncharged with_day with_list with_open with_charges
  rolling_currency = refl

  rolling_unlisted : (s : ℕ) → unlisted (rolling k) s ≡ unlisted k s
  unfolding unlisted currency_of
  rolling_unlisted s = rw rolling_currency

-- ── of a sound book ──

module _ (k : Book) (c : SoundBook k) where
  -- it is due by the day exactly if it is due before the next
  by_day : (p : Position) → is_older (k.day + 1) p ≡ is_due k.day p
  unfolding is_due
  by_day p =
      by_test (leb (due_of p) k.day)
      (λ e. lt-ltb (due_of p) (k.day + 1) (omega (arith, leb-true (due_of p) k.day e)) ∙ sym e)
      (λ e. le-ltb (due_of p) (k.day + 1) (omega (arith, leb-false (due_of p) k.day e)) ∙ sym e)

  -- a test that no net passes keeps what it keeps of the open positions
  nets_fail : (t : Position → Bool) → ((p : Position) → due_of p ≡ k.day + 2 → t p ≡ false) → keep t (open_of k ++ new_nets k) ≡ keep t (open_of k)
  nets_fail t f =
      let none = keep_nothing t (new_nets k)
      (all_so (λ p. eqb (due_of p) (k.day + 2)) (λ p. not (t p)) (new_nets k)
      (λ p e. ap not (f p (eqb-true (due_of p) (k.day + 2) e))) (nets_due (k.day + 2) (list_of k))) in
      keep_append t (open_of k) (new_nets k) ∙ rw (none, append-nil (keep t (open_of k)))

  pub rolling_older : keep (is_older (k.day + 1)) (open_of k ++ new_nets k) ≡ keep (is_due k.day) (open_of k)
  rolling_older =
      nets_fail (is_older (k.day + 1)) (λ p e. le-ltb (due_of p) (k.day + 1) (omega arith))
      ∙ keep_same (is_older (k.day + 1)) (is_due k.day) (open_of k) by_day

  rolling_newly : keep (is_newly (k.day + 1)) (open_of k ++ new_nets k) ≡ keep (is_newly (k.day + 1)) (open_of k)
  rolling_newly = nets_fail (is_newly (k.day + 1)) (λ p e. ne_eqb (due_of p) (k.day + 1) (λ z. omega arith))

  rolling_later : keep (is_later (k.day + 1)) (open_of k ++ new_nets k) ≡ new_nets k
  unfolding due_fits
  rolling_later =
      let t = is_later (k.day + 1) in
      let none = keep_nothing t (open_of k)
      (all_so (due_fits k.day) (λ p. not (t p)) (open_of k)
      (λ p e. ap not (le-ltb (k.day + 1) (due_of p) (leb-true (due_of p) (k.day + 1) e))) c.due_days) in
      let whole = keep_whole t (new_nets k)
      (all_so (λ p. eqb (due_of p) (k.day + 2)) t (new_nets k)
      (λ p e. lt-ltb (k.day + 1) (due_of p) (omega (arith, eqb-true (due_of p) (k.day + 2) e))) (nets_due (k.day + 2) (list_of k))) in
      keep_append t (open_of k) (new_nets k) ∙ rw (none, whole)

  -- ── order, due days, balances, securities ──

  open_ascends : ascends (open_of k) ≡ true
  unfolding records_fit
  open_ascends = (both_hold (ascends (open_of k)) _ (both_hold (leb k.records most_records) _ c.records).1).0

  rolling_order : ascends (open_of k ++ new_nets k) ≡ true
  unfolding due_fits
  rolling_order =
      ascends_nets (k.day + 2) (list_of k) (open_of k) open_ascends
      (all_so (due_fits k.day) (λ p. ltb (due_of p) (k.day + 2)) (open_of k)
      (λ p e. lt-ltb (due_of p) (k.day + 2) (omega (arith, leb-true (due_of p) (k.day + 1) e))) c.due_days)

  rolling_due : all (due_fits (k.day + 1)) (open_of k ++ new_nets k) ≡ true
  unfolding due_fits
  rolling_due =
      all_both (due_fits (k.day + 1)) (open_of k) (new_nets k)
      (all_so (due_fits k.day) (due_fits (k.day + 1)) (open_of k)
      (λ p e. le-leb (due_of p) (k.day + 1 + 1) (omega (arith, leb-true (due_of p) (k.day + 1) e))) c.due_days)
      (all_so (λ p. eqb (due_of p) (k.day + 2)) (due_fits (k.day + 1)) (new_nets k)
      (λ p e. le-leb (due_of p) (k.day + 1 + 1) (omega (arith, eqb-true (due_of p) (k.day + 2) e))) (nets_due (k.day + 2) (list_of k)))

  due_balances : (balanced (keep (is_due k.day) (open_of k)) ≡ true) × (balanced (keep (is_newly (k.day + 1)) (open_of k)) ≡ true)
  unfolding due_balanced
  due_balances = both_hold (balanced (keep (is_due k.day) (open_of k))) (balanced (keep (is_newly (k.day + 1)) (open_of k))) c.balances

  open_listed : all (λ p. not (unlisted k (security_of p))) (open_of k) ≡ true
  unfolding unlisted_empty
  open_listed = (both_hold (all (λ p. not (unlisted k (security_of p))) (open_of k)) _ c.listed).0

  rolling_listed : all (λ p. not (unlisted (rolling k) (security_of p))) (open_of k ++ new_nets k) ≡ true
  rolling_listed =
      all_so (λ p. not (unlisted k (security_of p))) (λ p. not (unlisted (rolling k) (security_of p))) (open_of k ++ new_nets k)
      (λ p e. ap not (rolling_unlisted k (security_of p)) ∙ e)
      (all_both (λ p. not (unlisted k (security_of p))) (open_of k) (new_nets k) open_listed (nets_listed k c.trades (k.day + 2)))

  rolling_few : open_plus_nets k ≤ most_records → length (open_of k ++ new_nets k) ≤ most_records
  unfolding open_plus_nets open_of
  rolling_few h = omega (arith, length-append (open_of k) (new_nets k), length-take k.records k.positions)

  pub rolling_codes : codes_fit (rolling k) ≡ true
  unfolding codes_fit
  rolling_codes = rw (rolling_currency k) c.codes

  -- ── ready ──

  pub rolling_ready : Shaped k → open_plus_nets k ≤ most_records → Ready (rolling k)
  rolling_ready s h =
      record {
        order = rw (rolling_open k) rolling_order;
        few = rw (rolling_open k) (rolling_few h);
        sizes = rw (rolling_open k) (all_both sizes_fit (open_of k) (new_nets k) c.sizes (listed_fit k c.trades (k.day + 2)));
        due_days = rw (rolling_open k, rolling_day k) rolling_due;
        signs = rw (rolling_open k, rolling_day k, rolling_older) c.signs;
        older_balance = rw (rolling_open k, rolling_day k, rolling_older) due_balances.0;
        newly_balance = rw (rolling_open k, rolling_day k, rolling_newly) due_balances.1;
        later_balance = rw (rolling_open k, rolling_day k, rolling_later) (listed_balanced k c.trades (k.day + 2));
        listed = rw (rolling_open k) rolling_listed;
        valued =
            rw (rolling_open k)
            (all_so (λ p. not (unlisted (rolling k) (security_of p))) _ (open_of k ++ new_nets k)
            (λ p e. has_currency_lem (rolling k) p rolling_codes (ap length (rolling_currency k) ∙ s.currency) e) rolling_listed);
        uncharged = rolling_charges k;
      }
