-- The values of a sound book fit their bytes, where its trades do: so those of every book of a history, where the calls' arguments fit their types.
use Rattle.std.specs.Prelude.{◌≡◌, Bool, true, ◌&&◌, ℕ, zero, suc, ◌+◌, ◌*◌, ◌/◌, ◌%◌, ◌^◌, ◌<◌, ◌≤◌, eqb, length, get_or, ℤ, pos, negsuc}
use Rattle.std.proofs.Common.{sym, zero-le, suc-le-suc, lit<, take-append-drop}
use Rattle.std.proofs.Math.Path.{subst}
use mathlib.Core.List.{List, [], ◌∷◌}
use native.Mathlib.Omega.{arith}
use Rattle.std.proofs.Math.Dec.{leb}
use Rattle.std.proofs.Math.ListN.{drop}
use Rattle.std.proofs.Math.IntN.{nat_abs}
use Rattle.std.specs.Int.Signed.{mag}
use borrow.Author.Tests.{leb-true, eqb-true}
use Rattle.fields.specs.Codec.{Codec, All, none, more, number}
use Rattle.units.specs.Units.{mils_of, mils, most_shares, most_mils}
use Rattle.rules.specs.Words.{all}
use Rattle.rules.specs.Bounds.{accounts, securities, currencies, last_day, most_records, most_trades, most_held, most_at_stake}
use Rattle.rules.specs.Book.{quantity_of, money_of, is_zero, due_of, open_of, charge_at, empty_book, with_open, with_list, with_holdings, with_charges, with_day}
use Rattle.rules.specs.Layout.{Fits, amount, position, trade, book}
use Rattle.rules.specs.Sound.{codes_fit, ascends, is_blank, records_fit, is_position, sizes_fit, due_fits, totals_held, holdings_fit}
use Rattle.rules.specs.Roll.{uncharged, netted, emptied, next_day, offset, rolled}
use Rattle.rules.specs.Run.{settled}
use Rattle.rules.specs.Calls.{Call, enter, amend, exclude, roll, deposit, withdraw, run, after, answer_sound}
use Rattle.rules.specs.CallFile.{left}
use Rattle.rules.specs.declared.Position.{Position}
use Rattle.rules.specs.declared.Book.{Book}
use Rattle.laws.specs.Cases.{by_test, both_hold, is_zero_lem}
use Rattle.laws.specs.All.{all_and}
use Rattle.laws.specs.Numbers.{due_before}
use Rattle.laws.specs.Charging.{charge_in}
use Rattle.laws.specs.Stakes.{stake_within}
use Rattle.laws.specs.SoundParts.{sound_parts, day_small}
use Rattle.laws.specs.Blanks.{records_few}
use Rattle.laws.specs.Fitting.{Each, so_many, each_both, CallFits, enter_fits, amend_fits, exclude_fits, deposit_fits, withdraw_fits, empty_fits}
use Rattle.history.specs.Histories.{accepted}
use Rattle.history.specs.Steps.{Good, left_yes, left_no, took, after_good}
use Rattle.history.specs.Rest.{few}

-- ── rows that fit, by a test or by their places ──

module _ {A : Type 0} (x : Codec A) where
  each_by : (t : A → Bool) (ls : List A) → all t ls ≡ true → ((a : A) → t a ≡ true → x.Ok a) → Each x ls
  unfolding all
  each_by t [] e h = none
  each_by t (a ∷ ls) e h = let p = both_hold (t a) (all t ls) e in more (h a p.0) (each_by t ls p.1 h)

  each_at : (ls : List A) (d : A) → ((i : ℕ) → i < length ls → x.Ok (get_or ls i d)) → Each x ls
  each_at [] d h = none
  each_at (a ∷ ls) d h = more (h zero (suc-le-suc zero-le)) (each_at ls d (λ i l. h (suc i) (suc-le-suc l)))

-- ── numbers ──

mag_size : (z : ℤ) → mag z ≤ nat_abs z
mag_size (pos n) = omega arith
mag_size (negsuc n) = omega arith

size_fits : (z : ℤ) (most : ℕ) → nat_abs z ≤ most → most < 2 ^ 63 → Fits z
size_fits z most h l = omega (arith, mag_size z)

-- ── the tables of a sound book ──

-- an open position: its due day bounds its number
position_fits : (day : ℕ) (p : Position) → day ≤ last_day → sizes_fit p && due_fits day p ≡ true → position.Ok p
unfolding sizes_fit due_fits
position_fits day p d e =
    let x = both_hold (leb (nat_abs (quantity_of p)) most_shares && (leb (nat_abs (money_of p)) most_mils && is_position p)) (leb (due_of p) (day + 1)) e in
    let q = both_hold (leb (nat_abs (quantity_of p)) most_shares) (leb (nat_abs (money_of p)) most_mils && is_position p) x.0 in
    let m = both_hold (leb (nat_abs (money_of p)) most_mils) (is_position p) q.1 in
    let n = due_before p (last_day + 2) (omega (arith, leb-true (due_of p) (day + 1) x.1)) in (
      omega arith,
      (
        size_fits (quantity_of p) most_shares (leb-true (nat_abs (quantity_of p)) most_shares q.0) (lit< tt),
        size_fits (money_of p) most_mils (leb-true (nat_abs (money_of p)) most_mils m.0) (lit< tt),
      ),
    )

-- unused room
blank_fits : (p : Position) → is_blank p ≡ true → position.Ok p
unfolding is_blank
blank_fits p e =
    let n = both_hold (eqb p.number 0) (is_zero (quantity_of p) && is_zero (money_of p)) e in
    let z = both_hold (is_zero (quantity_of p)) (is_zero (money_of p)) n.1 in (
      omega (arith, eqb-true p.number 0 n.0),
      (
        size_fits (quantity_of p) 0 (rw (is_zero_lem (quantity_of p) z.0) (omega arith)) (lit< tt),
        size_fits (money_of p) 0 (rw (is_zero_lem (money_of p) z.1) (omega arith)) (lit< tt),
      ),
    )

module _ (k : Book) (g : Good k) where
  room_blank : all is_blank (drop k.records k.positions) ≡ true
  unfolding records_fit
  room_blank =
      let x = both_hold (leb k.records most_records) _ (sound_parts k g.sound).records in
      (both_hold (ascends (open_of k)) (all is_blank (drop k.records k.positions)) x.1).1

  positions_fit_lem : All position most_records k.positions
  unfolding open_of
  positions_fit_lem =
      let c = sound_parts k g.sound in
      let rest = drop k.records k.positions in
      let used = each_by position (λ p. sizes_fit p && due_fits k.day p) (open_of k) (all_and sizes_fit (due_fits k.day) (open_of k) c.sizes c.due_days)
      (λ p e. position_fits k.day p (day_small k g.sound) e) in
      let spare = each_by position is_blank rest room_blank blank_fits in
      so_many position most_records k.positions g.shaped.positions
      (subst (Each position) (take-append-drop k.records k.positions) (each_both position (open_of k) rest used spare))

  holdings_fit_lem : All (number 8) (accounts * securities) k.holdings
  unfolding holdings_fit
  holdings_fit_lem =
      let h = both_hold (all (λ h. leb h most_held) k.holdings) (all (λ t. leb t most_held) (totals_held k.holdings)) (sound_parts k g.sound).holdings in
      so_many (number 8) (accounts * securities) k.holdings g.shaped.holdings
      (each_by (number 8) (λ h. leb h most_held) k.holdings h.0 (λ n e. omega (arith, leb-true n most_held e)))

  -- charge i is that of account i / 4 in currency i % 4
  charge_fits : (i : ℕ) → i < length k.charges → Fits (mils_of (get_or k.charges i (mils (pos 0))))
  unfolding charge_at
  charge_fits i l =
      let s = stake_within k (sound_parts k g.sound).money (i / 4) (i % 4) (omega (arith, g.shaped.charges)) (omega arith) in
      let place : i / 4 * 4 + i % 4 ≡ i = omega arith in
      let small : nat_abs (charge_in k.charges (i / 4) (i % 4)) ≤ most_at_stake = omega arith in
      subst (λ (j : ℕ). Fits (mils_of (get_or k.charges j (mils (pos 0))))) place (size_fits (charge_in k.charges (i / 4) (i % 4)) most_at_stake small (lit< tt))

  charges_fit : All amount (accounts * currencies) k.charges
  charges_fit = so_many amount (accounts * currencies) k.charges g.shaped.charges (each_at amount k.charges (mils (pos 0)) charge_fits)

  codes_fit_lem : All (number 1) securities k.currency
  unfolding empty_book codes_fit
  codes_fit_lem = (empty_fits k.currency g.shaped.currency (sound_parts k g.sound).codes).1.0

  sound_fits : All trade most_trades k.trades → book.Ok k
  sound_fits t =
      let records = records_few k (sound_parts k g.sound).records in
      (omega (arith, day_small k g.sound), (codes_fit_lem, (omega (arith, records), (positions_fit_lem, (holdings_fit_lem, (charges_fit, (omega (arith, few k g), t)))))))

-- ── the calls ──

rolled_fit : (k : Book) → Good k → All trade most_trades (rolled k).trades
unfolding rolled offset next_day emptied netted uncharged with_day with_list with_open with_charges empty_book codes_fit
rolled_fit k g = (empty_fits k.currency g.shaped.currency (sound_parts k g.sound).codes).1.1.1.1.1.1.1

settled_fit : (k : Book) (s : ℕ) → All trade most_trades k.trades → All trade most_trades (settled k s).trades
unfolding settled with_open with_holdings with_charges
settled_fit k s t = t

module _ (k : Book) (g : Good k) (ok : book.Ok k) where
  after_fits : (c : Call) → CallFits c → answer_sound k c ≡ 0 → book.Ok (after k c)
  unfolding after
  after_fits (enter t) h e = enter_fits k ok t h e
  after_fits (amend t) h e = amend_fits k ok t h
  after_fits (exclude n) h e = exclude_fits k ok n h
  after_fits roll h e = sound_fits (rolled k) (after_good k g roll e) (rolled_fit k g)
  after_fits (deposit a s q) h e = deposit_fits k ok a s q e
  after_fits (withdraw a s q) h e = withdraw_fits k ok a s q
  after_fits (run s) h e = sound_fits (settled k s) (after_good k g (run s) e) (settled_fit k s ok.1.1.1.1.1.1.1)

  pub left_fits : (c : Call) → CallFits c → book.Ok (left k c)
  left_fits c h =
      by_test (accepted k c)
      (λ y. subst (λ (b : Book). book.Ok b) (sym (left_yes k c y)) (after_fits c h (took k c g y)))
      (λ n. subst (λ (b : Book). book.Ok b) (sym (left_no k c n)) ok)
