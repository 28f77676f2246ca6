-- The list of a sound book: few trades, each between accounts, in a security and within limits. So its nets balance and have the sizes of
-- positions.
use Rattle.std.specs.Prelude.{◌≡◌, Bool, true, false, not, ◌&&◌, ◌||◌, map, ℕ, ◌≤◌, eqb, leb, ltb, length}
use Rattle.std.proofs.Common.{arith}
use Rattle.std.proofs.Math.ListN.{length-take}
use borrow.Author.Tests.{ltb-false, not-true, lt-ltb, leb-true, le-leb, eqb-true}
use Rattle.units.specs.Units.{top_price}
use Rattle.rules.specs.Words.{all}
use Rattle.rules.specs.Bounds.{accounts, last_account, securities, last_security, most_trades, most_traded}
use Rattle.rules.specs.Book.{list_of}
use Rattle.rules.specs.Trades.{no_account, no_security, bad_accounts, bad_security, bad_quantity, bad_price, same_account}
use Rattle.rules.specs.Sound.{sizes_fit, balanced, valid_trade, zero_fields, distinct, trades_fit}
use Rattle.rules.specs.Nets.{nets}
use Rattle.rules.specs.declared.Trade.{Trade}
use Rattle.rules.specs.declared.Book.{Book}
use Rattle.laws.specs.Cases.{by_test, both_hold, and_hold, neither}
use Rattle.laws.specs.All.{all_so}
use Rattle.laws.specs.NetLaws.{in_accounts, in_limits}
use Rattle.laws.specs.NetList.{nets_balanced, nets_fit}

-- ── one trade ──

abbrev pub listable : Book → Trade → Bool
listable k t = not (eqb t.number 0) && (valid_trade k t || zero_fields t)

-- its security is one
abbrev pub in_securities : Trade → Bool
in_securities t = ltb t.security securities

-- a valid trade has none of the faults
module _ (k : Book) (t : Trade) (e : valid_trade k t ≡ true) where
  valid_parts : (bad_accounts t ≡ false) × (bad_security k t.security ≡ false) × (bad_quantity t ≡ false) × (bad_price t ≡ false)
  unfolding valid_trade
  valid_parts =
      let w = not-true (bad_accounts t || (bad_security k t.security || (bad_quantity t || (bad_price t || same_account t)))) e in
      let x = neither (bad_accounts t) (bad_security k t.security || (bad_quantity t || (bad_price t || same_account t))) w in
      let y = neither (bad_security k t.security) (bad_quantity t || (bad_price t || same_account t)) x.1 in
      let z = neither (bad_quantity t) (bad_price t || same_account t) y.1 in
      let u = neither (bad_price t) (same_account t) z.1 in
      (x.0, y.0, z.0, u.0)

  -- so it is between accounts, in a security and within limits
  valid_accounts : in_accounts t ≡ true
  unfolding bad_accounts no_account
  valid_accounts =
      let x = neither (ltb last_account t.buyer) (ltb last_account t.seller) valid_parts.0 in
      and_hold (lt-ltb t.buyer accounts (omega (arith, ltb-false last_account t.buyer x.0)))
      (lt-ltb t.seller accounts (omega (arith, ltb-false last_account t.seller x.1)))

  valid_security : in_securities t ≡ true
  unfolding bad_security no_security
  valid_security =
      let x = neither (ltb last_security t.security) _ valid_parts.1 in
      lt-ltb t.security securities (omega (arith, ltb-false last_security t.security x.0))

  valid_limits : in_limits t ≡ true
  unfolding bad_quantity bad_price
  valid_limits =
      let q = neither (ltb t.quantity 1) (ltb most_traded t.quantity) valid_parts.2 in
      let r = neither (ltb t.price.0 1) (ltb top_price t.price.0) valid_parts.3 in
      and_hold (le-leb t.quantity most_traded (ltb-false most_traded t.quantity q.1))
      (le-leb t.price.0 top_price (ltb-false top_price t.price.0 r.1))

-- and so is an excluded one
module _ (t : Trade) (e : zero_fields t ≡ true) where
  zero_accounts : in_accounts t ≡ true
  unfolding zero_fields
  zero_accounts =
      let b = both_hold (eqb t.buyer 0) _ e in
      let s = both_hold (eqb t.seller 0) _ b.1 in
      and_hold (lt-ltb t.buyer accounts (omega (arith, eqb-true t.buyer 0 b.0)))
      (lt-ltb t.seller accounts (omega (arith, eqb-true t.seller 0 s.0)))

  zero_security : in_securities t ≡ true
  unfolding zero_fields
  zero_security =
      let b = both_hold (eqb t.buyer 0) _ e in
      let s = both_hold (eqb t.seller 0) _ b.1 in
      let u = both_hold (eqb t.security 0) _ s.1 in
      lt-ltb t.security securities (omega (arith, eqb-true t.security 0 u.0))

  zero_limits : in_limits t ≡ true
  unfolding zero_fields
  zero_limits =
      let b = both_hold (eqb t.buyer 0) _ e in
      let s = both_hold (eqb t.seller 0) _ b.1 in
      let u = both_hold (eqb t.security 0) _ s.1 in
      let q = both_hold (eqb t.quantity 0) (eqb t.price.0 0) u.1 in
      and_hold (le-leb t.quantity most_traded (omega (arith, eqb-true t.quantity 0 q.0)))
      (le-leb t.price.0 top_price (omega (arith, eqb-true t.price.0 0 q.1)))

-- one or the other
module _ (k : Book) (t : Trade) (e : listable k t ≡ true) where
  listable_accounts : in_accounts t ≡ true
  listable_accounts =
      let w = (both_hold (not (eqb t.number 0)) (valid_trade k t || zero_fields t) e).1 in
      by_test (valid_trade k t) (valid_accounts k t) (λ v. zero_accounts t (rw v at w))

  listable_security : in_securities t ≡ true
  listable_security =
      let w = (both_hold (not (eqb t.number 0)) (valid_trade k t || zero_fields t) e).1 in
      by_test (valid_trade k t) (valid_security k t) (λ v. zero_security t (rw v at w))

  listable_limits : in_limits t ≡ true
  listable_limits =
      let w = (both_hold (not (eqb t.number 0)) (valid_trade k t || zero_fields t) e).1 in
      by_test (valid_trade k t) (valid_limits k t) (λ v. zero_limits t (rw v at w))

-- ── the list ──

module _ (k : Book) (fit : trades_fit k ≡ true) where
  pub fit_few : leb k.entries most_trades ≡ true
  unfolding trades_fit
  fit_few = (both_hold (leb k.entries most_trades) _ fit).0

  pub fit_each : all (listable k) (list_of k) ≡ true
  unfolding trades_fit
  fit_each =
      let x = both_hold (leb k.entries most_trades) _ fit in
      let y = both_hold (distinct (map (λ t. t.number) (list_of k))) _ x.1 in
      (both_hold (all (listable k) (list_of k)) _ y.1).0

  pub listed_few : length (list_of k) ≤ most_trades
  unfolding list_of
  listed_few = omega (arith, length-take k.entries k.trades, leb-true k.entries most_trades fit_few)

  pub listed_accounts : all in_accounts (list_of k) ≡ true
  listed_accounts = all_so (listable k) in_accounts (list_of k) (listable_accounts k) fit_each

  pub listed_securities : all in_securities (list_of k) ≡ true
  listed_securities = all_so (listable k) in_securities (list_of k) (listable_security k) fit_each

  pub listed_limits : all in_limits (list_of k) ≡ true
  listed_limits = all_so (listable k) in_limits (list_of k) (listable_limits k) fit_each

  -- so its nets balance, and are of the sizes that a sound book allows
  pub listed_balanced : (due : ℕ) → balanced (nets due (list_of k)) ≡ true
  listed_balanced due = nets_balanced due (list_of k) listed_accounts

  pub listed_fit : (due : ℕ) → all sizes_fit (nets due (list_of k)) ≡ true
  listed_fit due = nets_fit due (list_of k) listed_few listed_limits
