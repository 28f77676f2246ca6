-- The nets of a sound book's list are of listed securities: in an unlisted one stand excluded trades alone, and these come to nothing.
use Rattle.std.specs.Prelude.{◌≡◌, refl, Bool, true, false, ◌&&◌, ◌||◌, List, ℕ, ◌<◌}
use Rattle.std.proofs.Math.Path.{ap}
use Rattle.std.proofs.Common.{◌∙◌, arith, eqb-true}
use Rattle.std.proofs.Math.Bool.{not}
use Rattle.std.proofs.Math.Dec.{eqb}
use Rattle.std.proofs.Math.IntN.{pos}
use Rattle.std.proofs.lemmas.Bool.{not-true}
use Rattle.integers.specs.Sizes.{nat_abs_zero}
use Rattle.rules.specs.Words.{all, keep}
use Rattle.rules.specs.Bounds.{accounts, securities}
use Rattle.rules.specs.Book.{security_of, list_of, unlisted}
use Rattle.rules.specs.Trades.{amount_of, no_security, bad_accounts, bad_security, bad_quantity, bad_price, same_account}
use Rattle.rules.specs.Sound.{is_position, valid_trade, zero_fields, trades_fit}
use Rattle.rules.specs.Nets.{net, net_of, nets, trades_of}
use Rattle.rules.specs.declared.Position.{Position}
use Rattle.rules.specs.declared.Trade.{Trade}
use Rattle.rules.specs.declared.Book.{Book}
use Rattle.laws.specs.Cases.{by_test, true_false, both_hold, and_hold, neither, zero_is}
use Rattle.laws.specs.All.{all_so, all_and}
use Rattle.laws.specs.Keeping.{keep_all, keep_passes}
use Rattle.laws.specs.Adding.{sum_by_each_in, sum_by_nothing}
use Rattle.laws.specs.Numbers.{number_security}
use Rattle.laws.specs.NetLaws.{flow, flow_size, net_of_own}
use Rattle.laws.specs.NetList.{net_number, nets_all, nets_positions}
use Rattle.laws.specs.Listed.{listable, fit_each}

-- ── one trade ──

valid_listed : (k : Book) (t : Trade) → valid_trade k t ≡ true → unlisted k t.security ≡ false
unfolding valid_trade bad_security
valid_listed k t e =
    let w = not-true (bad_accounts t || (bad_security k t.security || (bad_quantity t || (bad_price t || same_account t)))) e in
    let x = neither (bad_accounts t) (bad_security k t.security || (bad_quantity t || (bad_price t || same_account t))) w in
    let y = neither (bad_security k t.security) (bad_quantity t || (bad_price t || same_account t)) x.1 in
    (neither (no_security t.security) (unlisted k t.security) y.0).1

-- an excluded trade is of 0 shares, so of no amount
zero_shares : (t : Trade) → zero_fields t ≡ true → t.quantity ≡ 0
unfolding zero_fields
zero_shares t e =
    let b = both_hold (eqb t.buyer 0) _ e in
    let s = both_hold (eqb t.seller 0) _ b.1 in
    let u = both_hold (eqb t.security 0) _ s.1 in
    eqb-true t.quantity 0 (both_hold (eqb t.quantity 0) (eqb t.price.0 0) u.1).0

zero_amount : (t : Trade) → t.quantity ≡ 0 → amount_of t ≡ 0
unfolding amount_of
zero_amount t e = rw e (omega arith)

-- ── the nets of an unlisted security ──

module _ (k : Book) (s : ℕ) (u : unlisted k s ≡ true) where
  abbrev here : Trade → Bool
  here t = listable k t && eqb t.security s

  -- a trade in it is an excluded one
  trade_zero : (t : Trade) → here t ≡ true → t.quantity ≡ 0
  trade_zero t e =
      let x = both_hold (listable k t) (eqb t.security s) e in
      let y = both_hold (not (eqb t.number 0)) (valid_trade k t || zero_fields t) x.0 in
      by_test (valid_trade k t)
      (λ v. true_false u (rw (eqb-true t.security s x.1) at (valid_listed k t v)))
      (λ v. zero_shares t (rw v at y.1))

  net_zero : (v : Trade → ℕ) → ((t : Trade) → t.quantity ≡ 0 → v t ≡ 0) → (ts : List Trade) → all (listable k) ts ≡ true → (a : ℕ)
      → net v ts a s ≡ pos 0
  unfolding net
  net_zero v z ts w a =
      let us = keep (λ t. eqb t.security s) ts in
      sum_by_each_in here (flow v a) (λ t. pos 0) us
      (all_and (listable k) (λ t. eqb t.security s) us (keep_all (λ t. eqb t.security s) (listable k) ts w) (keep_passes (λ t. eqb t.security s) ts))
      (λ t e. nat_abs_zero (flow v a t) (omega (arith, flow_size v a t, z t (trade_zero t e))))
      ∙ sum_by_nothing us

  -- so it is no position
  no_net : (ts : List Trade) → all (listable k) ts ≡ true → (due a : ℕ) → is_position (net_of due ts a s) ≡ false
  unfolding net_of is_position
  no_net ts w due a =
      ap not
      (and_hold (zero_is (net (λ t. t.quantity) ts a s) (net_zero (λ t. t.quantity) (λ t e. e) ts w a))
      (zero_is (net amount_of ts a s) (net_zero amount_of zero_amount ts w a)))

-- ── the list ──

module _ (k : Book) (fit : trades_fit k ≡ true) where
  abbrev only_listed : Position → Bool
  only_listed p = not (is_position p && unlisted k (security_of p))

  net_listed : (due a s : ℕ) → a < accounts → s < securities → only_listed (net_of due (trades_of a (list_of k)) a s) ≡ true
  net_listed due a s ha hs =
      rw (net_of_own due (list_of k) a s)
      (let p = net_of due (list_of k) a s in
      let e : security_of p ≡ s = number_security p due a s ha hs (net_number due (list_of k) a s) in
      by_test (unlisted k s)
      (λ u. rw (no_net k s u (list_of k) (fit_each k fit) due a))
      (λ u. rw (e, u) (nothing (is_position p))))
    where
      nothing : (t : Bool) → not (t && false) ≡ true
      nothing true = refl
      nothing false = refl

  pub nets_listed : (due : ℕ) → all (λ p. not (unlisted k (security_of p))) (nets due (list_of k)) ≡ true
  nets_listed due =
      all_so (λ p. only_listed p && is_position p) (λ p. not (unlisted k (security_of p))) (nets due (list_of k))
      (λ p e. let x = both_hold (only_listed p) (is_position p) e in rw x.1 at x.0)
      (all_and only_listed is_position (nets due (list_of k)) (nets_all due (list_of k) only_listed (net_listed due)) (nets_positions due (list_of k)))
