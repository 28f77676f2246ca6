-- Today's net of an account and security: over the accounts it comes to zero, it is made of the account's own trades alone, and it
-- stays within bounds.
use Rattle.std.specs.Prelude.{◌≡◌, refl, Bool, true, false, ◌&&◌, ◌||◌, List, ℕ, ◌*◌, ◌<◌, ◌≤◌, eqb, ltb, length, ℤ, pos, nat_abs, ◌-ℤ◌}
use Rattle.std.proofs.Common.{sym, ap, ◌∙◌, mul-le-mul, mul-le-mul_right, le_trans, ltb-true, leb-true, le-leb, eq-eqb, ne_eqb}
use native.Mathlib.Omega.{arith}
use Rattle.std.proofs.Math.Dec.{leb}
use Rattle.integers.specs.Linear.{zlin, zabs}
use Rattle.integers.specs.Sums.{sum_by, sum_by_swap}
use Rattle.units.specs.Units.{most_shares, most_mils, top_price}
use Rattle.rules.specs.Words.{all, keep}
use Rattle.rules.specs.Bounds.{accounts, every_account, most_trades, most_traded}
use Rattle.rules.specs.Book.{quantity_of, money_of}
use Rattle.rules.specs.Trades.{amount_of}
use Rattle.rules.specs.Nets.{bought, sold, net, net_of, trades_of}
use Rattle.rules.specs.declared.Trade.{Trade}
use Rattle.laws.specs.Cases.{by_test, both_hold, neither}
use Rattle.laws.specs.All.{all_so}
use Rattle.laws.specs.Keeping.{keep_all, keep_length, keep_swap}
use Rattle.laws.specs.Adding.{sum_by_kept, sum_by_each_in, sum_by_nothing, sum_by_diff, sum_by_within, sum_account}

-- ── one trade ──

-- what a trade comes to for an account
abbrev pub flow : (Trade → ℕ) → ℕ → Trade → ℤ
flow v a t = bought v a t -ℤ sold v a t

-- both its accounts are accounts
abbrev pub in_accounts : Trade → Bool
in_accounts t = ltb t.buyer accounts && ltb t.seller accounts

-- it is in security s; account a has a part in it
abbrev in_security : ℕ → Trade → Bool
in_security s t = eqb t.security s

abbrev pub has_part : ℕ → Trade → Bool
has_part a t = eqb t.buyer a || eqb t.seller a

bought_zero : (v : Trade → ℕ) (a : ℕ) (t : Trade) → eqb t.buyer a ≡ false → bought v a t ≡ pos 0
unfolding bought
bought_zero v a t e = rw e

sold_zero : (v : Trade → ℕ) (a : ℕ) (t : Trade) → eqb t.seller a ≡ false → sold v a t ≡ pos 0
unfolding sold
sold_zero v a t e = rw e

bought_own : (v : Trade → ℕ) (t : Trade) → bought v t.buyer t ≡ pos (v t)
unfolding bought
bought_own v t = rw (eq-eqb t.buyer t.buyer refl)

sold_own : (v : Trade → ℕ) (t : Trade) → sold v t.seller t ≡ pos (v t)
unfolding sold
sold_own v t = rw (eq-eqb t.seller t.seller refl)

-- an account that is neither buyer nor seller has no part in it
pub flow_zero : (v : Trade → ℕ) (a : ℕ) (t : Trade) → has_part a t ≡ false → flow v a t ≡ pos 0
flow_zero v a t e =
    let n = neither (eqb t.buyer a) (eqb t.seller a) e in
    rw (bought_zero v a t n.0, sold_zero v a t n.1)

-- over all accounts: the buyer's alone, the seller's alone
bought_all : (v : Trade → ℕ) (t : Trade) → t.buyer < accounts → sum_by (λ a. bought v a t) every_account ≡ pos (v t)
bought_all v t h =
    sum_account (λ a. bought v a t) t.buyer h (λ a l ne. bought_zero v a t (ne_eqb t.buyer a (λ e. ne (sym e)))) ∙ bought_own v t

sold_all : (v : Trade → ℕ) (t : Trade) → t.seller < accounts → sum_by (λ a. sold v a t) every_account ≡ pos (v t)
sold_all v t h =
    sum_account (λ a. sold v a t) t.seller h (λ a l ne. sold_zero v a t (ne_eqb t.seller a (λ e. ne (sym e)))) ∙ sold_own v t

-- so over all accounts it comes to nothing: what the buyer gets the seller gives
pub flow_balance : (v : Trade → ℕ) (t : Trade) → in_accounts t ≡ true → sum_by (λ a. flow v a t) every_account ≡ pos 0
flow_balance v t e =
    let w = both_hold (ltb t.buyer accounts) (ltb t.seller accounts) e in
    let b = bought_all v t (ltb-true t.buyer accounts w.0) in
    let s = sold_all v t (ltb-true t.seller accounts w.1) in
    sum_by_diff (λ a. bought v a t) (λ a. sold v a t) every_account ∙ rw (b, s) (simp zlin (omega arith))

-- it is no more than the value
pub flow_size : (v : Trade → ℕ) (a : ℕ) (t : Trade) → nat_abs (flow v a t) ≤ v t
unfolding bought sold
flow_size v a t =
    by_test (eqb t.buyer a)
    (λ e. by_test (eqb t.seller a) (λ f. rw (e, f) (simp zabs (omega arith))) (λ f. rw (e, f) (simp zabs (omega arith))))
    (λ e. by_test (eqb t.seller a) (λ f. rw (e, f) (simp zabs (omega arith))) (λ f. rw (e, f) (simp zabs (omega arith))))

-- ── nets by account and security ──

-- a security's nets of any value come to zero over the accounts
pub net_balance : (v : Trade → ℕ) (ts : List Trade) (s : ℕ) → all in_accounts ts ≡ true → sum_by (λ a. net v ts a s) every_account ≡ pos 0
unfolding net
net_balance v ts s w =
    let us = keep (in_security s) ts in
    sum_by_swap (λ a t. flow v a t) every_account us
    ∙ sum_by_each_in in_accounts (λ t. sum_by (λ a. flow v a t) every_account) (λ t. pos 0) us (keep_all (in_security s) in_accounts ts w) (flow_balance v)
    ∙ sum_by_nothing us

-- so do shares and money
module _ (due : ℕ) (ts : List Trade) (s : ℕ) (w : all in_accounts ts ≡ true) where
  pub shares_balance : sum_by (λ a. quantity_of (net_of due ts a s)) every_account ≡ pos 0
  unfolding net_of
  shares_balance = net_balance (λ t. t.quantity) ts s w

  pub money_balance : sum_by (λ a. money_of (net_of due ts a s)) every_account ≡ pos 0
  unfolding net_of
  money_balance = net_balance amount_of ts s w

-- the trades that an account has no part in add nothing
pub net_own : (v : Trade → ℕ) (ts : List Trade) (a s : ℕ) → net v (trades_of a ts) a s ≡ net v ts a s
unfolding net trades_of
net_own v ts a s =
    ap (sum_by (flow v a)) (keep_swap (in_security s) (has_part a) ts)
    ∙ sum_by_kept (flow v a) (has_part a) (keep (in_security s) ts) (flow_zero v a)

pub net_of_own : (due : ℕ) (ts : List Trade) (a s : ℕ) → net_of due (trades_of a ts) a s ≡ net_of due ts a s
unfolding net_of
net_of_own due ts a s = rw (net_own (λ t. t.quantity) ts a s, net_own amount_of ts a s)

-- ── bounds ──

pub net_size : (v : Trade → ℕ) (ts : List Trade) (a s b : ℕ) → all (λ t. leb (v t) b) ts ≡ true → nat_abs (net v ts a s) ≤ length ts * b
unfolding net
net_size v ts a s b w =
    let us = keep (in_security s) ts in
    let small : all (λ t. leb (v t) b) us ≡ true = keep_all (in_security s) (λ t. leb (v t) b) ts w in
    le_trans
    (sum_by_within (λ t. leb (v t) b) (flow v a) us b small (λ t e. le_trans (flow_size v a t) (leb-true (v t) b e)))
    (mul-le-mul_right b (keep_length (in_security s) ts))

-- at most a million shares, at a price of at most 9,999,999 mils: so an amount of at most
abbrev pub in_limits : Trade → Bool
in_limits t = leb t.quantity most_traded && leb t.price.0 top_price

abbrev most_paid : ℕ
most_paid = 9_999_999_000_000

limit_shares : (t : Trade) → in_limits t ≡ true → leb t.quantity most_traded ≡ true
limit_shares t e = (both_hold (leb t.quantity most_traded) (leb t.price.0 top_price) e).0

limit_amount : (t : Trade) → in_limits t ≡ true → leb (amount_of t) most_paid ≡ true
unfolding amount_of
limit_amount t e =
    let w = both_hold (leb t.quantity most_traded) (leb t.price.0 top_price) e in
    let q = leb-true t.quantity most_traded w.0 in
    let p = leb-true t.price.0 top_price w.1 in
    let m = mul-le-mul {n₁ = t.quantity} {m₁ = t.price.0} {n₂ = most_traded} {m₂ = top_price} q p in
    le-leb (t.quantity * t.price.0) most_paid (omega arith)

module _ (due : ℕ) (ts : List Trade) (few : length ts ≤ most_trades) (w : all in_limits ts ≡ true) (a s : ℕ) where
  pub shares_size : nat_abs (quantity_of (net_of due ts a s)) ≤ most_shares
  unfolding net_of
  shares_size =
      let m = net_size (λ t. t.quantity) ts a s most_traded (all_so in_limits (λ t. leb t.quantity most_traded) ts limit_shares w) in
      omega arith

  pub money_size : nat_abs (money_of (net_of due ts a s)) ≤ most_mils
  unfolding net_of
  money_size =
      let m = net_size amount_of ts a s most_paid (all_so in_limits (λ t. leb (amount_of t) most_paid) ts limit_amount w) in
      omega arith
