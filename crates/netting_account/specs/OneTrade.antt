-- Today's net with one trade more (document 01, "From trades to positions": bought less sold shares, paid less received amounts).
use Rattle.std.specs.Prelude.{◌≡◌, true, false, List, [], ℕ, ◌+◌, ◌*◌, ◌<◌, ◌≤◌, leb, length, get_or, take, ℤ, pos, nat_abs, ◌+ℤ◌, ◌-ℤ◌, ◌*ℤ◌}
use Rattle.std.proofs.Common.{sym, ◌∙◌, arith, leb-true}
use Rattle.std.proofs.Math.Path.{ap}
use Rattle.std.proofs.Math.Bool.{Bool, cond}
use Rattle.std.proofs.Math.Dec.{eqb}
use Rattle.std.proofs.Math.IntN.{+ℤ_idr}
use Rattle.integers.specs.Linear.{zlin}
use Rattle.integers.specs.Signs.{signed}
use Rattle.integers.specs.Sums.{sum_by_take}
use Rattle.units.specs.Units.{shares, mils, top_price}
use Rattle.rules.specs.Words.{keep}
use Rattle.rules.specs.Bounds.{most_traded}
use Rattle.rules.specs.Book.{quantity_of, money_of, no_trade, number_of}
use Rattle.rules.specs.Trades.{amount_of}
use Rattle.rules.specs.Nets.{bought, sold, net, net_of}
use Rattle.rules.specs.declared.Position.{Position}
use Rattle.rules.specs.declared.Trade.{Trade}
use Rattle.laws.specs.Cases.{by_test, both_hold}
use Rattle.laws.specs.Adding.{sum_by_keep}
use Rattle.laws.specs.NetLaws.{flow, flow_zero, has_part, in_limits}

abbrev shares_in : Trade → ℕ
shares_in t = t.quantity

-- a position with other shares and money
abbrev moved : Position → ℤ → ℤ → Position
moved p q m = record { number = p.number; quantity = shares q; money = mils m }

moved_is : (p : Position) (q r m n : ℤ) → q ≡ r → m ≡ n → moved p q m ≡ moved p r n
moved_is p q r m n e f = λ i. moved p (e i) (f i)

-- ── one trade ──

-- a net with the shares and the amount of a trade, below zero for what was sold
unfoldable pub plus_trade : Bool → Position → Trade → Position
plus_trade negative p t = moved p (quantity_of p +ℤ signed negative t.quantity) (money_of p +ℤ signed negative (amount_of t))

-- with what account a bought; less what it sold
unfoldable pub plus_bought : ℕ → Position → Trade → Position
plus_bought a p t = moved p (quantity_of p +ℤ bought (λ t. t.quantity) a t) (money_of p +ℤ bought amount_of a t)

unfoldable pub less_sold : ℕ → Position → Trade → Position
less_sold a p t = moved p (quantity_of p -ℤ sold (λ t. t.quantity) a t) (money_of p -ℤ sold amount_of a t)

-- with both
unfoldable pub with_trade : ℕ → Position → Trade → Position
with_trade a p t = less_sold a (plus_bought a p t) t

signed_times : (negative : Bool) (n m : ℕ) → signed negative n *ℤ pos m ≡ signed negative (n * m)
signed_times true n m = simp zlin (omega arith)
signed_times false n m = simp zlin (omega arith)

-- as the code adds it: the amount is the shares times the price, with their sign
pub trade_added : (negative : Bool) (p : Position) (t : Trade) (traded amount q m : ℤ) → traded ≡ signed negative t.quantity
    → amount ≡ traded *ℤ pos t.price.0 → q ≡ quantity_of p +ℤ traded → m ≡ money_of p +ℤ amount → moved p q m ≡ plus_trade negative p t
unfolding plus_trade amount_of
trade_added negative p t traded amount q m et ea eq em =
    moved_is p _ _ _ _ (eq ∙ ap (λ (z : ℤ). quantity_of p +ℤ z) et)
    (em ∙ ap (λ (z : ℤ). money_of p +ℤ z) (ea ∙ ap (λ (z : ℤ). z *ℤ pos t.price.0) et ∙ signed_times negative t.quantity t.price.0))

module _ (a : ℕ) (p : Position) (t : Trade) where
  pub bought_yes : eqb t.buyer a ≡ true → plus_trade false p t ≡ plus_bought a p t
  unfolding plus_trade plus_bought bought
  bought_yes e = rw e

  pub bought_no : eqb t.buyer a ≡ false → p ≡ plus_bought a p t
  unfolding plus_bought bought
  bought_no e = rw e (moved_is p _ _ _ _ (sym (+ℤ_idr (quantity_of p))) (sym (+ℤ_idr (money_of p))))

  pub sold_yes : eqb t.seller a ≡ true → plus_trade true p t ≡ less_sold a p t
  unfolding plus_trade less_sold sold
  sold_yes e = rw e

  pub sold_no : eqb t.seller a ≡ false → p ≡ less_sold a p t
  unfolding less_sold sold
  sold_no e = rw e (moved_is p _ _ _ _ (sym (+ℤ_idr (quantity_of p))) (sym (+ℤ_idr (money_of p))))

-- ── a net over one trade more ──

module _ (v : Trade → ℕ) (ts : List Trade) (i a s : ℕ) (h : i < length ts) where
  abbrev here : Trade
  here = get_or ts i no_trade

  net_take : net v (take (i + 1) ts) a s ≡ net v (take i ts) a s +ℤ cond (eqb here.security s) (flow v a here) (pos 0)
  unfolding net
  net_take =
      let t : Trade → Bool = λ t. eqb t.security s in
      sum_by_keep (flow v a) t (take (i + 1) ts)
      ∙ sum_by_take (λ u. cond (t u) (flow v a u) (pos 0)) ts i no_trade h
      ∙ ap (λ (z : ℤ). z +ℤ cond (t here) (flow v a here) (pos 0)) (sym (sum_by_keep (flow v a) t (take i ts)))

  net_yes : eqb here.security s ≡ true → net v (take (i + 1) ts) a s ≡ (net v (take i ts) a s +ℤ bought v a here) -ℤ sold v a here
  net_yes e = net_take ∙ rw e (simp zlin (omega arith))

  net_no : eqb here.security s ≡ false → net v (take (i + 1) ts) a s ≡ net v (take i ts) a s
  net_no e = net_take ∙ rw e (+ℤ_idr (net v (take i ts) a s))

  net_apart : has_part a here ≡ false → net v (take (i + 1) ts) a s ≡ net v (take i ts) a s
  net_apart e =
      net_take
      ∙ by_test (eqb here.security s)
      (λ f. rw (f, flow_zero v a here e) (+ℤ_idr (net v (take i ts) a s)))
      (λ f. rw f (+ℤ_idr (net v (take i ts) a s)))

-- over no trade
pub net_none : (due a s m : ℕ) → m ≡ number_of due a s → record { number = m; quantity = shares (pos 0); money = mils (pos 0) } ≡ net_of due [] a s
unfolding net_of net keep
net_none due a s m e = rw e

module _ (due : ℕ) (ts : List Trade) (a s i : ℕ) (h : i < length ts) where
  abbrev trade : Trade
  trade = get_or ts i no_trade

  -- a trade in the security; in another; in which the account has no part
  pub net_in : eqb trade.security s ≡ true → net_of due (take (i + 1) ts) a s ≡ with_trade a (net_of due (take i ts) a s) trade
  unfolding with_trade less_sold plus_bought net_of
  net_in e = moved_is (net_of due (take i ts) a s) _ _ _ _ (net_yes shares_in ts i a s h e) (net_yes amount_of ts i a s h e)

  pub net_out : eqb trade.security s ≡ false → net_of due (take (i + 1) ts) a s ≡ net_of due (take i ts) a s
  unfolding net_of
  net_out e = moved_is (net_of due (take i ts) a s) _ _ _ _ (net_no shares_in ts i a s h e) (net_no amount_of ts i a s h e)

  pub net_others : has_part a trade ≡ false → net_of due (take (i + 1) ts) a s ≡ net_of due (take i ts) a s
  unfolding net_of
  net_others e = moved_is (net_of due (take i ts) a s) _ _ _ _ (net_apart shares_in ts i a s h e) (net_apart amount_of ts i a s h e)

-- ── sizes ──

-- shares and money within n either side of zero
abbrev pub Within : ℕ → Position → Type 0
Within n p = (nat_abs (quantity_of p) ≤ n) × (nat_abs (money_of p) ≤ n)

pub limits : (t : Trade) → in_limits t ≡ true → (t.quantity ≤ most_traded) × (t.price.0 ≤ top_price)
limits t e =
    let w = both_hold (leb t.quantity most_traded) (leb t.price.0 top_price) e in
    (leb-true t.quantity most_traded w.0, leb-true t.price.0 top_price w.1)
