-- Unused room is zero: the rows behind the records, and those behind the list, are the zero row, so that each table of a sound book is what
-- is in use and so many zero rows behind it.
use Rattle.std.specs.Prelude.{◌≡◌, refl, Bool, true, ◌&&◌, List, [], ◌∷◌, ◌++◌, map, ℕ, ◌-◌, ◌≤◌, eqb, leb, length, take, drop, replicate, ℤ, pos}
use Rattle.std.proofs.Common.{sym, ap, ap₂, ◌∙◌, arith, length-drop, take-append-drop}
use Rattle.std.proofs.Math.Seq.{length-take-le}
use borrow.Author.Tests.{leb-true, eqb-true}
use Rattle.units.specs.Units.{shares, mils}
use Rattle.rules.specs.Words.{all}
use Rattle.rules.specs.Bounds.{most_records, most_trades}
use Rattle.rules.specs.Book.{quantity_of, money_of, is_zero, no_position, no_trade, open_of, list_of}
use Rattle.rules.specs.Sound.{ascends, is_blank, records_fit, distinct, zero_fields, trades_fit}
use Rattle.rules.specs.declared.Position.{Position}
use Rattle.rules.specs.declared.Trade.{Trade}
use Rattle.rules.specs.declared.Book.{Book}
use Rattle.laws.specs.Cases.{both_hold, is_zero_lem}
use Rattle.laws.specs.Listed.{listable, fit_few}
use Rattle.laws.specs.Shaped.{Shaped}

-- ── one zero row ──

zero_position : (n : ℕ) (q m : ℤ) → n ≡ 0 → q ≡ pos 0 → m ≡ pos 0
    → ◌≡◌ {A = Position} (record { number = n; quantity = shares q; money = mils m }) no_position
zero_position n q m en eq em = rw (en, eq, em)

blank_position : (p : Position) → is_blank p ≡ true → p ≡ no_position
unfolding is_blank
blank_position p e =
    let n = both_hold (eqb p.number 0) _ e in
    let z = both_hold (is_zero (quantity_of p)) (is_zero (money_of p)) n.1 in
    zero_position p.number (quantity_of p) (money_of p) (eqb-true _ _ n.0) (is_zero_lem (quantity_of p) z.0) (is_zero_lem (money_of p) z.1)

zero_trade : (n b s c q p : ℕ) → n ≡ 0 → b ≡ 0 → s ≡ 0 → c ≡ 0 → q ≡ 0 → p ≡ 0
    → ◌≡◌ {A = Trade} (record { number = n; buyer = b; seller = s; security = c; quantity = q; price = record { 0 = p } }) no_trade
zero_trade n b s c q p en eb es ec eq ep = rw (en, eb, es, ec, eq, ep)

abbrev blank_trade : Trade → Bool
blank_trade t = eqb t.number 0 && zero_fields t

blank_trade_lem : (t : Trade) → blank_trade t ≡ true → t ≡ no_trade
unfolding zero_fields
blank_trade_lem t e =
    let n = both_hold (eqb t.number 0) _ e in
    let b = both_hold (eqb t.buyer 0) _ n.1 in
    let s = both_hold (eqb t.seller 0) _ b.1 in
    let c = both_hold (eqb t.security 0) _ s.1 in
    let q = both_hold (eqb t.quantity 0) (eqb t.price.0 0) c.1 in
    zero_trade t.number t.buyer t.seller t.security t.quantity t.price.0
    (eqb-true _ _ n.0) (eqb-true _ _ b.0) (eqb-true _ _ s.0) (eqb-true _ _ c.0) (eqb-true _ _ q.0) (eqb-true _ _ q.1)

-- ── rows that are all zero, and a table with them behind what is in use ──

blanks : {A : Type 0} (t : A → Bool) (d : A) → ((x : A) → t x ≡ true → x ≡ d) → (l : List A) → all t l ≡ true → l ≡ replicate (length l) d
unfolding all
blanks t d f [] e = refl
blanks {A = A} t d f (x ∷ l) e =
    let b = both_hold (t x) (all t l) e in
    ap₂ (λ (y : A) (m : List A). y ∷ m) (f x b.0) (blanks t d f l b.1)

in_use : {A : Type 0} (d : A) (n most : ℕ) (l : List A) → length l ≡ most → n ≤ most → drop n l ≡ replicate (length (drop n l)) d
    → l ≡ take n l ++ replicate (most - length (take n l)) d
in_use {A = A} d n most l long h e =
    let m : length (drop n l) ≡ most - length (take n l) = omega (arith, length-drop n l, length-take-le n l (omega arith)) in
    sym (take-append-drop n l) ∙ ap (λ (r : List A). take n l ++ r) (e ∙ ap (λ (j : ℕ). replicate j d) m)

-- ── the two tables ──

module _ (k : Book) (fit : records_fit k ≡ true) where
  pub behind_records : drop k.records k.positions ≡ replicate (length (drop k.records k.positions)) no_position
  unfolding records_fit
  behind_records =
      blanks is_blank no_position blank_position (drop k.records k.positions)
      (both_hold (ascends (open_of k)) _ (both_hold (leb k.records most_records) _ fit).1).1

  pub records_few : k.records ≤ most_records
  unfolding records_fit
  records_few = leb-true k.records most_records (both_hold (leb k.records most_records) _ fit).0

  module _ (s : Shaped k) where
    pub open_long : length (open_of k) ≡ k.records
    unfolding open_of
    open_long = length-take-le k.records k.positions (omega (arith, records_few, s.positions))

    pub positions_whole : k.positions ≡ open_of k ++ replicate (most_records - length (open_of k)) no_position
    unfolding open_of
    positions_whole = in_use no_position k.records most_records k.positions s.positions records_few behind_records

module _ (k : Book) (fit : trades_fit k ≡ true) where
  pub behind_list : drop k.entries k.trades ≡ replicate (length (drop k.entries k.trades)) no_trade
  unfolding trades_fit
  behind_list =
      blanks blank_trade no_trade blank_trade_lem (drop k.entries k.trades)
      (both_hold (all (listable k) (list_of k)) _
      (both_hold (distinct (map (λ t. t.number) (list_of k))) _ (both_hold (leb k.entries most_trades) _ fit).1).1).1

  pub entries_few : k.entries ≤ most_trades
  entries_few = leb-true k.entries most_trades (fit_few k fit)

  module _ (s : Shaped k) where
    pub listed_long : length (list_of k) ≡ k.entries
    unfolding list_of
    listed_long = length-take-le k.entries k.trades (omega (arith, entries_few, s.trades))

    pub trades_whole : k.trades ≡ list_of k ++ replicate (most_trades - length (list_of k)) no_trade
    unfolding list_of
    trades_whole = in_use no_trade k.entries most_trades k.trades s.trades entries_few behind_list
