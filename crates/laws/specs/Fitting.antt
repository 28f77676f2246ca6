-- The values of a book fit their bytes after each call on the list or the holdings, where the call's arguments fit their types; and those of the empty book,
-- which an accepted creation stores.
use Rattle.std.specs.Prelude.{◌≡◌, true, ◌||◌, List, [], ◌∷◌, ◌++◌, map, eqb, leb, get_or, take, set, pos}
use Rattle.std.proofs.Math.Bool.{cond}
use Prim.Native.Nat.{ℕ, zero, suc, ◌-◌, ◌*◌, ◌^◌, ◌<◌, ◌≤◌}
use native.Mathlib.Omega.{arith}
use Rattle.std.proofs.Common.{lit<, leb-true, eqb-true, eq-eqb}
use Rattle.std.proofs.Math.ListN.{length, replicate}
use Rattle.std.specs.Int.Signed.{mag}
use Rattle.fields.specs.Codec.{Codec, All, none, more, number, all_set, all_copies}
use Rattle.units.specs.Units.{mils}
use Rattle.rules.specs.Words.{all}
use Rattle.rules.specs.Bounds.{accounts, securities, currencies, last_currency, no_currency, most_records, most_trades}
use Rattle.rules.specs.Book.{no_position, no_trade, list_of, with_list, with_holdings, holding_at, held_by, empty_book}
use Rattle.rules.specs.Layout.{position, amount, trade, book, bytes_of}
use Rattle.rules.specs.Sound.{is_code}
use Rattle.rules.specs.Trades.{entered, replaced, amended, excluded_trade, excluded}
use Rattle.rules.specs.Calls.{Call, enter, amend, exclude, roll, deposit, withdraw, run, after, answer_sound, create_answer, create_bytes}
use Rattle.rules.specs.declared.Trade.{Trade}
use Rattle.rules.specs.declared.Book.{Book}
use Rattle.laws.specs.Cases.{by_test, both_hold, cond_yes}
use Rattle.laws.specs.Accepted.{may_deposit, may_create}
use Rattle.laws.specs.Totals.{held_part}
use Rattle.laws.specs.Shaped.{fits_shaped, list_shaped, entered_room, replaced_room}

-- ── rows that fit ──

module _ {A : Type 0} (x : Codec A) where
  -- rows that fit, however many
  abbrev pub Each : List A → Type 0
  Each ls = All x (length ls) ls

  pub each_of : {n : ℕ} (ls : List A) → All x n ls → Each ls
  each_of ls none = none
  each_of ls (more {ls = ks} h r) = more h (each_of ks r)

  pub so_many : (n : ℕ) (ls : List A) → length ls ≡ n → Each ls → All x n ls
  so_many n ls e h = rw e at h

  pub each_both : (ls ks : List A) → Each ls → Each ks → Each (ls ++ ks)
  each_both [] ks none k = k
  each_both (a ∷ ls) ks (more h r) k = more h (each_both ls ks r k)

  pub each_take : (n : ℕ) (ls : List A) → Each ls → Each (take n ls)
  each_take zero ls h = none
  each_take (suc n) [] h = none
  each_take (suc n) (a ∷ ls) (more h r) = more h (each_take n ls r)

  pub each_map : (f : A → A) (ls : List A) → ((a : A) → x.Ok a → x.Ok (f a)) → Each ls → Each (map f ls)
  each_map f [] p none = none
  each_map f (a ∷ ls) p (more h r) = more (p a h) (each_map f ls p r)

-- ── another list, other holdings ──

no_trade_fits : trade.Ok no_trade
no_trade_fits = (lit< tt, (lit< tt, (lit< tt, (lit< tt, (lit< tt, lit< tt)))))

module _ (k : Book) (ok : book.Ok k) where
  pub list_fits : (ts : List Trade) → length ts ≤ most_trades → Each trade ts → book.Ok (with_list k ts)
  unfolding with_list
  list_fits ts h each =
      let spare : ℕ = most_trades - length ts in
      let table : Each trade (ts ++ replicate spare no_trade) =
      each_both trade ts (replicate spare no_trade) each (each_of trade _ (all_copies trade spare no_trade no_trade_fits)) in
      let all-trades : All trade most_trades (ts ++ replicate spare no_trade) =
      so_many trade most_trades (ts ++ replicate spare no_trade) (list_shaped k ts h (fits_shaped k ok)).trades table in
      (ok.0, (ok.1.0, (ok.1.1.0, (ok.1.1.1.0, (ok.1.1.1.1.0, (ok.1.1.1.1.1.0, (omega arith, all-trades)))))))

  pub holding_fits : (i v : ℕ) → v < 256 ^ 8 → book.Ok (with_holdings k (set k.holdings i v))
  unfolding with_holdings
  holding_fits i v h =
      let all_held : All (number 8) (accounts * securities) (set k.holdings i v) = all_set (number 8) k.holdings i v ok.1.1.1.1.0 h in
      (ok.0, (ok.1.0, (ok.1.1.0, (ok.1.1.1.0, (all_held, ok.1.1.1.1.1)))))

  -- the list itself
  pub list_each : Each trade (list_of k)
  unfolding list_of
  list_each = each_take trade k.entries k.trades (each_of trade k.trades ok.1.1.1.1.1.1.1)

  pub holding_below : (i : ℕ) → get_or k.holdings i 0 < 256 ^ 8
  holding_below i = below k.holdings i ok.1.1.1.1.0
    where
      below : {n : ℕ} (hs : List ℕ) (i : ℕ) → All (number 8) n hs → get_or hs i 0 < 256 ^ 8
      below hs i none = lit< tt
      below hs zero (more h r) = h
      below hs (suc i) (more {ls = ls} h r) = below ls i r

-- ── the calls ──

-- the arguments fit their types: number 16 bits, accounts and security 8, quantity and price 32, a deposit 64
pub record TradeFits (t : Trade) : Type 0 where
  pub number : t.number < 65_536
  pub buyer : t.buyer < 256
  pub seller : t.seller < 256
  pub security : t.security < 256
  pub quantity : t.quantity < 2 ^ 32
  pub price : t.price.0 < 2 ^ 32

pub record HoldingFits (a s q : ℕ) : Type 0 where
  pub account : a < 256
  pub security : s < 256
  pub quantity : q < 2 ^ 64

unfoldable pub CallFits : Call → Type 0
CallFits (enter t) = TradeFits t
CallFits (amend t) = TradeFits t
CallFits (exclude n) = n < 65_536
CallFits roll = Unit {0}
CallFits (deposit a s q) = HoldingFits a s q
CallFits (withdraw a s q) = HoldingFits a s q
CallFits (run s) = s < 256

trade_fits : (t : Trade) → TradeFits t → trade.Ok t
trade_fits t h = (h.number, (h.buyer, (h.seller, (h.security, (h.quantity, h.price)))))

excluded_fits : (n : ℕ) → n < 65_536 → trade.Ok (excluded_trade n)
excluded_fits n h = (h, no_trade_fits.1)

module _ (k : Book) (ok : book.Ok k) where
  replaced_fits : (n : ℕ) (t : Trade) → trade.Ok t → book.Ok (with_list k (replaced (list_of k) n t))
  unfolding replaced
  replaced_fits n t h =
      list_fits k ok (replaced (list_of k) n t) (replaced_room k (fits_shaped k ok) n t)
      (each_map trade (λ u. cond (eqb u.number n) t u) (list_of k) (λ u e. by_test (eqb u.number n) (λ y. rw y h) (λ y. rw y e)) (list_each k ok))

  pub enter_fits : (t : Trade) → CallFits (enter t) → answer_sound k (enter t) ≡ 0 → book.Ok (after k (enter t))
  unfolding CallFits after entered
  enter_fits t h e =
      list_fits k ok (entered (list_of k) t) (entered_room k (fits_shaped k ok) t e)
      (each_both trade (list_of k) (t ∷ []) (list_each k ok) (more (trade_fits t h) none))

  pub amend_fits : (t : Trade) → CallFits (amend t) → book.Ok (after k (amend t))
  unfolding CallFits after amended
  amend_fits t h = replaced_fits t.number t (trade_fits t h)

  pub exclude_fits : (n : ℕ) → CallFits (exclude n) → book.Ok (after k (exclude n))
  unfolding CallFits after excluded
  exclude_fits n h = replaced_fits n (excluded_trade n) (excluded_fits n h)

  -- the total of the security bounds the new entry
  pub deposit_fits : (a s q : ℕ) → answer_sound k (deposit a s q) ≡ 0 → book.Ok (after k (deposit a s q))
  unfolding after held_by
  deposit_fits a s q e =
      let m = may_deposit k a s q e in
      let h = held_part k.holdings (fits_shaped k ok).holdings a s m.0.account m.0.security in
      holding_fits k ok (holding_at a s) _ (omega arith)

  pub withdraw_fits : (a s q : ℕ) → book.Ok (after k (withdraw a s q))
  unfolding after held_by
  withdraw_fits a s q = holding_fits k ok (holding_at a s) _ (omega (arith, holding_below k ok (holding_at a s)))

-- ── the empty book ──

codes_fit_lem : (codes : List ℕ) → all is_code codes ≡ true → Each (number 1) codes
unfolding all is_code
codes_fit_lem [] e = none
codes_fit_lem (c ∷ cs) e =
    let p = both_hold (leb c last_currency || eqb c no_currency) (all is_code cs) e in
    more (small c p.0) (codes_fit_lem cs p.1)
  where
    small : (c : ℕ) → leb c last_currency || eqb c no_currency ≡ true → c < 256
    small c h =
        by_test (leb c last_currency) (λ y. omega (arith, leb-true c last_currency y)) (λ y. omega (arith, eqb-true c no_currency (rw y at h)))

pub empty_fits : (codes : List ℕ) → length codes ≡ securities → all is_code codes ≡ true → book.Ok (empty_book codes)
unfolding empty_book
empty_fits codes n e =
    let zero-fits : mag (pos 0) < 2 ^ 63 = lit< tt in
    let open-positions = all_copies position most_records no_position (lit< tt, (zero-fits, zero-fits)) in
    let holdings = all_copies (number 8) (accounts * securities) 0 (lit< tt) in
    let charges = all_copies amount (accounts * currencies) (mils (pos 0)) zero-fits in
    let trades = all_copies trade most_trades no_trade no_trade_fits in
    (lit< tt, (so_many (number 1) securities codes n (codes_fit_lem codes e), (lit< tt, (open-positions, (holdings, (charges, (lit< tt, trades)))))))

-- ── creation ──

module _ (bs codes : List ℕ) (e : create_answer bs codes ≡ 0) where
  pub stored_empty : create_bytes bs codes ≡ bytes_of (empty_book codes)
  unfolding create_bytes
  stored_empty = cond_yes (bytes_of (empty_book codes)) bs (eq-eqb (create_answer bs codes) 0 e)

  pub created_fits : book.Ok (empty_book codes)
  created_fits = let m = may_create bs codes e in empty_fits codes m.0 m.1
