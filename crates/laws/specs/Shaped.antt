-- The lengths of the five tables, which come with the type of the book: of a book whose values fit, and after each call on the list or the holdings.
use Rattle.std.specs.Prelude.{◌≡◌, refl, List, [], ◌∷◌, ℕ, suc, ◌+◌, ◌*◌, ◌-◌, ◌≤◌, length, replicate}
use Rattle.std.proofs.Common.{ap, ◌∙◌, arith, length-set}
use Rattle.std.proofs.Math.ListN.{length-append, length-take, length-map}
use Rattle.std.proofs.lemmas.List.{length-replicate}
use Rattle.fields.specs.Codec.{Codec, All, none, more}
use Rattle.rules.specs.Bounds.{accounts, securities, currencies, most_records, most_trades}
use Rattle.rules.specs.Book.{no_trade, list_of, with_list, with_holdings, held_by, holding_at}
use Rattle.rules.specs.Layout.{book}
use Rattle.rules.specs.Trades.{entered, replaced, amended, excluded}
use Rattle.rules.specs.Calls.{enter, amend, exclude, deposit, withdraw, after, answer_sound}
use Rattle.rules.specs.declared.Trade.{Trade}
use Rattle.rules.specs.declared.Book.{Book}
use Rattle.laws.specs.Accepted.{may_enter}

pub record Shaped (k : Book) : Type 0 where
  pub currency : length k.currency ≡ securities
  pub positions : length k.positions ≡ most_records
  pub holdings : length k.holdings ≡ accounts * securities
  pub charges : length k.charges ≡ accounts * currencies
  pub trades : length k.trades ≡ most_trades

-- ── a book whose values fit ──

pub rows_length : {A : Type 0} (x : Codec A) {n : ℕ} (ls : List A) → All x n ls → length ls ≡ n
rows_length x ls none = refl
rows_length x ls (more {ls = ks} h r) = ap suc (rows_length x ks r)

pub fits_shaped : (k : Book) → book.Ok k → Shaped k
fits_shaped k h =
    record {
      currency = rows_length _ k.currency h.1.0;
      positions = rows_length _ k.positions h.1.1.1.0;
      holdings = rows_length _ k.holdings h.1.1.1.1.0;
      charges = rows_length _ k.charges h.1.1.1.1.1.0;
      trades = rows_length _ k.trades h.1.1.1.1.1.1.1;
    }

-- ── another list, other holdings ──

pub list_shaped : (k : Book) (ts : List Trade) → length ts ≤ most_trades → Shaped k → Shaped (with_list k ts)
unfolding with_list
list_shaped k ts h c =
    record {
      currency = c.currency;
      positions = c.positions;
      holdings = c.holdings;
      charges = c.charges;
      trades = omega (arith, length-append ts (replicate (most_trades - length ts) no_trade), length-replicate (most_trades - length ts) no_trade);
    }

pub holdings_shaped : (k : Book) (hs : List ℕ) → length hs ≡ length k.holdings → Shaped k → Shaped (with_holdings k hs)
unfolding with_holdings
holdings_shaped k hs e c =
    record { currency = c.currency; positions = c.positions; holdings = e ∙ c.holdings; charges = c.charges; trades = c.trades }

-- ── the calls ──

module _ (k : Book) (c : Shaped k) where
  -- the list is at most as long as its table, and at most as long as its count
  pub list_room : length (list_of k) ≤ most_trades
  unfolding list_of
  list_room = omega (arith, length-take k.entries k.trades, c.trades)

  pub list_count : length (list_of k) ≤ k.entries
  unfolding list_of
  list_count = omega (arith, length-take k.entries k.trades)

  pub entered_room : (t : Trade) → answer_sound k (enter t) ≡ 0 → length (entered (list_of k) t) ≤ most_trades
  unfolding entered
  entered_room t e = omega (arith, length-append (list_of k) (t ∷ []), list_count, (may_enter k t e).room)

  pub replaced_room : (n : ℕ) (t : Trade) → length (replaced (list_of k) n t) ≤ most_trades
  unfolding replaced
  replaced_room n t = rw length-map list_room

  pub enter_shaped : (t : Trade) → answer_sound k (enter t) ≡ 0 → Shaped (after k (enter t))
  unfolding after
  enter_shaped t e = list_shaped k (entered (list_of k) t) (entered_room t e) c

  pub amend_shaped : (t : Trade) → Shaped (after k (amend t))
  unfolding after amended
  amend_shaped t = list_shaped k (replaced (list_of k) t.number t) (replaced_room t.number t) c

  pub exclude_shaped : (n : ℕ) → Shaped (after k (exclude n))
  unfolding after excluded
  exclude_shaped n = list_shaped k (replaced (list_of k) n _) (replaced_room n _) c

  pub deposit_shaped : (a s q : ℕ) → Shaped (after k (deposit a s q))
  unfolding after
  deposit_shaped a s q = holdings_shaped k _ (length-set k.holdings (holding_at a s) (held_by k a s + q)) c

  pub withdraw_shaped : (a s q : ℕ) → Shaped (after k (withdraw a s q))
  unfolding after
  withdraw_shaped a s q = holdings_shaped k _ (length-set k.holdings (holding_at a s) (held_by k a s - q)) c
