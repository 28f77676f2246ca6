-- An accepted deposit or withdrawal leaves a sound book: entry and total stay within 10^12, the security is listed, and no other clause reads the holdings.
use Rattle.std.specs.Prelude.{◌≡◌, true, false, ◌||◌, ℕ, zero, suc, ◌+◌, ◌*◌, ◌-◌, ◌<◌, ◌≤◌, eqb, length, get_or, set}
use Rattle.std.proofs.Math.Path.{refl}
use Rattle.std.proofs.Math.Bool.{not}
use mathlib.Core.List.{List, [], ◌∷◌}
use Rattle.std.proofs.Common.{arith, get_or-set_same}
use Rattle.std.proofs.Math.Decide.{ℕ_discrete}
use Rattle.std.proofs.Math.Dec.{leb}
use borrow.Author.Tests.{le-leb, leb-true}
use Rattle.rules.specs.Words.{all}
use Rattle.rules.specs.Bounds.{accounts, securities, no_currency, most_held}
use Rattle.rules.specs.Book.{security_of, open_of, list_of, with_holdings, currency_of, unlisted, holding_at, held_by}
use Rattle.rules.specs.Sound.{day_fits, codes_fit, records_fit, due_balanced, by_account, totals_held, total_held, holdings_fit, holds_listed, unlisted_empty, valid_trade, trades_fit, sound}
use Rattle.rules.specs.Trades.{bad_security}
use Rattle.rules.specs.Calls.{deposit, withdraw, after, answer_sound}
use Rattle.rules.specs.declared.Book.{Book}
use Rattle.laws.specs.Cases.{both_hold, and_hold}
use Rattle.laws.specs.Walks.{all_at}
use Rattle.laws.specs.All.{all_by_index, all_set}
use Rattle.laws.specs.Tables.{groups_length}
use Rattle.laws.specs.Totals.{totals_held_length, held_part, next_long, next_held, total_there, total_elsewhere}
use Rattle.laws.specs.SoundParts.{SoundBook, sound_parts, parts_sound, money_same}
use Rattle.laws.specs.Accepted.{may_deposit, may_withdraw}
use Rattle.laws.specs.Shaped.{Shaped}

-- ── the clauses that read the holdings, of holdings alone ──

-- a security's total in a sound book
pub total_fits_lem : (k : Book) (s : ℕ) → holdings_fit k ≡ true → length k.holdings ≡ accounts * securities → s < securities → total_held k.holdings s ≤ most_held
unfolding holdings_fit total_held
total_fits_lem k s e long h =
    let p = both_hold (all (λ h. leb h most_held) k.holdings) (all (λ t. leb t most_held) (totals_held k.holdings)) e in
    leb-true _ most_held (all_at (λ t. leb t most_held) (totals_held k.holdings) s 0 p.1 (omega (arith, totals_held_length k.holdings long)))

-- an entry of a listed security may be anything
pub listed_set : (cs hs : List ℕ) (s v : ℕ) → eqb (get_or cs s 0) no_currency ≡ false → holds_listed cs hs ≡ true → holds_listed cs (set hs s v) ≡ true
unfolding holds_listed
listed_set [] hs s v n e = refl
listed_set (c ∷ cs) [] s v n e = refl
listed_set (c ∷ cs) (h ∷ hs) zero v n e = rw n (both_hold (not (eqb c no_currency) || eqb h 0) (holds_listed cs hs) e).1
listed_set (c ∷ cs) (h ∷ hs) (suc s) v n e =
    let p = both_hold (not (eqb c no_currency) || eqb h 0) (holds_listed cs hs) e in
    and_hold p.0 (listed_set cs hs s v n p.1)

module _ (k : Book) (c : SoundBook k) (shape : Shaped k) (a s v : ℕ) (h : a < accounts) (l : s < securities) (on : unlisted k s ≡ false)
    (room : total_held k.holdings s + v ≤ most_held + get_or k.holdings (holding_at a s) 0) where
  abbrev next : List ℕ
  next = set k.holdings (holding_at a s) v

  inside : holding_at a s < length k.holdings
  unfolding holding_at
  inside = omega (arith, shape.holdings)

  total_small : total_held next s ≤ most_held
  total_small = omega (arith, total_there k.holdings shape.holdings a s v h l)

  entry_small : v ≤ most_held
  entry_small =
      omega (
        arith,
        total_small,
        held_part next (next_long k.holdings shape.holdings a s v h l) a s h l,
        get_or-set_same k.holdings (holding_at a s) v 0 inside,
      )

  totals_small : (u : ℕ) → u < securities → total_held next u ≤ most_held
  totals_small u m = go (ℕ_discrete u s)
    where
      go : Dec (u ≡ s) → total_held next u ≤ most_held
      go (yes e) = rw e total_small
      go (no n) = omega (arith, total_elsewhere k.holdings shape.holdings a s v h l u m n, total_fits_lem k u c.holdings shape.holdings m)

  fits : holdings_fit (with_holdings k next) ≡ true
  unfolding holdings_fit with_holdings total_held
  fits =
      let p = both_hold (all (λ h. leb h most_held) k.holdings) (all (λ t. leb t most_held) (totals_held k.holdings)) c.holdings in
      and_hold (all_set (λ h. leb h most_held) k.holdings (holding_at a s) v p.0 (le-leb v most_held entry_small))
      (all_by_index (λ t. leb t most_held) (totals_held next) 0
      (λ u m. le-leb _ most_held (totals_small u (omega (arith, totals_held_length next (next_long k.holdings shape.holdings a s v h l))))))

  empty : unlisted_empty (with_holdings k next) ≡ true
  unfolding unlisted_empty with_holdings open_of unlisted currency_of
  empty =
      let rows = by_account securities accounts k.holdings in
      let p = both_hold (all (λ p. not (unlisted k (security_of p))) (open_of k)) (all (holds_listed k.currency) rows) c.listed in
      and_hold p.0
      (rw (next_held k.holdings shape.holdings a s v h l)
      (all_set (holds_listed k.currency) rows a _ p.1
      (listed_set k.currency (get_or rows a []) s v on
      (all_at (holds_listed k.currency) rows a [] p.1 (omega (arith, groups_length securities accounts k.holdings))))))

  with_entry : sound (with_holdings k next) ≡ true
  unfolding with_holdings open_of list_of day_fits codes_fit records_fit due_balanced trades_fit valid_trade bad_security unlisted currency_of
  with_entry =
      parts_sound (with_holdings k next)
      record {
        day = c.day;
        codes = c.codes;
        records = c.records;
        sizes = c.sizes;
        due_days = c.due_days;
        due_nonzero_lem = c.due_nonzero_lem;
        signs = c.signs;
        balances = c.balances;
        holdings = fits;
        listed = empty;
        money = money_same (with_holdings k next) k refl refl refl c.money;
        trades = c.trades;
      }

-- ── the calls ──

module _ (k : Book) (ok : sound k ≡ true) (shape : Shaped k) (a s q : ℕ) where
  pub deposit_kept : answer_sound k (deposit a s q) ≡ 0 → sound (after k (deposit a s q)) ≡ true
  unfolding after held_by
  deposit_kept e =
      let m = may_deposit k a s q e in
      with_entry k (sound_parts k ok) shape a s (get_or k.holdings (holding_at a s) 0 + q) m.0.account m.0.security m.0.listed (omega arith)

  pub withdraw_kept : answer_sound k (withdraw a s q) ≡ 0 → sound (after k (withdraw a s q)) ≡ true
  unfolding after held_by
  withdraw_kept e =
      let c = sound_parts k ok in
      let m = may_withdraw k a s q e in
      with_entry k c shape a s (get_or k.holdings (holding_at a s) 0 - q) m.0.account m.0.security m.0.listed
      (omega (arith, total_fits_lem k s c.holdings shape.holdings m.0.security))
