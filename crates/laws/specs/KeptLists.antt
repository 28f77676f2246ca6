-- An accepted entry, amendment or exclusion leaves a sound book: the list stays fit, and no other clause reads it.
use Rattle.std.specs.Prelude.{◌≡◌, true, false, cond, ◌&&◌, ◌||◌, List, [], ◌∷◌, ◌++◌, map, ℕ, ◌-◌, ◌≤◌, leb, drop, replicate}
use Rattle.std.proofs.Math.Path.{refl}
use Rattle.std.proofs.Common.{sym, ap, le-leb, eqb-true}
use Rattle.std.proofs.Math.Bool.{not}
use Rattle.std.proofs.Math.Dec.{eqb}
use Rattle.std.proofs.Math.ListN.{length}
use Rattle.std.proofs.Math.Seq.{take_at, drop_at}
use Rattle.rules.specs.Words.{all, any}
use Rattle.rules.specs.Bounds.{most_trades}
use Rattle.rules.specs.Book.{no_trade, open_of, list_of, with_list, currency_of, unlisted}
use Rattle.rules.specs.Sound.{day_fits, codes_fit, records_fit, due_balanced, holdings_fit, unlisted_empty, distinct, valid_trade, zero_fields, trades_fit, sound}
use Rattle.rules.specs.Trades.{used, bad_security, entered, replaced, amended, excluded_trade, excluded}
use Rattle.rules.specs.Calls.{enter, amend, exclude, after, answer_sound}
use Rattle.rules.specs.declared.Trade.{Trade}
use Rattle.rules.specs.declared.Book.{Book}
use Rattle.laws.specs.Cases.{by_test, both_hold, and_hold, neither, or_left, or_right}
use Rattle.laws.specs.All.{all_both, map_all_in}
use Rattle.laws.specs.Tables.{all_same}
use Rattle.laws.specs.Listed.{listable, fit_each}
use Rattle.laws.specs.SoundParts.{SoundBook, sound_parts, parts_sound, money_same}
use Rattle.laws.specs.Accepted.{MayEnter, may_enter, may_amend}
use Rattle.laws.specs.Shaped.{Shaped, entered_room, replaced_room}

-- ── a list of trades ──

-- what the list of a sound book is, without its table
record Fit (k : Book) (ts : List Trade) : Type 0 where
  few : length ts ≤ most_trades
  apart : distinct (map (λ t. t.number) ts) ≡ true
  each : all (listable k) ts ≡ true

module _ (k : Book) (ts : List Trade) (f : Fit k ts) where
  listed : list_of (with_list k ts) ≡ ts
  unfolding list_of with_list
  listed = take_at ts (replicate (most_trades - length ts) no_trade) (length ts) refl

  behind : drop (with_list k ts).entries (with_list k ts).trades ≡ replicate (most_trades - length ts) no_trade
  unfolding with_list
  behind = drop_at ts (replicate (most_trades - length ts) no_trade) (length ts) refl

  fits : trades_fit (with_list k ts) ≡ true
  unfolding trades_fit with_list valid_trade bad_security unlisted currency_of zero_fields
  fits =
      and_hold (le-leb (length ts) most_trades f.few)
      (rw listed
      (and_hold f.apart
      (and_hold f.each
      (rw behind (all_same (λ t. eqb t.number 0 && zero_fields t) (most_trades - length ts) no_trade refl)))))

  with_list_lem : SoundBook k → sound (with_list k ts) ≡ true
  unfolding with_list open_of day_fits codes_fit records_fit due_balanced holdings_fit unlisted_empty unlisted currency_of
  with_list_lem c =
      parts_sound (with_list k ts)
      record {
        day = c.day;
        codes = c.codes;
        records = c.records;
        sizes = c.sizes;
        due_days = c.due_days;
        due_nonzero_lem = c.due_nonzero_lem;
        signs = c.signs;
        balances = c.balances;
        holdings = c.holdings;
        listed = c.listed;
        money = money_same (with_list k ts) k refl refl refl c.money;
        trades = fits;
      }

-- what a sound book says of its list
module _ (k : Book) (e : trades_fit k ≡ true) where
  pub was_apart : distinct (map (λ t. t.number) (list_of k)) ≡ true
  unfolding trades_fit
  was_apart = (both_hold (distinct (map (λ t. t.number) (list_of k))) _ (both_hold (leb k.entries most_trades) _ e).1).0

-- ── entry ──

-- a number that no trade of the list has
unused_apart : (n : ℕ) (ts : List Trade) → used n ts ≡ false → all (λ m. not (eqb m n)) (map (λ t. t.number) ts) ≡ true
unfolding used any all
unused_apart n [] e = refl
unused_apart n (t ∷ ts) e = let p = neither (eqb t.number n) (any (λ t. eqb t.number n) ts) e in and_hold (ap not p.0) (unused_apart n ts p.1)

distinct_more : (ns : List ℕ) (n : ℕ) → distinct ns ≡ true → all (λ m. not (eqb m n)) ns ≡ true → distinct (ns ++ (n ∷ [])) ≡ true
unfolding distinct all
distinct_more [] n d a = refl
distinct_more (m ∷ ns) n d a =
    let x = both_hold (all (λ i. not (eqb m i)) ns) (distinct ns) d in
    let y = both_hold (not (eqb m n)) (all (λ m. not (eqb m n)) ns) a in
    and_hold (all_both (λ i. not (eqb m i)) ns (n ∷ []) x.0 (and_hold y.0 refl)) (distinct_more ns n x.1 y.1)

entered_numbers : (ts : List Trade) (t : Trade) → map (λ t. t.number) (entered ts t) ≡ map (λ t. t.number) ts ++ (t.number ∷ [])
unfolding entered
entered_numbers [] t = refl
entered_numbers (u ∷ ts) t = ap (λ (ns : List ℕ). u.number ∷ ns) (entered_numbers ts t)

-- ── replacement ──

-- a trade replaced by one of its number leaves the numbers
replaced_numbers : (ts : List Trade) (t : Trade) → map (λ t. t.number) (replaced ts t.number t) ≡ map (λ t. t.number) ts
unfolding replaced
replaced_numbers [] t = refl
replaced_numbers (u ∷ ts) t =
    let one : (cond (eqb u.number t.number) t u).number ≡ u.number =
    by_test (eqb u.number t.number) (λ e. rw e (sym (eqb-true u.number t.number e))) (λ e. rw e) in
    rw (one, replaced_numbers ts t)

-- valid or excluded, the new trade has the number of an old one: not 0
replaced_each : (k : Book) (ts : List Trade) (t : Trade) → valid_trade k t || zero_fields t ≡ true → all (listable k) ts ≡ true
    → all (listable k) (replaced ts t.number t) ≡ true
unfolding replaced
replaced_each k ts t v a =
    map_all_in (listable k) (listable k) (λ u. cond (eqb u.number t.number) t u) ts a
    (λ u h. by_test (eqb u.number t.number)
    (λ e. let same : t.number ≡ u.number = sym (eqb-true u.number t.number e) in
    let n : not (eqb t.number 0) ≡ true = rw same (both_hold (not (eqb u.number 0)) (valid_trade k u || zero_fields u) h).0 in
    rw e (and_hold n v))
    (λ e. rw e h))

-- ── the calls ──

module _ (k : Book) (ok : sound k ≡ true) (c : Shaped k) where
  replaced_sound : (t : Trade) → valid_trade k t || zero_fields t ≡ true → sound (with_list k (replaced (list_of k) t.number t)) ≡ true
  replaced_sound t v =
      let p = sound_parts k ok in
      with_list_lem k (replaced (list_of k) t.number t)
      record {
        few = replaced_room k c t.number t;
        apart = rw (replaced_numbers (list_of k) t) (was_apart k p.trades);
        each = replaced_each k (list_of k) t v (fit_each k p.trades);
      }
      p

  entered_each : (t : Trade) → MayEnter k t → all (listable k) (entered (list_of k) t) ≡ true
  unfolding entered all
  entered_each t m =
      all_both (listable k) (list_of k) (t ∷ []) (fit_each k (sound_parts k ok).trades) (and_hold (and_hold (ap not m.nonzero) (or_left (zero_fields t) m.valid)) refl)

  pub enter_kept : (t : Trade) → answer_sound k (enter t) ≡ 0 → sound (after k (enter t)) ≡ true
  unfolding after
  enter_kept t e =
      let p = sound_parts k ok in
      let m = may_enter k t e in
      with_list_lem k (entered (list_of k) t)
      record {
        few = entered_room k c t e;
        apart = rw (entered_numbers (list_of k) t) (distinct_more _ t.number (was_apart k p.trades) (unused_apart t.number (list_of k) m.unused));
        each = entered_each t m;
      }
      p

  pub amend_kept : (t : Trade) → answer_sound k (amend t) ≡ 0 → sound (after k (amend t)) ≡ true
  unfolding after amended
  amend_kept t e = replaced_sound t (or_left (zero_fields t) (may_amend k t e).valid)

  pub exclude_kept : (n : ℕ) → answer_sound k (exclude n) ≡ 0 → sound (after k (exclude n)) ≡ true
  unfolding after excluded zero_fields
  exclude_kept n e = replaced_sound (excluded_trade n) (or_right (valid_trade k (excluded_trade n)) refl)
