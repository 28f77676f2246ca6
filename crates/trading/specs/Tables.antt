-- The table of the list: behind the list its rows are zero, so a row set or replaced leaves the list and zeros behind it.
use Rattle.std.specs.Prelude.{◌≡◌, refl, true, ℕ, zero, suc, ◌+◌, ◌-◌, ◌<◌, eqb, get_or, set}
use Rattle.std.proofs.Math.Path.{ap}
use Rattle.std.proofs.Common.{◌∙◌, le_of_suc-le-suc, add-one, arith}
use Rattle.std.proofs.Math.Bool.{cond}
use mathlib.Core.List.{List, [], ◌∷◌, ◌++◌, map}
use Rattle.std.proofs.Math.ListN.{length, take, drop, replicate, length-append, length-map, length-drop}
use Rattle.std.proofs.Math.Seq.{length-take-le}
use Rattle.rules.specs.Bounds.{most_trades}
use Rattle.rules.specs.Book.{no_trade, list_of, with_list}
use Rattle.rules.specs.Sound.{trades_fit}
use Rattle.rules.specs.Trades.{entered, replaced}
use Rattle.rules.specs.declared.Trade.{Trade}
use Rattle.rules.specs.declared.Book.{Book}
use Rattle.rules.specs.Calls.{enter, after}
use Rattle.book.specs.Changing.{with_table}
use Rattle.laws.specs.Blanks.{behind_list, entries_few}

-- ── one more row ──

module _ {A : Type 0} where
  set_behind : (d t : A) (l : List A) (n m : ℕ) → length l ≡ suc (n + m) → drop n l ≡ replicate (length (drop n l)) d
      → set l n t ≡ (take n l ++ (t ∷ [])) ++ replicate m d
  set_behind d t [] n m h e = absurd (omega arith)
  set_behind d t (x ∷ l) zero m h e =
      let w : length l ≡ m = omega arith in
      ap (λ (r : List A). t ∷ r) (ap (drop 1) e ∙ ap (λ (j : ℕ). replicate j d) w)
  set_behind d t (x ∷ l) (suc n) m h e = ap (λ (r : List A). x ∷ r) (set_behind d t l n m (omega arith) e)

  -- ── rows replaced one after the other ──

  one_more : (f : A → A) (l : List A) (i : ℕ) (d : A) → i < length l
      → set (map f (take i l) ++ drop i l) i (f (get_or l i d)) ≡ map f (take (suc i) l) ++ drop (suc i) l
  one_more f [] i d h = absurd (omega arith)
  one_more f (x ∷ l) zero d h = refl
  one_more f (x ∷ l) (suc i) d h = ap (λ (m : List A). f x ∷ m) (one_more f l i d (le_of_suc-le-suc h))

  pub renewed_more : (f : A → A) (l rows : List A) (i : ℕ) (d : A) (v : A) → i < length l → rows ≡ map f (take i l) ++ drop i l
      → v ≡ f (get_or l i d) → set rows i v ≡ map f (take (i + 1) l) ++ drop (i + 1) l
  renewed_more f l rows i d v h e q = rw (e, q, add-one i) (one_more f l i d h)

-- ── the book ──

-- a count and rows that are a list and zeros behind it
list_is : (k : Book) (ts : List Trade) (n : ℕ) (rows : List Trade) → n ≡ length ts → rows ≡ ts ++ replicate (most_trades - n) no_trade
    → ◌≡◌ {A = Book} (record {
      day = k.day;
      currency = k.currency;
      records = k.records;
      positions = k.positions;
      holdings = k.holdings;
      charges = k.charges;
      entries = n;
      trades = rows;
    }) (with_list k ts)
unfolding with_list
list_is k ts n rows e f = rw (f, e)

module _ (k : Book) (long : length k.trades ≡ most_trades) (fit : trades_fit k ≡ true) where
  entered_is : (t : Trade) → k.entries < most_trades
      → ◌≡◌ {A = Book} (record {
        day = k.day;
        currency = k.currency;
        records = k.records;
        positions = k.positions;
        holdings = k.holdings;
        charges = k.charges;
        entries = k.entries + 1;
        trades = set k.trades k.entries t;
      }) (with_list k (entered (list_of k) t))
  unfolding entered list_of
  entered_is t h =
      list_is k (take k.entries k.trades ++ (t ∷ [])) (k.entries + 1) (set k.trades k.entries t)
      (omega (arith, length-append (take k.entries k.trades) (t ∷ []), length-take-le k.entries k.trades (omega arith)))
      (set_behind no_trade t k.trades k.entries (most_trades - (k.entries + 1)) (omega arith) (behind_list k fit))

  replaced_is : (n : ℕ) (t : Trade) (i : ℕ) (rows : List Trade) → i ≡ k.entries
      → rows ≡ map (λ u. cond (eqb u.number n) t u) (take i k.trades) ++ drop i k.trades
      → ◌≡◌ {A = Book} (record {
        day = k.day;
        currency = k.currency;
        records = k.records;
        positions = k.positions;
        holdings = k.holdings;
        charges = k.charges;
        entries = k.entries;
        trades = rows;
      }) (with_list k (replaced (list_of k) n t))
  unfolding replaced list_of
  replaced_is n t i rows e f =
      let l : List Trade = take k.entries k.trades in
      let g : Trade → Trade = λ u. cond (eqb u.number n) t u in
      let w : length (drop k.entries k.trades) ≡ most_trades - k.entries = omega (arith, length-drop k.entries k.trades) in
      list_is k (map g l) k.entries rows
      (omega (arith, length-map l g, length-take-le k.entries k.trades (omega (arith, entries_few k fit))))
      (rw (e) at f ∙ ap (λ (r : List Trade). map g l ++ r) (behind_list k fit ∙ ap (λ (j : ℕ). replicate j no_trade) w))

-- ── as the code has it: the count and the rows that were read, and what was written ──

module _ (k : Book) (long : length k.trades ≡ most_trades) (fit : trades_fit k ≡ true) (n : ℕ) (is : n ≡ k.entries) (rows : List Trade) (are : rows ≡ k.trades) where
  pub entered_table : (t : Trade) → k.entries < most_trades → with_table k (n + 1) (set rows n t) ≡ after k (enter t)
  unfolding with_table after
  entered_table t h = rw (is, are) (entered_is k long fit t h)

  pub replaced_table : (m : ℕ) (t : Trade) (next : List Trade) → next ≡ map (λ u. cond (eqb u.number m) t u) (take n rows) ++ drop n rows
      → with_table k n next ≡ with_list k (replaced (list_of k) m t)
  unfolding with_table
  replaced_table m t next e =
      let f : next ≡ map (λ u. cond (eqb u.number m) t u) (take n k.trades) ++ drop n k.trades
      = e ∙ ap (λ (l : List Trade). map (λ u. cond (eqb u.number m) t u) (take n l) ++ drop n l) are in
      rw is (replaced_is k long fit m t n next is f)
