-- A book's bytes with one entry stored anew are those of the book with that entry; and so with the list and its count, the day, all charges
-- set to zero, and the list emptied.
use Rattle.std.specs.Prelude.{◌≡◌, refl, List, [], ◌∷◌, ◌++◌, ℕ, zero, suc, ◌+◌, ◌*◌, ◌<◌, ◌≤◌, pos, length, set, replicate}
use Rattle.std.proofs.Common.{sym, ap, ap₂, ◌∙◌, arith, length-set, length-append}
use Rattle.std.proofs.lemmas.List.{length-replicate, set-append_left}
use Rattle.std.proofs.lemmas.List.Edits.{sets}
use Rattle.integers.specs.Bits.{bits_of}
use Rattle.fields.specs.Field.{Bytes, digits, stored}
use Rattle.fields.specs.FieldLaws.{length_digits, after, stored_behind, stored_front, stored_all}
use Rattle.fields.specs.Codec.{number, write_rows, write_set, write_long}
use Rattle.units.specs.Units.{mils}
use Rattle.units.specs.declared.Mils.{Mils}
use Rattle.rules.specs.Bounds.{accounts, securities}
use Rattle.rules.specs.Book.{no_trade, with_list, with_holdings, with_charges, with_day}
use Rattle.rules.specs.Layout.{position, amount, trade, book_length, book_of, bytes_of}
use Rattle.rules.specs.LayoutLaws.{bytes_book}
use Rattle.rules.specs.Roll.{uncharged, emptied}
use Rattle.rules.specs.declared.Trade.{Trade}
use Rattle.rules.specs.declared.Book.{Book}
use Rattle.book.specs.Places.{day_place, holdings_place, charges_place, entries_place, trades_place}
use Rattle.book.specs.Views.{codes_long, positions_long, holdings_long, charges_long, trades_long}
use Rattle.book.specs.Writing.{Tables, amount_long, position_long, trade_long}

-- a run of stores ahead of a part that stays
sets_ahead : (vs p q : List ℕ) (i : ℕ) → i + length vs ≤ length p → sets (p ++ q) i vs ≡ sets p i vs ++ q
sets_ahead [] p q i h = refl
sets_ahead (v ∷ vs) p q i h =
    ap (λ (l : List ℕ). sets l (suc i) vs) (set-append_left p q i v (omega arith))
    ∙ sets_ahead vs (set p i v) q (suc i) (omega (arith, length-set p i v))

pub stored_ahead : (p q vs : List ℕ) (i : ℕ) → i + length vs ≤ length p → stored (p ++ q) i vs ≡ stored p i vs ++ q
unfolding stored
stored_ahead p q vs i h = sets_ahead vs p q i h

-- the tables of a book that was read
pub tables : (bs : List ℕ) → Tables (book_of bs)
tables bs =
    record { codes = codes_long bs; positions = positions_long bs; holdings = holdings_long bs; charges = charges_long bs; trades = trades_long bs }

-- ── a holding ──

change : (k : Book) (i v : ℕ) → length k.currency ≡ 32 → length k.positions ≡ 1_024 → length k.holdings ≡ 2_048 → i < 2_048
    → stored (bytes_of k) (holdings_place + i * 8) (digits 8 v) ≡ bytes_of (with_holdings k (set k.holdings i v))
unfolding bytes_of with_holdings
change k i v c r n h =
    let p₁ = digits 2 k.day in
    let p₂ = write_rows (number 1) k.currency in
    let p₃ = digits 2 k.records in
    let p₄ = write_rows position k.positions in
    let p₅ = write_rows (number 8) k.holdings in
    let q = write_rows amount k.charges ++ (digits 2 k.entries ++ write_rows trade k.trades) in
    let d = digits 8 v in
    let n₁ : length p₁ ≡ 2 = length_digits 2 k.day in
    let n₂ : length p₂ ≡ 32 = omega (arith, write_long (number 1) (length_digits 1) k.currency) in
    let n₃ : length p₃ ≡ 2 = length_digits 2 k.records in
    let n₄ : length p₄ ≡ 20_480 = omega (arith, write_long position position_long k.positions) in
    let n₅ : length p₅ ≡ 16_384 = omega (arith, write_long (number 8) (length_digits 8) k.holdings) in
    let n₆ : length d ≡ 8 = length_digits 8 v in
    stored_behind p₁ (p₂ ++ (p₃ ++ (p₄ ++ (p₅ ++ q)))) d (20_514 + i * 8) (holdings_place + i * 8) (omega arith)
    ∙ ap (λ (t : List ℕ). p₁ ++ t) (stored_behind p₂ (p₃ ++ (p₄ ++ (p₅ ++ q))) d (20_482 + i * 8) (20_514 + i * 8) (omega arith)
    ∙ ap (λ (t : List ℕ). p₂ ++ t) (stored_behind p₃ (p₄ ++ (p₅ ++ q)) d (20_480 + i * 8) (20_482 + i * 8) (omega arith)
    ∙ ap (λ (t : List ℕ). p₃ ++ t) (stored_behind p₄ (p₅ ++ q) d (i * 8) (20_480 + i * 8) (omega arith)
    ∙ ap (λ (t : List ℕ). p₄ ++ t) (stored_ahead p₅ q d (i * 8) (omega arith)
    ∙ ap (λ (t : List ℕ). t ++ q) (write_set (number 8) (length_digits 8) k.holdings i v (omega arith))))))

pub holding_changed : (bs : List ℕ) (i v : ℕ) → Bytes bs → length bs ≡ book_length → i < accounts * securities
    → stored bs (holdings_place + i * 8) (digits 8 v) ≡ bytes_of (with_holdings (book_of bs) (set (book_of bs).holdings i v))
holding_changed bs i v h l m =
    ap (λ (b : List ℕ). stored b (holdings_place + i * 8) (digits 8 v)) (sym (bytes_book bs h l))
    ∙ change (book_of bs) i v (codes_long bs) (positions_long bs) (holdings_long bs) m

-- ── the list ──

-- the book with another count of trades, and another table of them
unfoldable pub with_table : Book → ℕ → List Trade → Book
with_table k n ts =
    record {
      day = k.day;
      currency = k.currency;
      records = k.records;
      positions = k.positions;
      holdings = k.holdings;
      charges = k.charges;
      entries = n;
      trades = ts;
    }

table_change : (k : Book) (n : ℕ) (ts : List Trade) → Tables k → length ts ≡ 256
    → stored (bytes_of k) entries_place (digits 2 n ++ write_rows trade ts) ≡ bytes_of (with_table k n ts)
unfolding bytes_of with_table
table_change k n ts room long =
    let p₁ = digits 2 k.day in
    let p₂ = write_rows (number 1) k.currency in
    let p₃ = digits 2 k.records in
    let p₄ = write_rows position k.positions in
    let p₅ = write_rows (number 8) k.holdings in
    let p₆ = write_rows amount k.charges in
    let q = digits 2 k.entries ++ write_rows trade k.trades in
    let d = digits 2 n ++ write_rows trade ts in
    let n₁ : length p₁ ≡ 2 = length_digits 2 k.day in
    let n₂ : length p₂ ≡ 32 = omega (arith, room.codes, write_long (number 1) (length_digits 1) k.currency) in
    let n₃ : length p₃ ≡ 2 = length_digits 2 k.records in
    let n₄ : length p₄ ≡ 20_480 = omega (arith, room.positions, write_long position position_long k.positions) in
    let n₅ : length p₅ ≡ 16_384 = omega (arith, room.holdings, write_long (number 8) (length_digits 8) k.holdings) in
    let n₆ : length p₆ ≡ 2_048 = omega (arith, room.charges, write_long amount amount_long k.charges) in
    let same : length d ≡ length q =
    omega (
      arith,
      long,
      room.trades,
      length-append (digits 2 n) (write_rows trade ts),
      length-append (digits 2 k.entries) (write_rows trade k.trades),
      length_digits 2 n,
      length_digits 2 k.entries,
      write_long trade trade_long ts,
      write_long trade trade_long k.trades,
    ) in
    stored_behind p₁ (p₂ ++ (p₃ ++ (p₄ ++ (p₅ ++ (p₆ ++ q))))) d 38_946 entries_place (omega arith)
    ∙ ap (λ (t : List ℕ). p₁ ++ t) (stored_behind p₂ (p₃ ++ (p₄ ++ (p₅ ++ (p₆ ++ q)))) d 38_914 38_946 (omega arith)
    ∙ ap (λ (t : List ℕ). p₂ ++ t) (stored_behind p₃ (p₄ ++ (p₅ ++ (p₆ ++ q))) d 38_912 38_914 (omega arith)
    ∙ ap (λ (t : List ℕ). p₃ ++ t) (stored_behind p₄ (p₅ ++ (p₆ ++ q)) d 18_432 38_912 (omega arith)
    ∙ ap (λ (t : List ℕ). p₄ ++ t) (stored_behind p₅ (p₆ ++ q) d 2_048 18_432 (omega arith)
    ∙ ap (λ (t : List ℕ). p₅ ++ t) (stored_behind p₆ q d 0 2_048 (omega arith)
    ∙ ap (λ (t : List ℕ). p₆ ++ t) (stored_all q d same))))))

pub list_changed : (bs l₁ l₂ : List ℕ) (n : ℕ) (ts : List Trade) → Bytes bs → length bs ≡ book_length → length ts ≡ 256
    → l₁ ≡ stored bs entries_place (digits 2 n) → l₂ ≡ stored l₁ trades_place (write_rows trade ts) → l₂ ≡ bytes_of (with_table (book_of bs) n ts)
list_changed bs l₁ l₂ n ts h l long e f =
    after bs l₁ l₂ entries_place trades_place (digits 2 n) (write_rows trade ts) e f (omega (arith, length_digits 2 n))
    ∙ ap (λ (b : List ℕ). stored b entries_place (digits 2 n ++ write_rows trade ts)) (sym (bytes_book bs h l))
    ∙ table_change (book_of bs) n ts (tables bs) long

-- a row of zeros is bytes of 0
zero_trades : (n : ℕ) → write_rows trade (replicate n no_trade) ≡ replicate (n * 13) 0
unfolding write_rows digits
zero_trades zero = refl
zero_trades (suc n) =
    let e : suc n * 13 ≡ suc (suc (suc (suc (suc (suc (suc (suc (suc (suc (suc (suc (suc (n * 13))))))))))))) = omega arith in
    rw (zero_trades n, e) refl

pub list_cleared : (bs : List ℕ) → Bytes bs → length bs ≡ book_length → stored bs entries_place (replicate 3_330 0) ≡ bytes_of (emptied (book_of bs))
unfolding emptied with_list with_table digits
list_cleared bs h l =
    let none = replicate 256 no_trade in
    ap₂ (λ (b d : List ℕ). stored b entries_place (0 ∷ 0 ∷ d)) (sym (bytes_book bs h l)) (sym (zero_trades 256))
    ∙ table_change (book_of bs) 0 none (tables bs) (length-replicate 256 no_trade)

-- ── the day ──

pub day_changed : (bs : List ℕ) (d : ℕ) → Bytes bs → length bs ≡ book_length → stored bs day_place (digits 2 d) ≡ bytes_of (with_day (book_of bs) d)
unfolding bytes_of with_day
day_changed bs d h l =
    ap (λ (b : List ℕ). stored b day_place (digits 2 d)) (sym (bytes_book bs h l))
    ∙ stored_front (digits 2 (book_of bs).day) (digits 2 d) _ (length_digits 2 (book_of bs).day ∙ sym (length_digits 2 d))

-- ── the charges ──

charges_change : (k : Book) (cs : List Mils) → Tables k → length cs ≡ 256
    → stored (bytes_of k) charges_place (write_rows amount cs) ≡ bytes_of (with_charges k cs)
unfolding bytes_of with_charges
charges_change k cs room long =
    let p₁ = digits 2 k.day in
    let p₂ = write_rows (number 1) k.currency in
    let p₃ = digits 2 k.records in
    let p₄ = write_rows position k.positions in
    let p₅ = write_rows (number 8) k.holdings in
    let p₆ = write_rows amount k.charges in
    let q = digits 2 k.entries ++ write_rows trade k.trades in
    let d = write_rows amount cs in
    let n₁ : length p₁ ≡ 2 = length_digits 2 k.day in
    let n₂ : length p₂ ≡ 32 = omega (arith, room.codes, write_long (number 1) (length_digits 1) k.currency) in
    let n₃ : length p₃ ≡ 2 = length_digits 2 k.records in
    let n₄ : length p₄ ≡ 20_480 = omega (arith, room.positions, write_long position position_long k.positions) in
    let n₅ : length p₅ ≡ 16_384 = omega (arith, room.holdings, write_long (number 8) (length_digits 8) k.holdings) in
    let same : length p₆ ≡ length d = omega (arith, long, room.charges, write_long amount amount_long k.charges, write_long amount amount_long cs) in
    stored_behind p₁ (p₂ ++ (p₃ ++ (p₄ ++ (p₅ ++ (p₆ ++ q))))) d 36_898 charges_place (omega arith)
    ∙ ap (λ (t : List ℕ). p₁ ++ t) (stored_behind p₂ (p₃ ++ (p₄ ++ (p₅ ++ (p₆ ++ q)))) d 36_866 36_898 (omega arith)
    ∙ ap (λ (t : List ℕ). p₂ ++ t) (stored_behind p₃ (p₄ ++ (p₅ ++ (p₆ ++ q))) d 36_864 36_866 (omega arith)
    ∙ ap (λ (t : List ℕ). p₃ ++ t) (stored_behind p₄ (p₅ ++ (p₆ ++ q)) d 16_384 36_864 (omega arith)
    ∙ ap (λ (t : List ℕ). p₄ ++ t) (stored_behind p₅ (p₆ ++ q) d 0 16_384 (omega arith)
    ∙ ap (λ (t : List ℕ). p₅ ++ t) (stored_front p₆ d q same)))))

-- amounts of 0 are bytes of 0
zero_amounts : (n : ℕ) → write_rows amount (replicate n (mils (pos 0))) ≡ replicate (n * 8) 0
unfolding write_rows digits bits_of
zero_amounts zero = refl
zero_amounts (suc n) =
    let e : suc n * 8 ≡ suc (suc (suc (suc (suc (suc (suc (suc (n * 8)))))))) = omega arith in
    rw (zero_amounts n, e) refl

pub charges_cleared : (bs : List ℕ) → Bytes bs → length bs ≡ book_length → stored bs charges_place (replicate 2_048 0) ≡ bytes_of (uncharged (book_of bs))
unfolding uncharged
charges_cleared bs h l =
    let none = replicate 256 (mils (pos 0)) in
    ap₂ (λ (b d : List ℕ). stored b charges_place d) (sym (bytes_book bs h l)) (sym (zero_amounts 256))
    ∙ charges_change (book_of bs) none (tables bs) (length-replicate 256 (mils (pos 0)))
