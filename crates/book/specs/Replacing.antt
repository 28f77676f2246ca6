-- Beside Changing: a book's bytes with one record, the count of records or one charge stored anew are those of the book with it. And for each
-- of these, and for a holding, the day, all charges set to zero and the list emptied, the bytes are read back as that book (`Holds`), so that
-- parts may be stored one after another.
use Rattle.std.specs.Prelude.{◌≡◌, ℕ, ◌+◌, ◌*◌, ◌<◌, ◌^◌, pos, length, set, replicate}
use Rattle.std.proofs.Math.Path.{sym, ap}
use Rattle.std.proofs.Common.{◌∙◌}
use mathlib.Core.List.{List, ◌++◌}
use native.Mathlib.Omega.{arith}
use Rattle.std.proofs.Math.Dec.{lit<}
use Rattle.fields.specs.Field.{Bytes, digits, stored}
use Rattle.fields.specs.FieldLaws.{length_digits, stored_behind, stored_front}
use Rattle.fields.specs.Codec.{number, write_rows, write_set, write_long, all_set, all_copies}
use Rattle.units.specs.Units.{mils, mils_of}
use Rattle.units.specs.declared.Mils.{Mils}
use Rattle.rules.specs.Bounds.{accounts, currencies, most_records}
use Rattle.rules.specs.Book.{no_trade, with_day, with_list, with_holdings, with_charges}
use Rattle.rules.specs.Layout.{Fits, position, amount, trade, book, book_length, book_of, bytes_of}
use Rattle.rules.specs.LayoutLaws.{bytes_book, book_bytes, book_fits}
use Rattle.rules.specs.Roll.{uncharged, emptied}
use Rattle.rules.specs.declared.Position.{Position}
use Rattle.rules.specs.declared.Book.{Book}
use Rattle.book.specs.Places.{day_place, records_place, positions_place, charges_place, entries_place}
use Rattle.book.specs.Changing.{stored_ahead, tables, day_changed, charges_cleared, list_cleared}
use Rattle.book.specs.Writing.{Tables, amount_long, position_long}

-- the book with another count of records, and another table of them
unfoldable pub with_rows : Book → ℕ → List Position → Book
with_rows k n ps =
    record {
      day = k.day;
      currency = k.currency;
      records = n;
      positions = ps;
      holdings = k.holdings;
      charges = k.charges;
      entries = k.entries;
      trades = k.trades;
    }

-- ── stores behind the day and the codes, and behind the count of records ──

module _ (k : Book) (room : Tables k) where
  abbrev p₁ : List ℕ
  p₁ = digits 2 k.day

  abbrev p₂ : List ℕ
  p₂ = write_rows (number 1) k.currency

  abbrev p₃ : List ℕ
  p₃ = digits 2 k.records

  abbrev p₄ : List ℕ
  p₄ = write_rows position k.positions

  abbrev p₅ : List ℕ
  p₅ = write_rows (number 8) k.holdings

  abbrev p₆ : List ℕ
  p₆ = write_rows amount k.charges

  abbrev q : List ℕ
  q = digits 2 k.entries ++ write_rows trade k.trades

  codes_end : (i at : ℕ) (l d : List ℕ) → at ≡ records_place + i → stored (p₁ ++ (p₂ ++ l)) at d ≡ p₁ ++ (p₂ ++ stored l i d)
  codes_end i at l d e =
      stored_behind p₁ (p₂ ++ l) d (32 + i) at (omega (arith, length_digits 2 k.day))
      ∙ ap (λ (t : List ℕ). p₁ ++ t)
      (stored_behind p₂ l d i (32 + i) (omega (arith, room.codes, write_long (number 1) (length_digits 1) k.currency)))

  count_end : (i at : ℕ) (l d : List ℕ) → at ≡ positions_place + i → stored (p₁ ++ (p₂ ++ (p₃ ++ l))) at d ≡ p₁ ++ (p₂ ++ (p₃ ++ stored l i d))
  count_end i at l d e =
      codes_end (2 + i) at (p₃ ++ l) d (omega arith)
      ∙ ap (λ (t : List ℕ). p₁ ++ (p₂ ++ t)) (stored_behind p₃ l d i (2 + i) (omega (arith, length_digits 2 k.records)))

  -- ── the three entries ──

  count_change : (n : ℕ) → stored (bytes_of k) records_place (digits 2 n) ≡ bytes_of (with_rows k n k.positions)
  unfolding bytes_of with_rows
  count_change n =
      codes_end 0 records_place (p₃ ++ (p₄ ++ (p₅ ++ (p₆ ++ q)))) (digits 2 n) (omega arith)
      ∙ ap (λ (t : List ℕ). p₁ ++ (p₂ ++ t))
      (stored_front p₃ (digits 2 n) (p₄ ++ (p₅ ++ (p₆ ++ q))) (length_digits 2 k.records ∙ sym (length_digits 2 n)))

  position_change : (i : ℕ) (p : Position) → i < most_records
      → stored (bytes_of k) (positions_place + i * 20) (position.write p) ≡ bytes_of (with_rows k k.records (set k.positions i p))
  unfolding bytes_of with_rows
  position_change i p h =
      let d = position.write p in
      count_end (i * 20) (positions_place + i * 20) (p₄ ++ (p₅ ++ (p₆ ++ q))) d (omega arith)
      ∙ ap (λ (t : List ℕ). p₁ ++ (p₂ ++ (p₃ ++ t)))
      (stored_ahead p₄ (p₅ ++ (p₆ ++ q)) d (i * 20) (omega (arith, room.positions, position_long p, write_long position position_long k.positions))
      ∙ ap (λ (t : List ℕ). t ++ (p₅ ++ (p₆ ++ q))) (write_set position position_long k.positions i p (omega (arith, room.positions))))

  charge_change : (i : ℕ) (m : Mils) → i < accounts * currencies
      → stored (bytes_of k) (charges_place + i * 8) (amount.write m) ≡ bytes_of (with_charges k (set k.charges i m))
  unfolding bytes_of with_charges
  charge_change i m h =
      let d = amount.write m in
      count_end (36_864 + i * 8) (charges_place + i * 8) (p₄ ++ (p₅ ++ (p₆ ++ q))) d (omega arith)
      ∙ ap (λ (t : List ℕ). p₁ ++ (p₂ ++ (p₃ ++ t)))
      (stored_behind p₄ (p₅ ++ (p₆ ++ q)) d (16_384 + i * 8) (36_864 + i * 8) (omega (arith, room.positions, write_long position position_long k.positions))
      ∙ ap (λ (t : List ℕ). p₄ ++ t)
      (stored_behind p₅ (p₆ ++ q) d (i * 8) (16_384 + i * 8) (omega (arith, room.holdings, write_long (number 8) (length_digits 8) k.holdings))
      ∙ ap (λ (t : List ℕ). p₅ ++ t)
      (stored_ahead p₆ q d (i * 8) (omega (arith, room.charges, amount_long m, write_long amount amount_long k.charges))
      ∙ ap (λ (t : List ℕ). t ++ q) (write_set amount amount_long k.charges i m (omega (arith, room.charges))))))

-- ── on the bytes of a book, and read back ──

-- the bytes of a book, and the book of these bytes
abbrev pub Holds : List ℕ → Book → Type 0
Holds bs k = (bs ≡ bytes_of k) × (book_of bs ≡ k)

reads_back : (bs : List ℕ) (k : Book) → book.Ok k → bs ≡ bytes_of k → book_of bs ≡ k
reads_back bs k h e = ap book_of e ∙ book_bytes k h

module _ (bs : List ℕ) (h : Bytes bs) (l : length bs ≡ book_length) where
  abbrev b : Book
  b = book_of bs

  ok : book.Ok b
  ok = book_fits bs h l

  -- a store at a place of the bytes is one at that place of the book's
  here : (at : ℕ) (d new : List ℕ) (k : Book) → new ≡ stored bs at d → stored (bytes_of b) at d ≡ bytes_of k → book.Ok k → Holds new k
  here at d new k e f fits =
      let g : new ≡ bytes_of k = e ∙ ap (λ (t : List ℕ). stored t at d) (sym (bytes_book bs h l)) ∙ f in
      (g, reads_back new k fits g)

  pub count_stored : (new : List ℕ) (n : ℕ) → n < 2 ^ 16 → new ≡ stored bs records_place (digits 2 n) → Holds new (with_rows b n b.positions)
  unfolding with_rows
  count_stored new n small e =
      here records_place (digits 2 n) new (with_rows b n b.positions) e (count_change b (tables bs) n)
      (ok.0, (ok.1.0, (omega arith, ok.1.1.1)))

  pub position_stored : (new : List ℕ) (i : ℕ) (p : Position) → i < most_records → position.Ok p → new ≡ stored bs (positions_place + i * 20) (position.write p)
      → Holds new (with_rows b b.records (set b.positions i p))
  unfolding with_rows
  position_stored new i p m fits e =
      here (positions_place + i * 20) (position.write p) new (with_rows b b.records (set b.positions i p)) e (position_change b (tables bs) i p m)
      (ok.0, (ok.1.0, (ok.1.1.0, (all_set position b.positions i p ok.1.1.1.0 fits, ok.1.1.1.1))))

  pub charge_stored : (new : List ℕ) (i : ℕ) (m : Mils) → i < accounts * currencies → Fits (mils_of m) → new ≡ stored bs (charges_place + i * 8) (amount.write m)
      → Holds new (with_charges b (set b.charges i m))
  unfolding with_charges
  charge_stored new i m w fits e =
      here (charges_place + i * 8) (amount.write m) new (with_charges b (set b.charges i m)) e (charge_change b (tables bs) i m w)
      (ok.0, (ok.1.0, (ok.1.1.0, (ok.1.1.1.0, (ok.1.1.1.1.0, (all_set amount b.charges i m ok.1.1.1.1.1.0 fits, ok.1.1.1.1.1.1))))))

  pub holding_back : (new : List ℕ) (i v : ℕ) → v < 2 ^ 64 → new ≡ bytes_of (with_holdings b (set b.holdings i v)) → Holds new (with_holdings b (set b.holdings i v))
  unfolding with_holdings
  holding_back new i v small e = (
    e,
    reads_back new (with_holdings b (set b.holdings i v))
        (ok.0, (ok.1.0, (ok.1.1.0, (ok.1.1.1.0, (all_set (number 8) b.holdings i v ok.1.1.1.1.0 small, ok.1.1.1.1.1))))) e,
  )

  pub day_stored : (new : List ℕ) (d : ℕ) → d < 2 ^ 16 → new ≡ stored bs day_place (digits 2 d) → Holds new (with_day b d)
  unfolding with_day
  day_stored new d small e =
      let f = e ∙ day_changed bs d h l in
      (f, reads_back new (with_day b d) (omega arith, ok.1) f)

  pub charges_stored : (new : List ℕ) → new ≡ stored bs charges_place (replicate 2_048 0) → Holds new (uncharged b)
  unfolding uncharged with_charges
  charges_stored new e =
      let f = e ∙ charges_cleared bs h l in
      let zero = all_copies amount 256 (mils (pos 0)) (lit< tt) in
      (f, reads_back new (uncharged b) (ok.0, (ok.1.0, (ok.1.1.0, (ok.1.1.1.0, (ok.1.1.1.1.0, (zero, ok.1.1.1.1.1.1)))))) f)

  pub list_stored : (new : List ℕ) → new ≡ stored bs entries_place (replicate 3_330 0) → Holds new (emptied b)
  unfolding emptied with_list
  list_stored new e =
      let f = e ∙ list_cleared bs h l in
      let none = all_copies trade 256 no_trade (lit< tt, (lit< tt, (lit< tt, (lit< tt, (lit< tt, lit< tt))))) in
      (f, reads_back new (emptied b) (ok.0, (ok.1.0, (ok.1.1.0, (ok.1.1.1.0, (ok.1.1.1.1.0, (ok.1.1.1.1.1.0, (omega arith, none))))))) f)
