-- The parts of a book where they stand in its bytes: the length of each table, and each entry read at its place.
use Rattle.std.specs.Prelude.{◌≡◌, refl, List, ℕ, ◌+◌, ◌*◌, ◌<◌, pos, length, get_or, drop}
use Rattle.std.proofs.Common.{sym, ap, ◌∙◌, drop-drop}
use Rattle.fields.specs.Field.{field}
use Rattle.fields.specs.Codec.{Codec, number, read_rows, read_at, read_long}
use Rattle.units.specs.Units.{mils}
use Rattle.units.specs.declared.Mils.{Mils}
use Rattle.rules.specs.Bounds.{accounts, securities, currencies, most_records, most_trades}
use Rattle.rules.specs.Book.{no_position, no_trade}
use Rattle.rules.specs.Layout.{amount, position, trade, book_of}
use Rattle.rules.specs.declared.Position.{Position}
use Rattle.rules.specs.declared.Trade.{Trade}
use Rattle.book.specs.Places.{day_place, codes_place, records_place, positions_place, holdings_place, charges_place, entries_place, trades_place}
use Rattle.book.specs.Reading.{number_read, front, after_codes, after_records, after_positions, after_holdings, after_charges, after_entries}

-- ── how long each table is, whatever the bytes ──

pub codes_long : (l : List ℕ) → length (book_of l).currency ≡ securities
unfolding book_of
codes_long l = read_long (number 1) 32 _

pub positions_long : (l : List ℕ) → length (book_of l).positions ≡ most_records
unfolding book_of
positions_long l = read_long position 1_024 _

pub holdings_long : (l : List ℕ) → length (book_of l).holdings ≡ accounts * securities
unfolding book_of
holdings_long l = read_long (number 8) 2_048 _

pub charges_long : (l : List ℕ) → length (book_of l).charges ≡ accounts * currencies
unfolding book_of
charges_long l = read_long amount 256 _

pub trades_long : (l : List ℕ) → length (book_of l).trades ≡ most_trades
unfolding book_of
trades_long l = read_long trade 256 _

-- ── numbers ──

pub day_view : (l : List ℕ) (x : ℕ) → x ≡ field 2 day_place l → x ≡ (book_of l).day
unfolding book_of
day_view l x e = e

pub records_view : (l : List ℕ) (x : ℕ) → x ≡ field 2 records_place l → x ≡ (book_of l).records
unfolding book_of
records_view l x e = front 2 records_place l _ x (after_codes l) e

pub entries_view : (l : List ℕ) (x : ℕ) → x ≡ field 2 entries_place l → x ≡ (book_of l).entries
unfolding book_of
entries_view l x e = front 2 entries_place l _ x (after_charges l) e

-- ── entries of a table ──

pub codes_view : (l : List ℕ) (t : List ℕ) → t ≡ read_rows (number 1) 32 (drop codes_place l) → t ≡ (book_of l).currency
unfolding book_of
codes_view l t e = e

pub positions_view : (l : List ℕ) (t : List Position) → t ≡ read_rows position 1_024 (drop positions_place l) → t ≡ (book_of l).positions
unfolding book_of
positions_view l t e = e ∙ ap (read_rows position 1_024) (sym (after_records l))

pub trades_view : (l : List ℕ) (t : List Trade) → t ≡ read_rows trade 256 (drop trades_place l) → t ≡ (book_of l).trades
unfolding book_of
trades_view l t e = e ∙ ap (read_rows trade 256) (sym (after_entries l))

-- row i of a table that begins at a place
row_view : {A : Type 0} (x : Codec A) (n i at : ℕ) (l m : List ℕ) (d v : A) → m ≡ drop at l → i < n
    → v ≡ x.read (drop (at + i * x.width) l) → v ≡ get_or (read_rows x n m) i d
row_view x n i at l m d v h k e =
    e ∙ ap x.read (sym (drop-drop (i * x.width) at l) ∙ ap (drop (i * x.width)) (sym h)) ∙ sym (read_at x n i m d k)

pub code_view : (l : List ℕ) (s v : ℕ) → s < securities → v ≡ field 1 (codes_place + s * 1) l → v ≡ get_or (book_of l).currency s 0
unfolding book_of
code_view l s v h e = row_view (number 1) 32 s codes_place l _ 0 v refl h (number_read 1 _ l v e)

pub position_view : (l : List ℕ) (i : ℕ) (p : Position) → i < most_records → p ≡ position.read (drop (positions_place + i * 20) l)
    → p ≡ get_or (book_of l).positions i no_position
unfolding book_of
position_view l i p h e = row_view position 1_024 i positions_place l _ no_position p (after_records l) h e

pub holding_view : (l : List ℕ) (i v : ℕ) → i < accounts * securities → v ≡ field 8 (holdings_place + i * 8) l → v ≡ get_or (book_of l).holdings i 0
unfolding book_of
holding_view l i v h e = row_view (number 8) 2_048 i holdings_place l _ 0 v (after_positions l) h (number_read 8 _ l v e)

pub charge_view : (l : List ℕ) (i : ℕ) (m : Mils) → i < accounts * currencies → m ≡ amount.read (drop (charges_place + i * 8) l)
    → m ≡ get_or (book_of l).charges i (mils (pos 0))
unfolding book_of
charge_view l i m h e = row_view amount 256 i charges_place l _ (mils (pos 0)) m (after_holdings l) h e

pub trade_view : (l : List ℕ) (i : ℕ) (t : Trade) → i < most_trades → t ≡ trade.read (drop (trades_place + i * 13) l)
    → t ≡ get_or (book_of l).trades i no_trade
unfolding book_of
trade_view l i t h e = row_view trade 256 i trades_place l _ no_trade t (after_entries l) h e
