-- What the writers of the book leave: fields stored one behind the other are the row stored, and the parts so stored are the book's bytes.
use Rattle.std.specs.Prelude.{◌≡◌, List, ◌++◌, ℕ, ◌+◌, ◌*◌, length}
use Rattle.std.proofs.Common.{ap, ◌∙◌, arith, length-append}
use Rattle.integers.specs.Bits.{bits_of}
use Rattle.fields.specs.Field.{digits, stored}
use Rattle.fields.specs.FieldLaws.{length_digits, after, stored_all}
use Rattle.fields.specs.Codec.{Codec, number, write_rows, write_long}
use Rattle.units.specs.declared.Mils.{Mils}
use Rattle.units.specs.Units.{mils_of}
use Rattle.rules.specs.Book.{quantity_of, money_of}
use Rattle.rules.specs.Layout.{amount, position, trade, book_length, bytes_of}
use Rattle.rules.specs.declared.Position.{Position}
use Rattle.rules.specs.declared.Trade.{Trade}
use Rattle.rules.specs.declared.Book.{Book}
use Rattle.book.specs.Places.{day_place, codes_place, records_place, positions_place, holdings_place, charges_place, entries_place, trades_place}

-- ── how long a row is, whether its values fit or not ──

pub amount_long : (m : Mils) → length (amount.write m) ≡ 8
amount_long m = length_digits 8 (bits_of (mils_of m))

pub position_long : (p : Position) → length (position.write p) ≡ 20
position_long p = simp (length-append, length_digits)

pub trade_long : (t : Trade) → length (trade.write t) ≡ 13
trade_long t = simp (length-append, length_digits)

-- ── rows ──

-- a field stored, where the code knows its number by an equation
pub digits_written : (w at : ℕ) (l m : List ℕ) (x y : ℕ) → m ≡ stored l at (digits w x) → x ≡ y → m ≡ stored l at (digits w y)
digits_written w at l m x y e f = e ∙ ap (λ (z : ℕ). stored l at (digits w z)) f

pub position_written : (at : ℕ) (p : Position) (l₀ l₁ l₂ l₃ : List ℕ)
    → l₁ ≡ stored l₀ at (digits 4 p.number)
    → l₂ ≡ stored l₁ (at + 4) (digits 8 (bits_of (quantity_of p)))
    → l₃ ≡ stored l₂ (at + 12) (digits 8 (bits_of (money_of p)))
    → l₃ ≡ stored l₀ at (position.write p)
position_written at p l₀ l₁ l₂ l₃ n q m =
    after _ _ _ _ _ _ _ n
    (after _ _ _ _ _ _ _ q m (omega (arith, length_digits 8 (bits_of (quantity_of p)))))
    (omega (arith, length_digits 4 p.number))

pub trade_written : (at : ℕ) (t : Trade) (l₀ l₁ l₂ l₃ l₄ l₅ l₆ : List ℕ)
    → l₁ ≡ stored l₀ at (digits 2 t.number)
    → l₂ ≡ stored l₁ (at + 2) (digits 1 t.buyer)
    → l₃ ≡ stored l₂ (at + 3) (digits 1 t.seller)
    → l₄ ≡ stored l₃ (at + 4) (digits 1 t.security)
    → l₅ ≡ stored l₄ (at + 5) (digits 4 t.quantity)
    → l₆ ≡ stored l₅ (at + 9) (digits 4 t.price.0)
    → l₆ ≡ stored l₀ at (trade.write t)
trade_written at t l₀ l₁ l₂ l₃ l₄ l₅ l₆ n b s c q p =
    after _ _ _ _ _ _ _ n
    (after _ _ _ _ _ _ _ b
    (after _ _ _ _ _ _ _ s
    (after _ _ _ _ _ _ _ c
    (after _ _ _ _ _ _ _ q p
    (omega (arith, length_digits 4 t.quantity)))
    (omega (arith, length_digits 1 t.security)))
    (omega (arith, length_digits 1 t.seller)))
    (omega (arith, length_digits 1 t.buyer)))
    (omega (arith, length_digits 2 t.number))

-- ── the book ──

-- a book's tables have the room that the layout says
pub record Tables (k : Book) : Type 0 where
  pub codes : length k.currency ≡ 32
  pub positions : length k.positions ≡ 1_024
  pub holdings : length k.holdings ≡ 2_048
  pub charges : length k.charges ≡ 256
  pub trades : length k.trades ≡ 256

rows_sized : {A : Type 0} (x : Codec A) (sized : (a : A) → length (x.write a) ≡ x.width) (n : ℕ) (ls : List A) → length ls ≡ n
    → length (write_rows x ls) ≡ n * x.width
rows_sized x sized n ls e = write_long x sized ls ∙ ap (λ (k : ℕ). k * x.width) e

pub book_written : (k : Book) (l₀ l₁ l₂ l₃ l₄ l₅ l₆ l₇ l₈ : List ℕ) → Tables k → length l₀ ≡ book_length
    → l₁ ≡ stored l₀ day_place (digits 2 k.day)
    → l₂ ≡ stored l₁ codes_place (write_rows (number 1) k.currency)
    → l₃ ≡ stored l₂ records_place (digits 2 k.records)
    → l₄ ≡ stored l₃ positions_place (write_rows position k.positions)
    → l₅ ≡ stored l₄ holdings_place (write_rows (number 8) k.holdings)
    → l₆ ≡ stored l₅ charges_place (write_rows amount k.charges)
    → l₇ ≡ stored l₆ entries_place (digits 2 k.entries)
    → l₈ ≡ stored l₇ trades_place (write_rows trade k.trades)
    → l₈ ≡ bytes_of k
unfolding bytes_of
book_written k l₀ l₁ l₂ l₃ l₄ l₅ l₆ l₇ l₈ room size d c r p h m e t =
    let p₁ = digits 2 k.day in
    let p₂ = write_rows (number 1) k.currency in
    let p₃ = digits 2 k.records in
    let p₄ = write_rows position k.positions in
    let p₅ = write_rows (number 8) k.holdings in
    let p₆ = write_rows amount k.charges in
    let p₇ = digits 2 k.entries in
    let p₈ = write_rows trade k.trades in
    let n₁ : length p₁ ≡ 2 = length_digits 2 k.day in
    let n₂ : length p₂ ≡ 32 = rows_sized (number 1) (length_digits 1) 32 k.currency room.codes in
    let n₃ : length p₃ ≡ 2 = length_digits 2 k.records in
    let n₄ : length p₄ ≡ 20_480 = rows_sized position position_long 1_024 k.positions room.positions in
    let n₅ : length p₅ ≡ 16_384 = rows_sized (number 8) (length_digits 8) 2_048 k.holdings room.holdings in
    let n₆ : length p₆ ≡ 2_048 = rows_sized amount amount_long 256 k.charges room.charges in
    let n₇ : length p₇ ≡ 2 = length_digits 2 k.entries in
    let n₈ : length p₈ ≡ 3_328 = rows_sized trade trade_long 256 k.trades room.trades in
    let s₇ = after l₆ l₇ l₈ entries_place trades_place p₇ p₈ e t (omega arith) in
    let s₆ = after l₅ l₆ l₈ charges_place entries_place p₆ (p₇ ++ p₈) m s₇ (omega arith) in
    let s₅ = after l₄ l₅ l₈ holdings_place charges_place p₅ (p₆ ++ (p₇ ++ p₈)) h s₆ (omega arith) in
    let s₄ = after l₃ l₄ l₈ positions_place holdings_place p₄ (p₅ ++ (p₆ ++ (p₇ ++ p₈))) p s₅ (omega arith) in
    let s₃ = after l₂ l₃ l₈ records_place positions_place p₃ (p₄ ++ (p₅ ++ (p₆ ++ (p₇ ++ p₈)))) r s₄ (omega arith) in
    let s₂ = after l₁ l₂ l₈ codes_place records_place p₂ (p₃ ++ (p₄ ++ (p₅ ++ (p₆ ++ (p₇ ++ p₈))))) c s₃ (omega arith) in
    let s₁ = after l₀ l₁ l₈ day_place codes_place p₁ (p₂ ++ (p₃ ++ (p₄ ++ (p₅ ++ (p₆ ++ (p₇ ++ p₈)))))) d s₂ (omega arith) in
    let long : length (bytes_of k) ≡ length l₀ =
    omega (
      arith,
      length-append p₁ (p₂ ++ (p₃ ++ (p₄ ++ (p₅ ++ (p₆ ++ (p₇ ++ p₈)))))),
      length-append p₂ (p₃ ++ (p₄ ++ (p₅ ++ (p₆ ++ (p₇ ++ p₈))))),
      length-append p₃ (p₄ ++ (p₅ ++ (p₆ ++ (p₇ ++ p₈)))),
      length-append p₄ (p₅ ++ (p₆ ++ (p₇ ++ p₈))),
      length-append p₅ (p₆ ++ (p₇ ++ p₈)),
      length-append p₆ (p₇ ++ p₈),
      length-append p₇ p₈,
    ) in
    s₁ ∙ stored_all l₀ (bytes_of k) long
