-- The book in bytes (docs/BOOK.md): every field in this order, no padding; unsigned numbers big-endian, signed ones by two's complement.
-- The layout is a codec, made of codecs of its fields, so that every string of 42,278 bytes is one book and every book one string (LayoutLaws).
use Rattle.std.specs.Prelude.{refl, List, ℕ, ◌<◌, ◌^◌, ℤ}
use Rattle.std.specs.Int.Signed.{mag}
use Rattle.integers.specs.Bits.{bits_of, value_of, bits_below, value_bits, bits_value, value_fits}
use Rattle.fields.specs.Codec.{Codec, number, then, via, rows}
use Rattle.units.specs.Units.{mils_of, shares, mils}
use Rattle.units.specs.declared.Mils.{Mils}
use Rattle.rules.specs.Book.{quantity_of, money_of}
use Rattle.rules.specs.declared.Position.{Position}
use Rattle.rules.specs.declared.Trade.{Trade}
use Rattle.rules.specs.declared.Book.{Book}

-- ── signed numbers and amounts: 8 bytes ──

abbrev pub Fits : ℤ → Type 0
Fits z = mag z < 2 ^ 63

abbrev pub integer : Codec ℤ
integer = via (number 8) value_of bits_of Fits bits_below value_fits bits_value value_bits

abbrev pub amount : Codec Mils
amount = via integer mils mils_of (λ m. Fits (mils_of m)) (λ m h. h) (λ z h. h) (λ z h. refl) (λ m h. refl)

-- ── a position: number 4, quantity 8, money 8 ──

abbrev pub position : Codec Position
position =
    via (then (number 4) (then integer integer))
    (λ (r : ℕ × (ℤ × ℤ)). record { number = r.0; quantity = shares r.1.0; money = mils r.1.1 })
    (λ (p : Position). (p.number, (quantity_of p, money_of p)))
    (λ (p : Position). (p.number < 256 ^ 4) × (Fits (quantity_of p) × Fits (money_of p)))
    (λ p h. h)
    (λ r h. h)
    (λ r h. refl)
    (λ p h. refl)

-- ── a trade: number 2, buyer, seller, security 1 each, quantity 4, price 4 ──

abbrev pub TradeFields : Type 0
TradeFields = ℕ × (ℕ × (ℕ × (ℕ × (ℕ × ℕ))))

abbrev pub trade_fields : Codec TradeFields
trade_fields = then (number 2) (then (number 1) (then (number 1) (then (number 1) (then (number 4) (number 4)))))

abbrev pub fields_of_trade : Trade → TradeFields
fields_of_trade t = (t.number, (t.buyer, (t.seller, (t.security, (t.quantity, t.price.0)))))

abbrev pub trade : Codec Trade
trade =
    via trade_fields
    (λ (r : TradeFields).
    record {
      number = r.0;
      buyer = r.1.0;
      seller = r.1.1.0;
      security = r.1.1.1.0;
      quantity = r.1.1.1.1.0;
      price = record { 0 = r.1.1.1.1.1 };
    })
    fields_of_trade
    (λ (t : Trade). trade_fields.Ok (fields_of_trade t))
    (λ t h. h)
    (λ r h. h)
    (λ r h. refl)
    (λ t h. refl)

-- ── the book: day 2, 32 currency codes, count 2, 1,024 positions, 2,048 holdings of 8, 256 charges of 8, count 2, 256 trades ──

abbrev pub BookFields : Type 0
BookFields = ℕ × (List ℕ × (ℕ × (List Position × (List ℕ × (List Mils × (ℕ × List Trade))))))

abbrev pub book_fields : Codec BookFields
book_fields =
    then (number 2)
    (then (rows (number 1) 32)
    (then (number 2)
    (then (rows position 1_024)
    (then (rows (number 8) 2_048)
    (then (rows amount 256)
    (then (number 2)
    (rows trade 256)))))))

abbrev pub fields_of_book : Book → BookFields
fields_of_book k =
    (k.day, (k.currency, (k.records, (k.positions, (k.holdings, (k.charges, (k.entries, k.trades)))))))

abbrev pub book : Codec Book
book =
    via book_fields
    (λ (r : BookFields).
    record {
      day = r.0;
      currency = r.1.0;
      records = r.1.1.0;
      positions = r.1.1.1.0;
      holdings = r.1.1.1.1.0;
      charges = r.1.1.1.1.1.0;
      entries = r.1.1.1.1.1.1.0;
      trades = r.1.1.1.1.1.1.1;
    })
    fields_of_book
    (λ (k : Book). book_fields.Ok (fields_of_book k))
    (λ k h. h)
    (λ r h. h)
    (λ r h. refl)
    (λ k h. refl)

abbrev pub book_length : ℕ
book_length = 42_278

-- the book that some bytes are, and the bytes that a book is
unfoldable pub book_of : List ℕ → Book
book_of bs = book.read bs

unfoldable pub bytes_of : Book → List ℕ
bytes_of k = book.write k
