-- The bytes of a book are bytes: every entry is below 256, whatever the book. It goes codec by codec, as the layout does.
use Rattle.std.specs.Prelude.{List, [], ◌∷◌, ◌++◌, ℕ, zero, suc, ◌/◌, ◌%◌, ◌<◌, get_or}
use Rattle.std.proofs.Common.{arith, lit<}
use Rattle.integers.specs.Bits.{bits_of}
use Rattle.units.specs.Units.{mils_of}
use Rattle.fields.specs.Field.{digits, Bytes}
use Rattle.fields.specs.Codec.{Codec, number, write_rows}
use Rattle.rules.specs.Book.{quantity_of, money_of}
use Rattle.rules.specs.Layout.{integer, amount, position, trade, bytes_of}
use Rattle.rules.specs.declared.Book.{Book}

-- ── lists of bytes ──

none_bytes : Bytes []
none_bytes = record { byte = λ i. lit< tt }

one_byte : (x : ℕ) → x < 256 → Bytes (x ∷ [])
one_byte x h = record { byte = at }
  where
    at : (i : ℕ) → get_or (x ∷ []) i 0 < 256
    at zero = h
    at (suc i) = lit< tt

both_bytes : (l m : List ℕ) → Bytes l → Bytes m → Bytes (l ++ m)
both_bytes l m p q = record { byte = at l p.byte }
  where
    at : (l : List ℕ) → ((i : ℕ) → get_or l i 0 < 256) → (i : ℕ) → get_or (l ++ m) i 0 < 256
    at [] h i = q.byte i
    at (x ∷ l) h zero = h zero
    at (x ∷ l) h (suc i) = at l (λ j. h (suc j)) i

digits_bytes : (w x : ℕ) → Bytes (digits w x)
unfolding digits
digits_bytes zero x = none_bytes
digits_bytes (suc w) x = both_bytes (digits w (x / 256)) (x % 256 ∷ []) (digits_bytes w (x / 256)) (one_byte (x % 256) (omega arith))

-- ── rows of a codec that writes bytes ──

abbrev Clean : {A : Type 0} → Codec A → Type 0
Clean {A} x = (a : A) → Bytes (x.write a)

rows_bytes : {A : Type 0} (x : Codec A) → Clean x → (ls : List A) → Bytes (write_rows x ls)
unfolding write_rows
rows_bytes x p [] = none_bytes
rows_bytes x p (a ∷ ls) = both_bytes (x.write a) (write_rows x ls) (p a) (rows_bytes x p ls)

-- ── the fields of a book, in their order ──

integer_bytes : Clean integer
integer_bytes z = digits_bytes 8 (bits_of z)

position_bytes : Clean position
position_bytes p = both_bytes _ _ (digits_bytes 4 p.number) (both_bytes _ _ (integer_bytes (quantity_of p)) (integer_bytes (money_of p)))

trade_bytes : Clean trade
trade_bytes t =
    both_bytes _ _ (digits_bytes 2 t.number)
    (both_bytes _ _ (digits_bytes 1 t.buyer)
    (both_bytes _ _ (digits_bytes 1 t.seller)
    (both_bytes _ _ (digits_bytes 1 t.security)
    (both_bytes _ _ (digits_bytes 4 t.quantity) (digits_bytes 4 t.price.0)))))

pub bytes_of_lem : (k : Book) → Bytes (bytes_of k)
unfolding bytes_of
bytes_of_lem k =
    both_bytes _ _ (digits_bytes 2 k.day)
    (both_bytes _ _ (rows_bytes (number 1) (digits_bytes 1) k.currency)
    (both_bytes _ _ (digits_bytes 2 k.records)
    (both_bytes _ _ (rows_bytes position position_bytes k.positions)
    (both_bytes _ _ (rows_bytes (number 8) (digits_bytes 8) k.holdings)
    (both_bytes _ _ (rows_bytes amount (λ m. integer_bytes (mils_of m)) k.charges)
    (both_bytes _ _ (digits_bytes 2 k.entries) (rows_bytes trade trade_bytes k.trades)))))))
