-- The price question (document 01, "Marks" and refusals 18, 3, 5, 17). It looks at no book.
use Rattle.std.specs.Prelude.{Bool, cond, not, ◌||◌, List, [], ◌∷◌, ℕ, ◌+◌, ◌*◌, eqb, length, take, drop}
use Rattle.fields.specs.Field.{field}
use Rattle.units.specs.Units.{top_price}
use Rattle.rules.specs.Words.{any, above, Test, first}
use Rattle.rules.specs.Bounds.{securities, every_security}
use Rattle.rules.specs.Trades.{no_security}

-- Each table is 32 entries of 4 bytes, big-endian.
unfoldable pub entry_of : List ℕ → ℕ → ℕ
entry_of table s = field 4 (s * 4) table

-- 18: a table has the wrong length
unfoldable pub wrong_table : List ℕ → Bool
wrong_table table = not (eqb (length table) (securities * 4))

-- 5: in a price table, any entry above 9,999,999
unfoldable pub entry_above : List ℕ → Bool
entry_above table = any (λ s. above top_price (entry_of table s)) every_security

-- The price is the intraday table's entry, or, if that is 0, the closing table's.
unfoldable pub from_closing : List ℕ → ℕ → Bool
from_closing intraday s = eqb (entry_of intraday s) 0

unfoldable pub table_used : List ℕ → List ℕ → ℕ → List ℕ
table_used intraday closing s = cond (from_closing intraday s) closing intraday

unfoldable pub price_of : List ℕ → List ℕ → ℕ → ℕ
price_of intraday closing s = entry_of (table_used intraday closing s) s

-- 17: neither price table has a price (0 means none)
unfoldable pub no_price : List ℕ → List ℕ → ℕ → Bool
no_price intraday closing s = eqb (price_of intraday closing s) 0

-- Price question: 18, 3 (above 31 only), 5, 17.
unfoldable pub price_tests : List ℕ → List ℕ → ℕ → List Test
price_tests intraday closing s =
    (wrong_table intraday || wrong_table closing, 18) ∷
    (no_security s, 3) ∷
    (entry_above intraday || entry_above closing, 5) ∷
    (no_price intraday closing s, 17) ∷
    []

unfoldable pub price_answer : List ℕ → List ℕ → ℕ → ℕ
price_answer intraday closing s = first (price_tests intraday closing s)

-- The answer is the 4-byte entry itself, as it stands in whichever table it came from; an empty part where refused.
unfoldable pub price_part : List ℕ → List ℕ → ℕ → List ℕ
price_part intraday closing s =
    cond (eqb (price_answer intraday closing s) 0) (take 4 (drop (s * 4) (table_used intraday closing s))) []

-- Where the part stands, if the tables begin at a and b (a spot is a region of memory and a byte in it). The empty part of a refused
-- question stands at the front of the intraday table.
abbrev pub Spot : Type 0
Spot = ℕ × ℕ

unfoldable pub entry_spot : List ℕ → ℕ → Spot → Spot → Spot
entry_spot intraday s a b = cond (from_closing intraday s) (b.0, s * 4 + b.1) (a.0, s * 4 + a.1)

unfoldable pub price_spot : List ℕ → List ℕ → ℕ → Spot → Spot → Spot
price_spot intraday closing s a b = cond (eqb (price_answer intraday closing s) 0) (entry_spot intraday s a b) a
