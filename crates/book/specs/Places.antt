-- The byte places where the parts of a book begin (docs/BOOK.md), for the contracts of what reads and writes one part.
-- They are no second layout: what `load` and `store` promise names none, and a wrong one could not be proved against it.
use Rattle.std.specs.Prelude.{ℕ}

abbrev pub day_place : ℕ
day_place = 0

abbrev pub codes_place : ℕ
codes_place = 2

abbrev pub records_place : ℕ
records_place = 34

abbrev pub positions_place : ℕ
positions_place = 36

abbrev pub holdings_place : ℕ
holdings_place = 20_516

abbrev pub charges_place : ℕ
charges_place = 36_900

abbrev pub entries_place : ℕ
entries_place = 38_948

abbrev pub trades_place : ℕ
trades_place = 38_950
