-- `book::rows::put_rows` meets its contract. The invariant: the first i rows are stored. Assumes nothing.
use Rattle.std.proofs.Common.{◌≡◌, take}
use Rattle.fields.specs.Field.{stored}
use Rattle.fields.specs.Codec.{write_rows}
use Rattle.book.proofs.rows.put_rows.Given as goal

abbrev pub invariant-loop-i : goal.invariant-loop-i
invariant-loop-i g l = l.b ≡ stored l.initial.b l.at (write_rows g.T.Row.codec (take l.i l.rows))
