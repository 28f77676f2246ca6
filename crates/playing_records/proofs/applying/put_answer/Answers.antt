-- `playing_records::applying::put_answer` meets its contract: the figure stands behind the number. Assumes nothing.
use Rattle.std.proofs.Common.{arith}
use Rattle.fields.specs.FieldLaws.{after, length_digits}
use Rattle.playing_records.proofs.applying.put_answer.Goals as goal

pub returns : goal.returns
returns c =
    rw (← c.number.ensures, ← c.figure.ensures, ← c.from.ensures)
    (after _ _ _ _ _ _ _ c.put.ensures c.put-2.ensures (omega (arith, length_digits 1 c.from.result)))
