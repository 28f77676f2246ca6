-- `lines_text::figures::put_fields` meets its contract: a field behind those so far. Assumes nothing.
use Rattle.std.proofs.Common.{◌≡◌, ◌+◌, length}
use Rattle.fields.specs.Field.{stored}
use Rattle.lines_text.specs.LineWords.{fields}
use Rattle.lines_text.proofs.figures.put_fields.Given as goal

abbrev pub invariant-loop-i : goal.invariant-loop-i
invariant-loop-i l =
    (l.place ≡ l.at + length (fields l.i l.figures)) × (length l.buffer ≡ length l.initial.buffer) × (l.buffer ≡ stored l.initial.buffer l.at (fields l.i l.figures))
