-- `lines_text::figures::fields_width` meets its contract: the size of the fields so far. Assumes nothing.
use Rattle.std.proofs.Common.{◌≡◌, ◌*◌, ◌≤◌, length}
use Rattle.lines_text.specs.LineWords.{fields}
use Rattle.lines_text.proofs.figures.fields_width.Given as goal

abbrev pub invariant-loop-i : goal.invariant-loop-i
invariant-loop-i l = (l.size ≡ length (fields l.i l.figures)) × (l.size ≤ 22 * l.i)
