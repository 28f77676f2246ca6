-- `parts::packing::clear_rows` meets its contract. The loop's invariant: the rows from `from` up to i are zero. Assumes nothing.
use Rattle.rules.specs.Layout.{book_of}
use Rattle.parts.specs.Packing.{Clearing}
use Rattle.parts.proofs.packing.clear_rows.Given as goal

abbrev pub invariant-loop-i : goal.invariant-loop-i
invariant-loop-i l = Clearing (book_of l.initial.b) l.from l.b l.i
