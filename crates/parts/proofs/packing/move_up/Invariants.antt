-- `parts::packing::move_up` meets its contract. The loop's invariant: of the first i rows those that remain stand in front, and the others are as
-- they were. Assumes nothing.
use Rattle.rules.specs.Layout.{book_of}
use Rattle.parts.specs.Packing.{Moving}
use Rattle.parts.proofs.packing.move_up.Given as goal

abbrev pub invariant-loop-i : goal.invariant-loop-i
invariant-loop-i l = Moving (book_of l.initial.b) l.b l.kept l.i
