-- `offsetting::borders::due_before` meets its contract. The loop's invariant: `older` of the rows before `i` are due before the day.
-- Assumes nothing.
use Rattle.rules.specs.Layout.{book_of}
use Rattle.laws.specs.DueDays.{is_older}
use Rattle.offsetting.specs.Borders.{Counts}
use Rattle.offsetting.proofs.borders.due_before.Given as goal

abbrev pub invariant-loop-i : goal.invariant-loop-i
invariant-loop-i l = Counts (is_older l.day) (book_of l.b).positions l.i l.older
