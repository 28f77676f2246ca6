-- `settling_counts::counts::wanted_of` meets its contract. The loop's invariant: the sum and what the records from i on want make the whole.
-- Assumes nothing.
use Rattle.rules.specs.Layout.{book_of}
use Rattle.settling_counts.specs.Counting.{Wanting}
use Rattle.settling_counts.proofs.counts.wanted_of.Given as goal

abbrev pub invariant-loop-i : goal.invariant-loop-i
invariant-loop-i l = Wanting (book_of l.b) l.security l.sum l.i
