-- `settling_counts::counts::deliverable_of` meets its contract. The loop's invariant: the sum and what the records from i on give, from what the
-- accounts still hold, make the whole. Assumes nothing.
use Rattle.rules.specs.Layout.{book_of}
use Rattle.settling_counts.specs.Holders.{Given}
use Rattle.settling_counts.proofs.counts.deliverable_of.Given as goal

abbrev pub invariant-loop-i : goal.invariant-loop-i
invariant-loop-i l = Given (book_of l.b) l.security l.held l.sum l.i
