-- `netting::steps::put_nets` meets its contract. The loop's invariant: the rows before i are those of the table handed over. Assumes nothing.
use Rattle.rules.specs.Layout.{book_of}
use Rattle.netting.specs.Before.{Putting}
use Rattle.netting.proofs.steps.put_nets.Given as goal

abbrev pub invariant-loop-i : goal.invariant-loop-i
invariant-loop-i l = Putting (book_of l.initial.b) l.t.positions l.b l.i
