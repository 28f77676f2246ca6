-- `trading::entry::put_replaced` meets its contract. The loop's invariant: the rows before `u` are renewed, the others as they were. Assumes nothing.
use Rattle.trading.proofs.Renewing.{RenewedTo}
use Rattle.trading.proofs.entry.put_replaced.Given as goal

abbrev pub invariant-loop-u : goal.invariant-loop-u
invariant-loop-u l = RenewedTo l.number l.t l.initial.u-items l.u-items l.u-index
