-- `netting_account::account::account_nets` meets its contract. The loop's invariant: the rows are the nets of the trades before `t`. Assumes nothing.
use Rattle.std.proofs.Common.{◌≡◌, length}
use Rattle.netting_account.specs.AccountNets.{NetsTo}
use Rattle.netting_account.proofs.account.account_nets.Given as goal

abbrev pub invariant-loop-t : goal.invariant-loop-t
invariant-loop-t l = (length l.nets ≡ 32) × NetsTo l.due l.trades l.account l.nets l.t-index
