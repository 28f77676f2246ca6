-- `netting_account::named::named_accounts` meets its contract. The loop's invariant: the trades before `t` name no account whose flag is down. Assumes nothing.
use Rattle.std.proofs.Common.{◌≡◌, length}
use Rattle.netting_account.specs.Named.{NamedTo}
use Rattle.netting_account.proofs.named.named_accounts.Given as goal

abbrev pub invariant-loop-t : goal.invariant-loop-t
invariant-loop-t l = (length l.named ≡ 64) × NamedTo l.trades l.named l.t-index
