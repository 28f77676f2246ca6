-- `settling_counts::sides::holding_place` meets its contract. Assumes nothing.
use Rattle.std.proofs.Common.{arith}
use Rattle.rules.specs.Book.{holding_at}
use Rattle.settling_counts.proofs.sides.holding_place.Goals as goal

pub returns : goal.returns
unfolding holding_at
returns c = (rw c.account_of.ensures.0, omega arith)
