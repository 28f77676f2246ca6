-- `offsetting_meetings::meetings::is_opposite` meets its contract. Assumes nothing.
use Rattle.std.proofs.Common.{arith}
use Rattle.std.proofs.lemmas.Grind.{common_steps}
use Rattle.rules.specs.Book.{is_zero}
use Rattle.rules.specs.Roll.{opposite}
use Rattle.offsetting_meetings.proofs.meetings.is_opposite.Goals as goal

pub returns-then-not-is_zero-2 : goal.returns-then-not-is_zero-2
unfolding opposite is_zero
returns-then-not-is_zero-2 c = grind (arith, common_steps)

pub returns-else-not-is_zero-2 : goal.returns-else-not-is_zero-2
unfolding opposite is_zero
returns-else-not-is_zero-2 c = grind (arith, common_steps)
