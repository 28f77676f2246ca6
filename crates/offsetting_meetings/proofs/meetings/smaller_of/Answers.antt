-- `offsetting_meetings::meetings::smaller_of` meets its contract. Assumes nothing.
use Rattle.std.proofs.Common.{arith}
use Rattle.rules.specs.Roll.{smaller}
use Rattle.offsetting_meetings.proofs.meetings.smaller_of.Goals as goal

pub returns-then-size : goal.returns-then-size
unfolding smaller
returns-then-size c = omega arith

pub returns-else-size : goal.returns-else-size
unfolding smaller
returns-else-size c = omega arith
