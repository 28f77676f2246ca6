-- `offsetting_meetings::meetings::is_facing` meets its contract. Assumes nothing.
use Rattle.std.proofs.Common.{arith}
use Rattle.std.proofs.lemmas.Grind.{common_steps}
use Rattle.rules.specs.Roll.{faces}
use Rattle.offsetting_meetings.proofs.meetings.is_facing.Goals as goal

pub returns-then-same_pair : goal.returns-then-same_pair
unfolding faces
returns-then-same_pair c = grind (arith, common_steps)

pub returns-else-same_pair : goal.returns-else-same_pair
unfolding faces
returns-else-same_pair c = grind (arith, common_steps)
