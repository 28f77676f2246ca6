-- `offsetting_meetings::meetings::same_pair` meets its contract. Assumes nothing.
use Rattle.offsetting_meetings.specs.Meeting.{pair_same}
use Rattle.offsetting_meetings.proofs.meetings.same_pair.Goals as goal

pub returns : goal.returns
returns c = let a = c.args in pair_same a.p a.o
