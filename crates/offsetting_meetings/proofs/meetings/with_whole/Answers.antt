-- `offsetting_meetings::meetings::with_whole` meets its contract. Assumes nothing.
use Rattle.std.proofs.Common.{sym, ap, ◌∙◌}
use Rattle.units.specs.Units.{mils}
use Rattle.rules.specs.Book.{is_zero}
use Rattle.offsetting_meetings.proofs.meetings.with_whole.Goals as goal

pub returns-then-is_zero : goal.returns-then-is_zero
unfolding is_zero
returns-then-is_zero c = rw (sym c.is_zero.ensures ∙ c.if-is_zero.true) (ap mils c.plus.ensures.0)

pub returns-else-is_zero : goal.returns-else-is_zero
unfolding is_zero
returns-else-is_zero c = rw (sym c.is_zero.ensures ∙ c.if-is_zero.false)
