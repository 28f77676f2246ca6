-- `lines_text::texts::head_width` meets its contract. Assumes nothing.
use mathlib.Core.Path.{ap}
use native.Mathlib.Omega.{arith}
use lib.ListN.{length}
use Rattle.lines_text.specs.Placed.{head_day, head_other}
use Rattle.lines_text.proofs.texts.head_width.Goals as goal

pub returns-then-head-eq68 : goal.returns-then-head-eq68
returns-then-head-eq68 c = omega (arith, ap length (head_day c.args.head c.if-head-eq68.true))

pub returns : goal.returns
returns c = omega (arith, ap length (head_other c.args.head c.if-head-eq68.false))
