-- `lines_text::figures::field_width` meets its contract. Assumes nothing.
use mathlib.Core.Path.{ap}
use native.Mathlib.Omega.{arith}
use lib.ListN.{length}
use Rattle.lines_text.specs.Placed.{field_minus, field_plain}
use Rattle.lines_text.proofs.figures.field_width.Goals as goal

pub returns-then-f : goal.returns-then-f
returns-then-f c = omega (arith, ap length (field_minus c.args.f c.if-f.true))

pub returns : goal.returns
returns c = omega (arith, ap length (field_plain c.args.f c.if-f.false))
