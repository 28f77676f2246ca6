-- `units_rounded::parts::portion` meets its contract: the two products are small enough, and the sum is the quotient (`portion_is`). Assumes nothing.
use Rattle.std.proofs.Common.{arith}
use Rattle.units_rounded.proofs.PartLaws.{quotient_le, rest_le, portion_le, portion_is}
use Rattle.units_rounded.proofs.parts.portion.Goals as goal

pub overflow_mul-a : goal.overflow_mul-a
overflow_mul-a c = omega (arith, quotient_le c.args.money.0 c.args.all.0 c.args.some.0 c.requires)

pub overflow_mul-b : goal.overflow_mul-b
overflow_mul-b c = omega (arith, rest_le c.args.money.0 c.args.all.0 c.args.some.0 c.requires)

pub overflow_add-result : goal.overflow_add-result
overflow_add-result c = omega (arith, portion_is c.args.money.0 c.args.all.0 c.args.some.0 c.requires.some, portion_le c.args.money.0 c.args.all.0 c.args.some.0 c.requires)

pub returns : goal.returns
returns c = omega (arith, portion_is c.args.money.0 c.args.all.0 c.args.some.0 c.requires.some, portion_le c.args.money.0 c.args.all.0 c.args.some.0 c.requires)
