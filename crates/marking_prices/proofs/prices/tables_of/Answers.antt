-- `marking_prices::prices::tables_of` meets its contract. Assumes nothing.
use Rattle.std.proofs.Common.{arith}
use Rattle.std.proofs.lemmas.Grind.{common_steps}
use Rattle.std.proofs.lemmas.Bool.Decides.{nat_tests}
use Rattle.rules.specs.Prices.{wrong_table}
use Rattle.laws.specs.Cases.{or_right}
use Rattle.marking_prices.specs.Pricing.{wrong_length}
use Rattle.marking_prices.proofs.prices.tables_of.Goals as goal

pub returns-in_default : goal.returns-in_default
unfolding wrong_table
returns-in_default c = grind (arith, common_steps, nat_tests)

pub returns-in_default-as_array : goal.returns-in_default-as_array
returns-in_default-as_array c = or_right (wrong_table c.args.intraday.now) (wrong_length c.args.closing.now c.in_default-as_array.ensures.cases)

pub returns : goal.returns
unfolding wrong_table
returns c = grind (arith, common_steps, nat_tests)
