-- `marking::terms::bad_rates` meets its contract. Assumes nothing.
use Rattle.std.proofs.Common.{arith}
use Rattle.std.proofs.lemmas.Bool.Decides.{nat_tests}
use Rattle.std.proofs.lemmas.Grind.{common_steps}
use Rattle.rules.specs.Marks.{rate_of, haircut_of, bad_rates}
use Rattle.marking.proofs.terms.bad_rates.Goals as goal

pub returns-then-rates-ne1000000 : goal.returns-then-rates-ne1000000
unfolding bad_rates rate_of haircut_of
returns-then-rates-ne1000000 c = grind (arith, common_steps, nat_tests)

pub returns-else-rates-ne1000000 : goal.returns-else-rates-ne1000000
unfolding bad_rates rate_of haircut_of
returns-else-rates-ne1000000 c = grind (arith, common_steps, nat_tests)
