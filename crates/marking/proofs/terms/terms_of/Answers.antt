-- `marking::terms::terms_of` meets its contract. Assumes nothing.
use Rattle.std.proofs.Common.{arith}
use Rattle.std.proofs.lemmas.Bool.Decides.{nat_tests}
use Rattle.std.proofs.lemmas.Grind.{common_steps}
use Rattle.rules.specs.Marks.{wrong_terms}
use Rattle.marking.specs.Passing.{wrong_rates, wrong_haircuts}
use Rattle.marking.proofs.terms.terms_of.Goals as goal

pub returns-in_default : goal.returns-in_default
unfolding wrong_terms
returns-in_default c = grind (arith, common_steps, nat_tests)

pub returns-in_default-as_array : goal.returns-in_default-as_array
returns-in_default-as_array c = wrong_rates _ c.in_default-as_array.ensures.cases

pub returns-in_default-as_array-2 : goal.returns-in_default-as_array-2
returns-in_default-as_array-2 c = wrong_haircuts _ c.in_default-as_array-2.ensures.cases

pub returns : goal.returns
unfolding wrong_terms
returns c = grind (arith, common_steps, nat_tests)
