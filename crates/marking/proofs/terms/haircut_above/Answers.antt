-- `marking::terms::haircut_above` meets its contract. Assumes nothing.
use Rattle.std.proofs.Common.{◌∙◌, rules, tests}
use Rattle.std.proofs.lemmas.Iterator.{YieldsList-from_slice}
use Rattle.std.proofs.lemmas.Iterator.Search.{any_from_yields_List}
use Rattle.units.specs.Units.{whole_haircut}
use Rattle.rules.specs.Words.{above}
use Rattle.marking_prices.specs.Looking.{any_listed}
use Rattle.marking.proofs.terms.haircut_above.Goals as goal

pub returns : goal.returns
returns c =
    any_from_yields_List (above whole_haircut) _ _ _ c.any.ensures.ran (YieldsList-from_slice c.args.haircuts.now cc) (λ x b q k. search (rules, tests))
    ∙ any_listed (above whole_haircut) c.args.haircuts.now
