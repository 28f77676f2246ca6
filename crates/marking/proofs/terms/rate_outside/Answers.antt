-- `marking::terms::rate_outside` meets its contract. Assumes nothing.
use Rattle.std.proofs.Common.{◌∙◌, rules, tests}
use Rattle.std.proofs.lemmas.Iterator.{YieldsList-from_slice}
use Rattle.std.proofs.lemmas.Iterator.Search.{any_from_yields_List}
use Rattle.units.specs.Units.{top_rate}
use Rattle.rules.specs.Words.{outside}
use Rattle.marking_prices.specs.Looking.{any_listed}
use Rattle.marking.proofs.terms.rate_outside.Goals as goal

pub returns : goal.returns
returns c =
    any_from_yields_List (outside 1 top_rate) _ _ _ c.any.ensures.ran (YieldsList-from_slice c.args.rates.now cc) (λ x b q k. search (rules, tests))
    ∙ any_listed (outside 1 top_rate) c.args.rates.now
