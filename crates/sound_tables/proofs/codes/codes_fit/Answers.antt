-- `sound_tables::codes::codes_fit` meets its contract. Assumes nothing.
use Rattle.std.proofs.Common.{◌∙◌, rules, tests}
use Rattle.std.proofs.lemmas.Iterator.{YieldsList-from_slice}
use Rattle.std.proofs.lemmas.Iterator.Search.{all_from_yields_List}
use Rattle.rules.specs.Sound.{is_code}
use Rattle.sound_positions.specs.Table.{all_is}
use Rattle.sound_tables.proofs.codes.codes_fit.Goals as goal

pub returns : goal.returns
returns c =
    all_from_yields_List is_code _ _ _ c.all.ensures.ran (YieldsList-from_slice c.args.codes cc) (λ x b q k. search (rules, tests))
    ∙ all_is is_code c.args.codes
