-- `sound_tables::holdings::holdings_fit` meets its contract. Assumes nothing.
use Rattle.std.proofs.Common.{◌∙◌, refl, rules, tests}
use Rattle.std.proofs.lemmas.Iterator.{YieldsList-from_range}
use Rattle.std.proofs.lemmas.Iterator.Search.{all_from_yields_List}
use Rattle.rules.specs.Bounds.{securities, every_security}
use Rattle.rules.specs.Layout.{book_of}
use Rattle.book.specs.Views.{codes_long, holdings_long}
use Rattle.sound_positions.specs.Table.{all_numbers}
use Rattle.sound_tables.specs.Held.{total_fits, held_fits_lem}
use Rattle.sound_tables.proofs.holdings.holdings_fit.Goals as goal

pub returns : goal.returns
unfolding every_security
returns c =
    let bs = c.args.b.now in
    all_from_yields_List (total_fits (book_of bs)) _ _ _ c.all.ensures.ran (YieldsList-from_range 0 securities _ refl refl) (λ x b q k. search (rules, tests))
    ∙ all_numbers (total_fits (book_of bs)) securities
    ∙ held_fits_lem (book_of bs) (holdings_long bs) (codes_long bs)
