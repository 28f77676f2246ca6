-- `sound_tables::money::charges_fit` meets its contract. Assumes nothing.
use Rattle.std.proofs.Common.{◌∙◌, refl, pos, get_or, rules, tests}
use Rattle.std.proofs.lemmas.Iterator.{YieldsList-from_range}
use Rattle.std.proofs.lemmas.Iterator.Search.{all_from_yields_List}
use Rattle.units.specs.Units.{mils}
use Rattle.rules.specs.Layout.{book_of}
use Rattle.book.specs.Views.{charges_long}
use Rattle.sound_tables.specs.Placed.{all_places}
use Rattle.sound_tables.specs.Stakes.{stake_fits}
use Rattle.sound_tables.proofs.money.charges_fit.Goals as goal

pub returns : goal.returns
returns c =
    let fits = stake_fits c.args.sums in
    let l = (book_of c.args.b.now).charges in
    let none = mils (pos 0) in
    all_from_yields_List (λ i. fits i (get_or l i none)) _ _ _ c.all.ensures.ran (YieldsList-from_range 0 256 _ refl refl) (λ x b q k. search (rules, tests))
    ∙ all_places fits l none 256 0 (charges_long c.args.b.now)
