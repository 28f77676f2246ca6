-- `sound_positions::room::unused_blank` meets its contract. Assumes nothing.
use Rattle.std.proofs.Common.{ℕ, ◌∙◌, refl, ap, get_or, drop, arith, rules, tests}
use Rattle.std.proofs.lemmas.Iterator.{YieldsList-from_range}
use Rattle.std.proofs.lemmas.Iterator.Search.{all_from_yields_List}
use Rattle.rules.specs.Words.{all}
use Rattle.rules.specs.Bounds.{most_records}
use Rattle.rules.specs.Book.{no_position}
use Rattle.rules.specs.Layout.{book_of}
use Rattle.rules.specs.Sound.{is_blank}
use Rattle.book.specs.Views.{positions_long}
use Rattle.sound_positions.specs.Table.{all_rest}
use Rattle.sound_positions.proofs.room.unused_blank.Goals as goal

pub returns : goal.returns
returns c =
    let l = (book_of c.args.b.now).positions in
    let n = c.records_at-n.result in
    all_from_yields_List (λ i. is_blank (get_or l i no_position)) _ _ _ c.all.ensures.ran (YieldsList-from_range n _ _ refl refl) (λ x b q k. search (rules, tests))
    ∙ all_rest is_blank l no_position n _ (positions_long c.args.b.now ∙ omega (arith, c.requires, c.records_at-n.ensures)) (omega (arith, c.requires, c.records_at-n.ensures))
    ∙ ap (λ (m : ℕ). all is_blank (drop m l)) c.records_at-n.ensures
