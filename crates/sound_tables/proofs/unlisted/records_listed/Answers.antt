-- `sound_tables::unlisted::records_listed` meets its contract. Assumes nothing.
use Rattle.std.proofs.Common.{not, ◌∙◌, ap, ℕ, refl, get_or, take, arith, rules, tests}
use Rattle.std.proofs.lemmas.Iterator.{YieldsList-from_range}
use Rattle.std.proofs.lemmas.Iterator.Search.{all_from_yields_List}
use Rattle.rules.specs.Words.{all}
use Rattle.rules.specs.Book.{no_position, security_of, open_of, unlisted}
use Rattle.rules.specs.Layout.{book_of}
use Rattle.rules.specs.declared.Position.{Position}
use Rattle.book.specs.Views.{positions_long}
use Rattle.sound_positions.specs.Table.{all_first}
use Rattle.sound_tables.proofs.unlisted.records_listed.Goals as goal

pub returns : goal.returns
unfolding open_of
returns c =
    let k = book_of c.args.b.now in
    let n = c.records_at-n.result in
    let fits = λ (p : Position). not (unlisted k (security_of p)) in
    all_from_yields_List (λ i. fits (get_or k.positions i no_position)) _ _ _ c.all.ensures.ran (YieldsList-from_range 0 n n refl (omega arith)) (λ x b q k. search (rules, tests))
    ∙ all_first fits k.positions no_position n (omega (arith, positions_long c.args.b.now))
    ∙ ap (λ (m : ℕ). all fits (take m k.positions)) c.records_at-n.ensures
