-- `sound_tables::trades::all_listable` meets its contract. Assumes nothing.
use Rattle.std.proofs.Common.{◌∙◌, ap, ℕ, refl, get_or, take, arith, rules, tests}
use Rattle.std.proofs.lemmas.Iterator.{YieldsList-from_range}
use Rattle.std.proofs.lemmas.Iterator.Search.{all_from_yields_List}
use Rattle.rules.specs.Words.{all}
use Rattle.rules.specs.Book.{no_trade, list_of}
use Rattle.rules.specs.Layout.{book_of}
use Rattle.laws.specs.Listed.{listable}
use Rattle.book.specs.Views.{trades_long}
use Rattle.sound_positions.specs.Table.{all_first}
use Rattle.sound_tables.proofs.trades.all_listable.Goals as goal

pub returns : goal.returns
unfolding list_of
returns c =
    let k = book_of c.args.b.now in
    let n = c.entries_at-n.result in
    all_from_yields_List (λ i. listable k (get_or k.trades i no_trade)) _ _ _ c.all.ensures.ran (YieldsList-from_range 0 n n refl (omega arith)) (λ x b q k. search (rules, tests))
    ∙ all_first (listable k) k.trades no_trade n (omega (arith, trades_long c.args.b.now))
    ∙ ap (λ (m : ℕ). all (listable k) (take m k.trades)) c.entries_at-n.ensures
