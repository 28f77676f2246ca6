-- `sound_tables::trades::rest_blank` meets its contract. Assumes nothing.
use Rattle.std.proofs.Common.{◌&&◌, ◌∙◌, ap, ℕ, eqb, refl, get_or, drop, arith, rules, tests}
use Rattle.std.proofs.lemmas.Iterator.{YieldsList-from_range}
use Rattle.std.proofs.lemmas.Iterator.Search.{all_from_yields_List}
use Rattle.rules.specs.Words.{all}
use Rattle.rules.specs.Bounds.{most_trades}
use Rattle.rules.specs.Book.{no_trade}
use Rattle.rules.specs.Layout.{book_of}
use Rattle.rules.specs.Sound.{zero_fields}
use Rattle.rules.specs.declared.Trade.{Trade}
use Rattle.book.specs.Views.{trades_long}
use Rattle.sound_positions.specs.Table.{all_rest}
use Rattle.sound_tables.proofs.trades.rest_blank.Goals as goal

pub returns : goal.returns
returns c =
    let l = (book_of c.args.b.now).trades in
    let n = c.entries_at-n.result in
    let fits = λ (t : Trade). eqb t.number 0 && zero_fields t in
    all_from_yields_List (λ i. fits (get_or l i no_trade)) _ _ _ c.all.ensures.ran (YieldsList-from_range n most_trades _ refl refl) (λ x b q k. search (rules, tests))
    ∙ all_rest fits l no_trade n most_trades (trades_long c.args.b.now) (omega arith)
    ∙ ap (λ (m : ℕ). all fits (drop m l)) c.entries_at-n.ensures
