-- `trading::entry::put_entered` meets its contract. Assumes nothing.
use Rattle.std.proofs.Common.{ap, ◌∙◌}
use Rattle.rules.specs.Layout.{book_of, bytes_of}
use Rattle.book.specs.Views.{trades_long}
use Rattle.trading.specs.Tables.{entered_table}
use Rattle.trading.proofs.entry.put_entered.Goals as goal

pub returns : goal.returns
returns c =
    let bs = c.args.b.now in
    c.put_list.ensures
    ∙ ap bytes_of (entered_table (book_of bs) (trades_long bs) c.requires.1 _ c.entries_at-n.ensures _ c.trades_of-rows.ensures c.args.t c.requires.0)
