-- `put_row` of a trade meets its contract. The fields stored one behind the other are the row stored (`trade_written`). Assumes nothing.
use Rattle.book.specs.Writing.{digits_written, trade_written}
use Rattle.book.proofs.trades.TradeRow.put_row.Goals as goal

pub returns : goal.returns
returns c =
    trade_written _ _ _ _ _ _ _ _ _
    c.put.ensures
    (digits_written 1 _ _ _ _ _ c.put-2.ensures c.wide.ensures.0)
    (digits_written 1 _ _ _ _ _ c.put-3.ensures c.wide-2.ensures.0)
    (digits_written 1 _ _ _ _ _ c.put-4.ensures c.wide-3.ensures.0)
    c.put-5.ensures
    c.put-6.ensures
