-- `row_at` of a trade meets its contract. The fields read at their places are the row (`trade_read`). Assumes nothing.
use Rattle.book.specs.Reading.{trade_read}
use Rattle.book.proofs.trades.TradeRow.row_at.Goals as goal

pub returns : goal.returns
returns c =
    trade_read _ _ _
    c.get-number.ensures.0
    c.get-buyer.ensures.0
    c.get-seller.ensures.0
    c.get-security.ensures.0
    c.get-quantity.ensures.0
    c.get-price.ensures.0
