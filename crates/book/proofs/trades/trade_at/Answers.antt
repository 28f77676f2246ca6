-- `book::trades::trade_at` meets its contract. Assumes nothing.
use Rattle.book.specs.Views.{trade_view}
use Rattle.book.proofs.trades.trade_at.Goals as goal

pub returns : goal.returns
returns c = trade_view _ _ _ c.requires c.row_at.ensures
