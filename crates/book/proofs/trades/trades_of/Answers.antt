-- `book::trades::trades_of` meets its contract. Assumes nothing.
use Rattle.book.specs.Views.{trades_view}
use Rattle.book.proofs.trades.trades_of.Goals as goal

pub returns : goal.returns
returns c = trades_view _ _ c.rows_at.ensures
