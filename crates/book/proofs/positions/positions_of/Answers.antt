-- `book::positions::positions_of` meets its contract. Assumes nothing.
use Rattle.book.specs.Views.{positions_view}
use Rattle.book.proofs.positions.positions_of.Goals as goal

pub returns : goal.returns
returns c = positions_view _ _ c.rows_at.ensures
