-- `book::positions::position_at` meets its contract. Assumes nothing.
use Rattle.book.specs.Views.{position_view}
use Rattle.book.proofs.positions.position_at.Goals as goal

pub returns : goal.returns
returns c = position_view _ _ _ c.requires c.row_at.ensures
