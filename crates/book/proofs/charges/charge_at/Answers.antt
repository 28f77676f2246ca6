-- `book::charges::charge_at` meets its contract. Assumes nothing.
use Rattle.book.specs.Views.{charge_view}
use Rattle.book.proofs.charges.charge_at.Goals as goal

pub returns : goal.returns
returns c = charge_view _ _ _ c.requires c.row_at.ensures
