-- `book::records_at` meets its contract. Assumes nothing.
use Rattle.book.specs.Views.{records_view}
use Rattle.book.proofs.records_at.Goals as goal

pub returns : goal.returns
returns c = records_view _ _ c.get.ensures.0
