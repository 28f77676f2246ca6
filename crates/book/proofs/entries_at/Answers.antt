-- `book::entries_at` meets its contract. Assumes nothing.
use Rattle.book.specs.Views.{entries_view}
use Rattle.book.proofs.entries_at.Goals as goal

pub returns : goal.returns
returns c = entries_view _ _ c.get.ensures.0
