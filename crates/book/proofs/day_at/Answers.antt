-- `book::day_at` meets its contract. Assumes nothing.
use Rattle.book.specs.Views.{day_view}
use Rattle.book.proofs.day_at.Goals as goal

pub returns : goal.returns
returns c = day_view _ _ c.get.ensures.0
