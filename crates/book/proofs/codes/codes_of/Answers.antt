-- `book::codes::codes_of` meets its contract. Assumes nothing.
use Rattle.book.specs.Views.{codes_view}
use Rattle.book.proofs.codes.codes_of.Goals as goal

pub returns : goal.returns
returns c = codes_view _ _ c.rows_at.ensures
