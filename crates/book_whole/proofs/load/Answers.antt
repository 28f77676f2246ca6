-- `book_whole::load` meets its contract. Each part is what the layout reads there (`book_read`). Assumes nothing.
use Rattle.book.specs.Reading.{book_read}
use Rattle.book_whole.proofs.load.Goals as goal

pub returns : goal.returns
returns c =
    book_read _ _
    c.get.ensures.0
    c.rows_at.ensures
    c.get-2.ensures.0
    c.rows_at-2.ensures
    c.rows_at-3.ensures
    c.rows_at-4.ensures
    c.get-3.ensures.0
    c.rows_at-5.ensures
