-- `row_at` of a code meets its contract. Assumes nothing.
use Rattle.book.specs.Reading.{number_read}
use Rattle.book.proofs.codes.U8Row.row_at.Goals as goal

pub returns : goal.returns
returns c = number_read 1 _ _ _ c.get.ensures.0
