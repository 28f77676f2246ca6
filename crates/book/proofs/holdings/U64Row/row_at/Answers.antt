-- `row_at` of a holding meets its contract. Assumes nothing.
use Rattle.book.specs.Reading.{number_read}
use Rattle.book.proofs.holdings.U64Row.row_at.Goals as goal

pub returns : goal.returns
returns c = number_read 8 _ _ _ c.word.ensures
