-- `row_at` of a charge meets its contract. Assumes nothing.
use Rattle.book.specs.Reading.{amount_read}
use Rattle.book.proofs.charges.MilsRow.row_at.Goals as goal

pub returns : goal.returns
returns c = amount_read _ _ _ _ c.word.ensures c.from_bits.ensures
