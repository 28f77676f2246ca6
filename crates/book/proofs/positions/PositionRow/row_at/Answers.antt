-- `row_at` of a position meets its contract. The fields read at their places are the row (`position_read`). Assumes nothing.
use Rattle.book.specs.Reading.{position_read}
use Rattle.book.proofs.positions.PositionRow.row_at.Goals as goal

pub returns : goal.returns
returns c =
    position_read _ _ _ _ _
    c.get-number.ensures.0
    c.word.ensures
    c.from_bits-quantity.ensures
    c.word-2.ensures
    c.from_bits-money.ensures
