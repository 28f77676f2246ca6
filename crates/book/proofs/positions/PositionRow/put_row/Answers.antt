-- `put_row` of a position meets its contract. The fields stored one behind the other are the row stored (`position_written`). Assumes nothing.
use Rattle.book.specs.Writing.{digits_written, position_written}
use Rattle.book.proofs.positions.PositionRow.put_row.Goals as goal

pub returns : goal.returns
returns c =
    position_written _ _ _ _ _ _
    c.put.ensures
    (digits_written 8 _ _ _ _ _ c.put-2.ensures c.bits.ensures)
    (digits_written 8 _ _ _ _ _ c.put-3.ensures c.bits-2.ensures)
