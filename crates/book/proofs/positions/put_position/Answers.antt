-- `book::positions::put_position` meets its contract. Assumes nothing.
use Rattle.std.proofs.Common.{rules}
use Rattle.book.specs.Replacing.{position_stored}
use Rattle.book.proofs.positions.put_position.Goals as goal

pub returns : goal.returns
returns c =
    position_stored c.args.b.now (record { byte = c.fits-b }) c.told-b _ c.args.i c.args.p c.requires
    (search rules, (search rules, search rules)) c.put_row.ensures
