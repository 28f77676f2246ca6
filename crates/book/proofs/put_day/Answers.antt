-- `book::put_day` meets its contract. Assumes nothing.
use Rattle.std.proofs.Common.{rules}
use Rattle.book.specs.Replacing.{day_stored}
use Rattle.book.proofs.put_day.Goals as goal

pub returns : goal.returns
returns c = day_stored c.args.b.now (record { byte = c.fits-b }) c.told-b _ c.args.day (search rules) c.put.ensures
