-- `book::put_records` meets its contract. Assumes nothing.
use Rattle.std.proofs.Common.{rules}
use Rattle.book.specs.Replacing.{count_stored}
use Rattle.book.proofs.put_records.Goals as goal

pub returns : goal.returns
returns c = count_stored c.args.b.now (record { byte = c.fits-b }) c.told-b _ c.args.records (search rules) c.put.ensures
