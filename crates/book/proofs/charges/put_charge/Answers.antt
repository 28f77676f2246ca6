-- `book::charges::put_charge` meets its contract. Assumes nothing.
use Rattle.std.proofs.Common.{rules}
use Rattle.book.specs.Replacing.{charge_stored}
use Rattle.book.proofs.charges.put_charge.Goals as goal

pub returns : goal.returns
returns c = charge_stored c.args.b.now (record { byte = c.fits-b }) c.told-b _ c.args.i c.args.m c.requires (search rules) c.put_row.ensures
