-- `book::charges::clear_charges` meets its contract. Assumes nothing.
use Rattle.book.specs.Replacing.{charges_stored}
use Rattle.book.proofs.charges.clear_charges.Goals as goal

pub returns : goal.returns
returns c = charges_stored c.args.b.now (record { byte = c.fits-b }) c.told-b _ c.put_zeros.ensures
