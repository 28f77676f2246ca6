-- `book::trades::clear_list` meets its contract. Assumes nothing.
use Rattle.book.specs.Replacing.{list_stored}
use Rattle.book.proofs.trades.clear_list.Goals as goal

pub returns : goal.returns
returns c = list_stored c.args.b.now (record { byte = c.fits-b }) c.told-b _ c.put_zeros.ensures
