-- `book::holdings::put_holding` meets its contract. Assumes nothing.
use Rattle.std.proofs.Common.{◌∙◌, rules}
use Rattle.book.specs.Changing.{holding_changed}
use Rattle.book.specs.Replacing.{holding_back}
use Rattle.book.proofs.holdings.put_holding.Goals as goal

pub returns : goal.returns
returns c =
    holding_back c.args.b.now (record { byte = c.fits-b }) c.told-b _ c.args.i c.args.v (search rules)
    (c.put_row.ensures ∙ holding_changed c.args.b.now c.args.i c.args.v (record { byte = c.fits-b }) c.told-b c.requires)
