-- `book::trades::put_list` meets its contract. The count and the table, stored one behind the other, are the list. Assumes nothing.
use Rattle.std.proofs.Common.{◌≡◌, length, rules}
use Rattle.fields.specs.Lengths.{unmapped}
use Rattle.book.specs.Changing.{list_changed}
use Rattle.book.proofs.trades.put_list.Goals as goal

pub returns : goal.returns
returns c =
    let long : length c.args.t ≡ 256 = search (rules, unmapped) in
    list_changed _ _ _ _ _ (record { byte = c.fits-b }) c.told-b long c.put.ensures c.put_rows.ensures
