-- `book_whole::store` meets its contract. Each part is stored where the part before it ends (`book_written`). Assumes nothing.
use Rattle.std.proofs.Common.{rules}
use Rattle.fields.specs.Lengths.{unmapped}
use Rattle.book.specs.Writing.{book_written, Tables}
use Rattle.book_whole.proofs.store.Goals as goal

pub returns : goal.returns
returns c =
    -- what comes in as a book has tables of the right length
    let tables : Tables c.args.k.now = record {
      codes = search rules;
      positions = search (rules, unmapped);
      holdings = search rules;
      charges = search (rules, unmapped);
      trades = search (rules, unmapped);
    } in
    book_written _ _ _ _ _ _ _ _ _ _ tables c.told-b
    c.put.ensures
    c.put_rows.ensures
    c.put-2.ensures
    c.put_rows-2.ensures
    c.put_rows-3.ensures
    c.put_rows-4.ensures
    c.put-3.ensures
    c.put_rows-5.ensures
