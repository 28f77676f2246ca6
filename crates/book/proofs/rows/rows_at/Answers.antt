-- `book::rows::rows_at` meets its contract. Assumes nothing.
use Rattle.std.proofs.Common.{rules}
use Rattle.book.proofs.Made.{rows_made}
use Rattle.book.proofs.rows.rows_at.Goals as goal

pub returns : goal.returns
returns g c =
    rows_made g.T.Row.codec _ _ c.args.at c.args.b.now (λ i y q k. (search rules, search rules)) _ _ c.from_fn.ensures.items
