-- `book::holdings::holding_at` meets its contract. Assumes nothing.
use Rattle.std.proofs.Common.{◌∙◌}
use Rattle.fields.specs.Codec.{field_at}
use Rattle.book.specs.Views.{holding_view}
use Rattle.book.proofs.holdings.holding_at.Goals as goal

pub returns : goal.returns
returns c = holding_view _ _ _ c.requires (c.row_at.ensures ∙ field_at 8 _ _)
