-- `book::codes::code_at` meets its contract. Assumes nothing.
use Rattle.std.proofs.Common.{◌∙◌}
use Rattle.fields.specs.Codec.{field_at}
use Rattle.book.specs.Views.{code_view}
use Rattle.book.proofs.codes.code_at.Goals as goal

pub returns : goal.returns
returns c = code_view _ _ _ c.requires (c.row_at.ensures ∙ field_at 1 _ _)
