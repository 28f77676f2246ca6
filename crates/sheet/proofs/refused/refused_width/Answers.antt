-- `sheet::refused::refused_width` meets its contract. Assumes nothing.
use mathlib.Core.Path.{sym}
use Rattle.sheet_laws.specs.Bounded.{refused_length}
use Rattle.sheet.proofs.refused.refused_width.Goals as goal

pub returns : goal.returns
returns c = sym refused_length
