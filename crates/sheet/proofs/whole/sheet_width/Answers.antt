-- `sheet::whole::sheet_width` meets its contract: the walk that only measures. Assumes nothing.
use mathlib.Core.Path.{refl}
use Rattle.laws.specs.Cases.{true_false}
use Rattle.sheet.specs.Whole.{width_is}
use Rattle.sheet.proofs.whole.sheet_width.Goals as goal

pub put_lines-tally-requires : goal.put_lines-tally-requires
put_lines-tally-requires c = (c.requires, λ e. true_false e refl)

pub returns : goal.returns
returns c = width_is _ _ _ _ _ _ c.put_lines-tally.ensures
