-- `exact::scaled_down` meets its contract. Assumes nothing.
use Rattle.std.proofs.Common.{◌∙◌}
use Rattle.exact.specs.Rounding.{down_past, down_whole}
use Rattle.exact.proofs.scaled_down.Goals as goal

pub returns-in_err-q : goal.returns-in_err-q
returns-in_err-q c = c.from_residual.ensures ∙ down_past _ _ _ c.in_err-q.ensures

pub returns : goal.returns
returns c = down_whole _ _ _ _ _ c.in_ok-q.ensures
