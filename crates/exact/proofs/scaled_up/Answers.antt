-- `exact::scaled_up` meets its contract. Assumes nothing.
use Rattle.std.proofs.Common.{◌∙◌}
use Rattle.exact.specs.MulDiv.{done_is}
use Rattle.exact.specs.Rounding.{up_past, up_whole}
use Rattle.exact.proofs.scaled_up.Goals as goal

pub one_up-requires : goal.one_up-requires
one_up-requires c = (done_is _ _ _ _ _ c.in_ok-q.ensures).within

pub returns-in_err-q : goal.returns-in_err-q
returns-in_err-q c = c.from_residual.ensures ∙ up_past _ _ _ c.requires.some c.in_err-q.ensures

pub returns : goal.returns
returns c = c.one_up.ensures ∙ up_whole _ _ _ _ _ c.requires.some c.in_ok-q.ensures
