-- `wickdamson::settlement::wick_run` meets its contract: shares moved, or refused. Assumes nothing.
use Rattle.std.proofs.Common.{◌∙◌}
use Rattle.wickdamson.specs.Figures.{moved_told, refused_told}
use Rattle.wickdamson.proofs.settlement.wick_run.Goals as goal

pub returns-in-Ok : goal.returns-in-Ok
returns-in-Ok c =
    let e = rw c.byte_of-s.ensures at c.in-Ok.ensures in
    let t = moved_told _ _ _ e.0 _ c.size.ensures in
    (t.0, t.1, e.1)

pub returns-in-Err : goal.returns-in-Err
returns-in-Err c =
    let e = rw c.byte_of-s.ensures at c.in-Err.ensures in
    let t = refused_told _ _ _ e.0 in
    (c.into.ensures ∙ t.0, t.1, e.1)
