-- `fields::put` meets its contract: the stores that are left, of the digits that are left, make what the contract says.
use Rattle.std.proofs.Common.{◌∙◌, arith}
use Rattle.fields.specs.FieldLaws.{put_more, put_done}
use Rattle.fields.proofs.put.Goals as goal

pub loop-i-preserved : goal.loop-i-preserved
loop-i-preserved c =
    let l = c.loop-i in
    put_more l.b c.args.at l.i l.rest (omega arith) ∙ l.invariant

pub returns : goal.returns
returns c = let l = c.loop-i in put_done l.b c.args.at l.i l.rest (omega arith) ∙ l.invariant
