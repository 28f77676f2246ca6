-- `sheet::charges::put_charges` meets its contract: the lines from place i on are left. Assumes nothing.
use mathlib.Core.Path.{refl, ◌∙◌}
use native.Mathlib.Omega.{arith}
use Rattle.sheet.specs.Written.{going_start, going_ready, going_next, going_done}
use Rattle.sheet.specs.BookLines.{charges_first, charges_more, charges_done}
use Rattle.sheet.proofs.charges.put_charges.Goals as goal

pub loop-i-init : goal.loop-i-init
loop-i-init c = (refl, going_start _ _ _ _ _ _ c.requires (charges_first _))

pub put_charge-tally-requires : goal.put_charge-tally-requires
put_charge-tally-requires c =
    let l = c.loop-i in
    let h = c.loop-i-test.true in
    going_ready _ _ _ _ _ _ _ _ _ _ _ l.invariant.0 c.requires l.invariant.1 (charges_more c.args.charges.now l.i h)

pub loop-i-preserved : goal.loop-i-preserved
loop-i-preserved c =
    let l = c.loop-i in
    let h = c.loop-i-test.true in
    let put = c.put_charge-tally in
    (put.auto.buffer ∙ l.invariant.0, going_next _ _ _ _ _ _ _ _ _ _ _ l.invariant.1 (charges_more c.args.charges.now l.i h) put.ensures)

pub returns : goal.returns
returns c =
    let l = c.loop-i in
    going_done _ _ _ _ _ _ _ l.invariant.1 (charges_done c.args.charges.now l.i (omega arith))
