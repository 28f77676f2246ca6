-- `sheet::charges::put_charge` meets its contract: no line for a zero charge. Assumes nothing.
use mathlib.Core.Path.{subst, sym}
use native.Mathlib.Omega.{arith}
use Rattle.sheet.specs.Written.{Ready, wrote_none, wrote_as}
use Rattle.sheet.specs.BookLines.{charge_none, charge_some}
use Rattle.sheet.proofs.charges.put_charge.Goals as goal

pub returns-then-size-eq0 : goal.returns-then-size-eq0
returns-then-size-eq0 c =
    let a = c.args in
    wrote_as _ _ _ _ _ _ _ (sym (charge_none a.account a.currency a.charge (omega (arith, c.size-size.ensures)))) (wrote_none _ _ _ _ _ c.requires)

pub put_one-requires : goal.put_one-requires
put_one-requires c =
    subst (Ready _ _ _) (charge_some c.args.account c.args.currency c.args.charge (omega (arith, c.size-size.ensures))) c.requires

pub returns : goal.returns
returns c =
    let a = c.args in
    wrote_as _ _ _ _ _ _ _
    (sym (charge_some a.account a.currency a.charge (omega (arith, c.size-size.ensures))))
    c.put_one.ensures
