-- `lines_text::figures::put_field` meets its contract: the space, the minus where there is one, the digits. Assumes nothing.
use mathlib.Core.Path.{ap}
use native.Mathlib.Omega.{arith}
use lib.ListN.{length, length-set}
use Rattle.lines_text.specs.Placed.{field_minus, field_plain, field_some, put_minus, put_plain}
use Rattle.lines_text.proofs.figures.put_field.Goals as goal

pub bounds-buffer-at : goal.bounds-buffer-at
bounds-buffer-at c = omega (arith, field_some c.args.f)

pub bounds-buffer-at-then-f : goal.bounds-buffer-at-then-f
bounds-buffer-at-then-f c = simp length-set (omega (arith, ap length (field_minus c.args.f c.if-f.true)))

pub put_decimal-requires : goal.put_decimal-requires
put_decimal-requires c = simp length-set (omega (arith, ap length (field_minus c.args.f c.if-f.true)))

pub returns-then-f : goal.returns-then-f
returns-then-f c =
    let a = c.args in
    let h = c.if-f.true in
    let e = c.put_decimal.ensures in
    (omega (arith, ap length (field_minus a.f h)), put_minus a.buffer.now _ a.at a.f h e.1)

pub put_decimal-requires-2 : goal.put_decimal-requires-2
put_decimal-requires-2 c = simp length-set (omega (arith, ap length (field_plain c.args.f c.if-f.false)))

pub returns : goal.returns
returns c =
    let a = c.args in
    let h = c.if-f.false in
    let e = c.put_decimal-2.ensures in
    (omega (arith, ap length (field_plain a.f h)), put_plain a.buffer.now _ a.at a.f h e.1)
