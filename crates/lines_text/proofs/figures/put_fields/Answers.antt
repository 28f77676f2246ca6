-- `lines_text::figures::put_fields` meets its contract: a field behind those so far. Assumes nothing.
use Rattle.std.proofs.Common.{arith, refl, sym, ap, ◌∙◌, length}
use Rattle.fields.specs.Field.{stored}
use Rattle.fields.specs.FieldLaws.{stored_none}
use Rattle.lines_text.specs.Placed.{fields_none, fields_within, length_fields, put_fields}
use Rattle.lines_text.proofs.figures.put_fields.Goals as goal

pub loop-i-init : goal.loop-i-init
loop-i-init c =
    let a = c.args in
    let none = fields_none a.figures in
    (omega (arith, ap length none), refl, stored_none a.buffer.now a.at ∙ ap (stored a.buffer.now a.at) (sym none))

pub put_field-place-requires : goal.put_field-place-requires
put_field-place-requires c =
    let a = c.args in
    omega (arith, fields_within c.loop-i.i a.count a.figures c.loop-i-test.true, c.loop-i.invariant.1)

pub loop-i-preserved : goal.loop-i-preserved
loop-i-preserved c =
    let a = c.args in
    let l = c.loop-i in
    let e = c.put_field-place.ensures in (
      omega (arith, length_fields l.i a.figures),
      c.put_field-place.auto.buffer ∙ l.invariant.1,
      put_fields a.buffer.now _ _ a.at l.place l.i a.figures l.invariant.2 l.invariant.0 e.1,
    )
