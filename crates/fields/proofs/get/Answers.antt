-- `fields::get` meets its contract: after i turns x is the number in the first i bytes.
use Rattle.std.proofs.Common.{◌≡◌, ap, ◌∙◌, ℕ, List, get_or, refl, arith, w8, Fits}
use Rattle.fields.specs.Field.{field, Bytes}
use Rattle.fields.specs.FieldLaws.{field_more, field_room, field_lt}
use Rattle.fields.proofs.get.Goals as goal

pub loop-i-init : goal.loop-i-init
unfolding field
loop-i-init c = refl

bytes : (b : List ℕ) → ((i : ℕ) → Fits w8 (get_or b i 0)) → Bytes b
bytes b h = record { byte = λ i. omega (arith, h i) }

pub overflow_mul-x : goal.overflow_mul-x
overflow_mul-x c = let a = c.args in omega (arith, field_room c.loop-i.i a.at a.b.now (bytes a.b.now c.type_inv.b) (omega arith))

pub overflow_add-x : goal.overflow_add-x
overflow_add-x c = let a = c.args in omega (arith, field_room c.loop-i.i a.at a.b.now (bytes a.b.now c.type_inv.b) (omega arith))

pub loop-i-preserved : goal.loop-i-preserved
loop-i-preserved c = omega (arith, field_more c.loop-i.i c.args.at c.args.b.now)

pub returns : goal.returns
returns c =
    let a = c.args in
    let e : c.loop-i.i ≡ a.w = omega arith in
    let is : c.loop-i.x ≡ field a.w a.at a.b.now = c.loop-i.invariant ∙ ap (λ (k : ℕ). field k a.at a.b.now) e in
    (is, omega (arith, field_lt a.w a.at a.b.now (bytes a.b.now c.type_inv.b)))
