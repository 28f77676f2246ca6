-- `wickdamson::prices::wick_price` meets its contract: refused, or the entry of four bytes. Assumes nothing.
use mathlib.Core.Path.{sym, ap, ◌∙◌}
use native.Mathlib.Omega.{arith}
use lib.ListN.{length}
use Rattle.fields.specs.Field.{field}
use Rattle.wickdamson.specs.Priced.{part_length, no_part}
use Rattle.wickdamson.proofs.prices.wick_price.Goals as goal

pub returns-then-answer-ne0 : goal.returns-then-answer-ne0
returns-then-answer-ne0 c =
    let e = rw c.byte_of-s.ensures at c.price-part.ensures in
    (e.1, no_part _ _ _ (λ z. c.if-answer-ne0.true (e.1 ∙ z)))

pub get-requires : goal.get-requires
get-requires c =
    let e = c.price-part.ensures in
    omega (arith, part_length _ _ _ (sym e.1 ∙ c.if-answer-ne0.false), ap length e.0)

pub returns : goal.returns
returns c =
    let e = rw c.byte_of-s.ensures at c.price-part.ensures in
    (sym c.if-answer-ne0.false ∙ e.1, c.get.ensures.0 ∙ ap (field 4 0) e.0)
