-- `exact::one_digit` meets its contract. Assumes nothing.
use Rattle.std.proofs.Common.{◌*◌, ◌/◌, ◌%◌, sym, ◌∙◌, mod-lt, ltb-true, ltb-false, arith}
use Rattle.exact.specs.MulDiv.{is_big, is_done, low, carry_small, next, next_is, next_quot}
use Rattle.exact.proofs.one_digit.Goals as goal

pub returns-then-q-gt-LIMIT_BY_DIGIT : goal.returns-then-q-gt-LIMIT_BY_DIGIT
returns-then-q-gt-LIMIT_BY_DIGIT c = is_big _ _ _ (omega (arith, next_quot _ _ _ _ _ c.requires))

pub returns-then-over : goal.returns-then-over
returns-then-over c =
    let a = c.args in
    is_big a.a a.w a.d (omega (arith, next_quot _ _ _ _ _ c.requires, ltb-true 9000000000000000000 (a.w % 65536 * (a.a / a.d)) (sym c.over.ensures ∙ c.if-over.true)))

pub overflow_add-v-2 : goal.overflow_add-v-2
overflow_add-v-2 c =
    let a = c.args in
    omega (arith, carry_small _ _ _ _ _ c.requires, ltb-false 9000000000000000000 (a.w % 65536 * (a.a / a.d)) (sym c.over.ensures ∙ c.if-over.false))

pub returns-then-v-gt-LIMIT : goal.returns-then-v-gt-LIMIT
returns-then-v-gt-LIMIT c = is_big _ _ _ (omega (arith, next_quot _ _ _ _ _ c.requires))

pub returns : goal.returns
returns c =
    let a = c.args in
    let h = c.requires in
    is_done a.a a.w a.d (next _ _ _ _ _ h) (low _ _ _ _ _ h % a.d) h.some (next_is _ _ _ _ _ h) (mod-lt (low _ _ _ _ _ h) h.some) c.if-v-gt-LIMIT.false
