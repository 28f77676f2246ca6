-- `units_rounded::conversion::unfavourable` meets its contract. Assumes nothing.
use Rattle.std.proofs.Common.{◌+◌, zero-le, sym, ap, ◌∙◌, arith}
use Rattle.exact.specs.Rounding.{capped, capped_whole}
use Rattle.units_rounded.specs.ConversionLaws.{factor_le, unfavourable_none, unfavourable_is}
use Rattle.units_rounded.proofs.conversion.unfavourable.Goals as goal

pub overflow_mul-factor : goal.overflow_mul-factor
overflow_mul-factor c = omega (arith, factor_le (10000 + c.args.haircut) c.args.rate (omega arith) (omega arith))

pub returns-then-is_negative : goal.returns-then-is_negative
returns-then-is_negative c =
    let some = unfavourable_is _ _ _ (sym c.is_negative.ensures ∙ c.if-is_negative.true) in
    rw c.size.ensures at c.scaled_up.ensures ∙ ap capped some

pub returns : goal.returns
returns c =
    let none = unfavourable_none _ _ _ (sym c.is_negative.ensures ∙ c.if-is_negative.false) in
    sym (ap capped none ∙ capped_whole 0 zero-le)
