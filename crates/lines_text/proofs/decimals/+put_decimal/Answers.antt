-- `lines_text::decimals::put_decimal` meets its contract: the last digit is stored behind those of n / 10. Assumes nothing.
use Rattle.std.proofs.Common.{◌≤◌, arith}
use Rattle.lines_text.specs.Digits.{length_small, length_more, put_small, put_more}
use Rattle.lines_text.proofs.decimals.+put_decimal.Goals as goal

pub bounds-buffer-at : goal.bounds-buffer-at
bounds-buffer-at t c = omega (arith, length_small c.args.n (omega arith))

pub returns-then-n-lt10 : goal.returns-then-n-lt10
returns-then-n-lt10 t c = (omega (arith, length_small c.args.n (omega arith)), put_small _ _ c.args.n (omega arith))

pub put_decimal-place-requires : goal.put_decimal-place-requires
put_decimal-place-requires t c = (omega arith, omega (arith, length_more c.args.n (omega arith)))

pub bounds-buffer-place : goal.bounds-buffer-place
bounds-buffer-place t c =
    let others = c.put_decimal-place in
    omega (arith, others.ensures.0, others.auto.buffer, length_more c.args.n (omega arith))

pub overflow_add-result-2 : goal.overflow_add-result-2
overflow_add-result-2 t c = omega (arith, c.put_decimal-place.ensures.0, length_more c.args.n (omega arith))

pub returns : goal.returns
returns t c =
    let e = c.put_decimal-place.ensures in
    let h : 10 ≤ c.args.n = omega arith in
    (omega (arith, length_more c.args.n h), put_more _ _ _ _ c.args.n h e.1 e.0)
