-- `lines::calls::put_counted` meets its contract: a refused line alters nothing, any other stands at the front. Assumes nothing.
use Rattle.std.proofs.Common.{rules, ◌∙◌, length, arith, sym}
use Rattle.laws.specs.RefusalNumbers.{number_some}
use Rattle.lines.specs.Counting.{answer_fits, bytes_yes, bytes_no}
use Rattle.lines.proofs.calls.put_counted.Goals as goal

pub returns-in_err-next : goal.returns-in_err-next
returns-in_err-next c =
    let a = c.args in
    let e = c.in_err-next.ensures in
    (search rules, search rules, bytes_no a.buffer.now a.l a.tally (λ z. number_some c.in_err-next.field-0.0 (e.0 ∙ z)))

pub put_line-requires : goal.put_line-requires
put_line-requires c = omega (arith, answer_fits (length c.args.buffer.now) c.args.l c.args.tally (sym c.in_ok-next.ensures.0))

pub returns : goal.returns
returns c =
    let a = c.args in
    let e = c.in_ok-next.ensures in
    (e.0, e.1, c.put_line.ensures.1 ∙ bytes_yes a.buffer.now a.l a.tally (sym e.0))
