-- `marking_sums::conversion::converted_total` meets its contract. The total is that of the currencies before c. Assumes nothing.
use Rattle.std.proofs.Common.{ap, ◌∙◌, arith}
use Rattle.exact.specs.Rounding.{capped}
use Rattle.marking_sums.specs.Converting.{converted_in, converted_sum_is, total_none, total_more, total_done}
use Rattle.marking_sums.proofs.conversion.converted_total.Goals as goal

pub loop-c-init : goal.loop-c-init
loop-c-init c = total_none _

pub loop-c-preserved : goal.loop-c-preserved
loop-c-preserved c =
    let l = c.loop-c in
    let a = c.args in
    total_more (converted_in a.side a.t.sums a.rates.now a.haircuts.now) l.c l.total _ _ (omega arith) l.invariant c.converted.ensures c.sum_of-total.ensures

pub returns : goal.returns
returns c =
    let l = c.loop-c in
    let a = c.args in
    total_done (converted_in a.side a.t.sums a.rates.now a.haircuts.now) l.c l.total (omega arith) l.invariant
    ∙ ap capped (converted_sum_is a.side a.t.sums a.rates.now a.haircuts.now)
