-- `marking_sums::marks::with_record` meets its contract. Assumes nothing.
use Rattle.std.proofs.Common.{sym, ◌∙◌}
use Rattle.marking_sums.specs.Summing.{with_mark_lem}
use Rattle.marking_sums.proofs.marks.with_record.Goals as goal

pub returns : goal.returns
returns c =
    with_mark_lem c.args.t c.args.codes.now _ c.args.p _ _ c.mark.result c.plus.result
    (sym c.account_of-own.ensures.0 ∙ c.if-own-account.false) c.currency_of-c.ensures.0 c.mark.ensures.0 c.plus.ensures.0
