-- `calls::holdings::may_deposit` meets its contract: the shared tests, then the total. Assumes nothing.
use Rattle.std.proofs.Common.{sym, ◌∙◌, arith}
use Rattle.calls.specs.Holdings.{common_passed, deposit_stops, deposit_over, deposit_fine}
use Rattle.laws.specs.RefusalNumbers.{number_some}
use Rattle.calls.proofs.Refused.{handed_on}
use Rattle.calls.proofs.holdings.may_deposit.Goals as goal

pub returns-in_err-common_fits : goal.returns-in_err-common_fits
returns-in_err-common_fits c = handed_on _ _ c.from_residual.ensures.1 ∙ deposit_stops _ _ _ _ _ c.in_err-common_fits.ensures (number_some _)

pub overflow_sub-most : goal.overflow_sub-most
overflow_sub-most c = omega (arith, common_passed _ _ _ _ c.in_ok-common_fits.ensures)

pub total_fits-requires : goal.total_fits-requires
total_fits-requires c = (common_passed _ _ _ _ c.in_ok-common_fits.ensures).1.0

pub returns-then-not-total_fits : goal.returns-then-not-total_fits
returns-then-not-total_fits c =
    let p = common_passed _ _ _ _ c.in_ok-common_fits.ensures in
    deposit_over _ _ _ _ _ c.in_ok-common_fits.ensures (omega arith) (sym c.total_fits.ensures ∙ c.if-not-total_fits.true)

pub returns : goal.returns
returns c =
    let p = common_passed _ _ _ _ c.in_ok-common_fits.ensures in
    deposit_fine _ _ _ _ _ c.in_ok-common_fits.ensures (omega arith) (sym c.total_fits.ensures ∙ c.if-not-total_fits.false)
