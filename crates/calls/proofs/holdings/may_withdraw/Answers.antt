-- `calls::holdings::may_withdraw` meets its contract: the shared tests, then what the account holds. Assumes nothing.
use Rattle.std.proofs.Common.{◌∙◌, arith}
use Rattle.rules.specs.Book.{holding_at, held_by}
use Rattle.calls.specs.Holdings.{common_passed, withdrawal_stops, withdrawal_over, withdrawal_fine}
use Rattle.laws.specs.RefusalNumbers.{number_some}
use Rattle.calls.proofs.Refused.{handed_on}
use Rattle.calls.proofs.holdings.may_withdraw.Goals as goal

pub returns-in_err-common_fits : goal.returns-in_err-common_fits
returns-in_err-common_fits c = handed_on _ _ c.from_residual.ensures.1 ∙ withdrawal_stops _ _ _ _ _ c.in_err-common_fits.ensures (number_some _)

pub holding_at-held-requires : goal.holding_at-held-requires
holding_at-held-requires c = let p = common_passed _ _ _ _ c.in_ok-common_fits.ensures in omega arith

pub returns-then-quantity-held : goal.returns-then-quantity-held
unfolding held_by holding_at
returns-then-quantity-held c = withdrawal_fine _ _ _ _ c.in_ok-common_fits.ensures (rw (← c.place_of.ensures, ← c.holding_at-held.ensures) (omega arith))

pub returns : goal.returns
unfolding held_by holding_at
returns c = withdrawal_over _ _ _ _ c.in_ok-common_fits.ensures (rw (← c.place_of.ensures, ← c.holding_at-held.ensures) (omega arith))
