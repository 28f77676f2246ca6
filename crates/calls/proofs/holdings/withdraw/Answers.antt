-- `calls::holdings::withdraw` meets its contract: a refusal, acceptance. Assumes nothing.
use Rattle.std.proofs.Common.{sym, ap, ◌∙◌, arith}
use Rattle.rules.specs.Book.{holding_at, held_by}
use Rattle.rules.specs.Layout.{bytes_of}
use Rattle.laws.specs.Accepted.{may_withdraw}
use Rattle.laws.specs.SoundBytes.{accepted}
use Rattle.calls.specs.Holdings.{place_below, withdrawn}
use Rattle.calls.proofs.Refused.{call_refused}
use Rattle.calls.proofs.holdings.withdraw.Goals as goal

pub returns-in_err-may_withdraw : goal.returns-in_err-may_withdraw
returns-in_err-may_withdraw c = call_refused _ c.requires _ _ _ c.from_residual.ensures.1 c.in_err-may_withdraw.ensures

pub holding_at-held-requires : goal.holding_at-held-requires
holding_at-held-requires c = omega (arith, place_below _ _ _ _ (may_withdraw _ _ _ _ (sym c.in_ok-may_withdraw.ensures)).0)

pub overflow_sub-held : goal.overflow_sub-held
unfolding held_by holding_at
overflow_sub-held c = omega (arith, rw c.place_of-at.ensures at c.holding_at-held.ensures, (may_withdraw _ _ _ _ (sym c.in_ok-may_withdraw.ensures)).1)

pub put_holding-requires : goal.put_holding-requires
put_holding-requires c = omega (arith, place_below _ _ _ _ (may_withdraw _ _ _ _ (sym c.in_ok-may_withdraw.ensures)).0)

pub returns : goal.returns
returns c =
    accepted _ c.requires _ _ c.in_ok-may_withdraw.ensures
    (c.put_holding.ensures.0 ∙ ap bytes_of (rw c.place_of-at.ensures (withdrawn _ _ _ _ _ (rw c.place_of-at.ensures at c.holding_at-held.ensures))))
