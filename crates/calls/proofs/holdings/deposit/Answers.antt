-- `calls::holdings::deposit` meets its contract: a refusal, acceptance. Assumes nothing.
use Rattle.std.proofs.Common.{ℕ, get_or, sym, ap, ◌∙◌, arith}
use Rattle.rules.specs.Layout.{book_of, bytes_of}
use Rattle.book.specs.Views.{holdings_long}
use Rattle.laws.specs.Accepted.{may_deposit}
use Rattle.laws.specs.SoundBytes.{is_sound, accepted}
use Rattle.calls.specs.Holdings.{place_below, entry_small, deposited}
use Rattle.calls.proofs.Refused.{call_refused}
use Rattle.calls.proofs.holdings.deposit.Goals as goal

pub may_deposit-requires : goal.may_deposit-requires
may_deposit-requires c = is_sound _ c.requires

pub returns-in_err-may_deposit : goal.returns-in_err-may_deposit
returns-in_err-may_deposit c = call_refused _ c.requires _ _ _ c.from_residual.ensures.1 c.in_err-may_deposit.ensures

pub holding_at-held-requires : goal.holding_at-held-requires
holding_at-held-requires c = omega (arith, place_below _ _ _ _ (may_deposit _ _ _ _ (sym c.in_ok-may_deposit.ensures)).0)

pub overflow_add-held : goal.overflow_add-held
overflow_add-held c =
    let m = (may_deposit _ _ _ _ (sym c.in_ok-may_deposit.ensures)).0 in
    let z = m.most in
    omega (
      arith,
      c.holding_at-held.ensures ∙ ap (λ (i : ℕ). get_or (book_of c.args.book.now).holdings i 0) c.place_of-at.ensures,
      entry_small _ _ _ _ (is_sound _ c.requires) m (holdings_long c.args.book.now),
    )

pub put_holding-requires : goal.put_holding-requires
put_holding-requires c = omega (arith, place_below _ _ _ _ (may_deposit _ _ _ _ (sym c.in_ok-may_deposit.ensures)).0)

pub returns : goal.returns
returns c =
    accepted _ c.requires _ _ c.in_ok-may_deposit.ensures
    (c.put_holding.ensures.0 ∙ ap bytes_of (rw c.place_of-at.ensures (deposited _ _ _ _ _ (rw c.place_of-at.ensures at c.holding_at-held.ensures))))
