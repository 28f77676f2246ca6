-- `calls::entries::enter` meets its contract: a refusal, acceptance. Assumes nothing.
use Rattle.std.proofs.Common.{sym}
use Rattle.laws.specs.SoundBytes.{is_sound, accepted}
use Rattle.calls.specs.Entries.{few_entries, enter_asks}
use Rattle.calls.proofs.Refused.{call_refused}
use Rattle.calls.proofs.entries.enter.Goals as goal

pub may_enter-requires : goal.may_enter-requires
may_enter-requires c = few_entries _ (is_sound _ c.requires)

pub returns-in_err-may_enter : goal.returns-in_err-may_enter
returns-in_err-may_enter c = call_refused _ c.requires _ _ _ c.from_residual.ensures.1 c.in_err-may_enter.ensures

pub put_entered-requires : goal.put_entered-requires
put_entered-requires c = enter_asks _ _ (is_sound _ c.requires) (sym c.in_ok-may_enter.ensures)

pub returns : goal.returns
returns c = accepted _ c.requires _ _ c.in_ok-may_enter.ensures c.put_entered.ensures
