-- `calls::entries::amend` meets its contract: a refusal, acceptance. Assumes nothing.
use Rattle.laws.specs.SoundBytes.{is_sound, accepted}
use Rattle.calls.specs.Entries.{few_entries, list_fits}
use Rattle.calls.proofs.Refused.{call_refused}
use Rattle.calls.proofs.entries.amend.Goals as goal

pub may_amend-requires : goal.may_amend-requires
may_amend-requires c = few_entries _ (is_sound _ c.requires)

pub returns-in_err-may_amend : goal.returns-in_err-may_amend
returns-in_err-may_amend c = call_refused _ c.requires _ _ _ c.from_residual.ensures.1 c.in_err-may_amend.ensures

pub put_amended-requires : goal.put_amended-requires
put_amended-requires c = list_fits _ (is_sound _ c.requires)

pub returns : goal.returns
returns c = accepted _ c.requires _ _ c.in_ok-may_amend.ensures c.put_amended.ensures
