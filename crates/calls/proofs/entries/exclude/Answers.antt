-- `calls::entries::exclude` meets its contract: a refusal, acceptance. Assumes nothing.
use Rattle.laws.specs.SoundBytes.{is_sound, accepted}
use Rattle.calls.specs.Entries.{few_entries, list_fits}
use Rattle.calls.proofs.Refused.{call_refused}
use Rattle.calls.proofs.entries.exclude.Goals as goal

pub may_exclude-requires : goal.may_exclude-requires
may_exclude-requires c = few_entries _ (is_sound _ c.requires)

pub returns-in_err-may_exclude : goal.returns-in_err-may_exclude
returns-in_err-may_exclude c = call_refused _ c.requires _ _ _ c.from_residual.ensures.1 c.in_err-may_exclude.ensures

pub put_excluded-requires : goal.put_excluded-requires
put_excluded-requires c = list_fits _ (is_sound _ c.requires)

pub returns : goal.returns
returns c = accepted _ c.requires _ _ c.in_ok-may_exclude.ensures c.put_excluded.ensures
