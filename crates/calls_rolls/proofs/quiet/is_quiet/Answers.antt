-- `calls_rolls::quiet::is_quiet` meets its contract: a trade was entered, there is no record, the last record tells. Assumes nothing.
use Rattle.std.proofs.Common.{sym, ◌∙◌, arith}
use Rattle.laws.specs.SoundParts.{sound_parts}
use Rattle.laws.specs.Blanks.{records_few}
use Rattle.laws.specs.SoundBytes.{shaped, is_sound}
use Rattle.calls_rolls.specs.Quiet.{entered, no_records, last_tells}
use Rattle.calls_rolls.proofs.quiet.is_quiet.Goals as goal

pub returns-then-entries_at-ne0 : goal.returns-then-entries_at-ne0
returns-then-entries_at-ne0 c = entered _ (λ z. c.if-entries_at-ne0.true (c.entries_at.ensures ∙ z))

pub returns-then-records-eq0 : goal.returns-then-records-eq0
returns-then-records-eq0 c = no_records _ (sym c.entries_at.ensures ∙ c.if-entries_at-ne0.false) (sym c.records_at-records.ensures ∙ c.if-records-eq0.true)

pub position_at-last-requires : goal.position_at-last-requires
position_at-last-requires c = omega (arith, c.records_at-records.ensures, records_few _ (sound_parts _ (is_sound _ c.requires)).records, c.if-records-eq0.false)

pub returns : goal.returns
returns c =
    last_tells _ (sym c.entries_at.ensures ∙ c.if-entries_at-ne0.false) (is_sound _ c.requires) (shaped _) _ _ _ _ c.records_at-records.ensures c.if-records-eq0.false
    c.position_at-last.ensures c.due_of.ensures c.day_at.ensures
