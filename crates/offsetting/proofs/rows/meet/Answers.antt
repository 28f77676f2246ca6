-- `offsetting::rows::meet` meets its contract: one store after another makes the meeting (`met_in_lem`). Assumes nothing.
use Rattle.std.proofs.Common.{ap, ap₂, ◌∙◌}
use Rattle.units.specs.declared.Mils.{Mils}
use Rattle.offsetting_meetings.specs.Meeting.{meeting_of}
use Rattle.offsetting.specs.Rows.{met_in_lem}
use Rattle.offsetting.proofs.rows.meet.Goals as goal

pub returns : goal.returns
returns c =
    let read = ap (λ (m : Mils). meeting_of m c.position_at.result c.position_at-2.result) c.charge_at.ensures ∙ ap₂ (meeting_of _) c.position_at.ensures c.position_at-2.ensures in
    met_in_lem _ _ _ _ c.args.i c.args.j c.args.at _ (c.meeting-met.ensures ∙ read) c.put_position.ensures.1 c.put_position-2.ensures.1 c.put_charge.ensures.1
