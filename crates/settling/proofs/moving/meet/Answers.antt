-- `settling::moving::meet` meets its contract: one store after another makes the meeting. Assumes nothing.
use Rattle.rules.specs.Book.{with_holdings, with_charges}
use Rattle.book.specs.Replacing.{with_rows}
use Rattle.settling.specs.Meetings.{met_in}
use Rattle.settling.proofs.moving.meet.Goals as goal

pub move_shares-requires : goal.move_shares-requires
unfolding with_rows
move_shares-requires c = (
  c.holding_place-from.ensures.1,
  c.holding_place-to.ensures.1,
  rw (c.put_position-2.ensures.1, c.put_position.ensures.1, c.holding_place-from.ensures.0, c.position_at-giver.ensures) c.requires.held,
  rw (c.put_position-2.ensures.1, c.put_position.ensures.1, c.holding_place-to.ensures.0, c.position_at-receiver.ensures) c.requires.room,
)

pub charge_parts-requires : goal.charge_parts-requires
unfolding with_rows with_holdings
charge_parts-requires c =
    rw (c.move_shares.ensures, c.put_position-2.ensures.1, c.put_position.ensures.1, c.position_at-giver.ensures, c.position_at-receiver.ensures, c.of-part.ensures.1)
    c.requires.charges

pub returns : goal.returns
unfolding with_rows with_holdings with_charges met_in
returns c =
    rw (
      c.charge_parts.ensures,
      c.move_shares.ensures,
      c.put_position-2.ensures.1,
      c.put_position.ensures.1,
      c.rest_of-less.ensures,
      c.rest_of-filled.ensures,
      c.holding_place-from.ensures.0,
      c.holding_place-to.ensures.0,
      c.position_at-giver.ensures,
      c.position_at-receiver.ensures,
      c.of-part.ensures.1,
    )
