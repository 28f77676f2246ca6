-- `sheets::sheet_in` meets its contract: a file is played in a room, and its sheet written. Assumes nothing.
use Rattle.std.proofs.Common.{rules}
use Rattle.sheets.specs.Sheets.{room_enough, played_room}
use Rattle.sheets.proofs.sheet_in.Goals as goal

pub play_records-requires : goal.play_records-requires
play_records-requires c = room_enough _ (search rules) _ (search rules)

pub put_played-requires : goal.put_played-requires
put_played-requires c =
    let e = c.play_records.ensures in
    (search rules, played_room _ _ _ _ _ (search rules) (search rules) (search rules) e.0 e.1)
