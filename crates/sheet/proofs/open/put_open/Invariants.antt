-- `sheet::open::put_open` meets its contract: the lines from one position on are left. Assumes nothing.
use Rattle.std.proofs.Common.{◌≡◌, map, length}
use Rattle.rules.specs.Sheet.{open_line}
use Rattle.sheet.specs.Written.{Going}
use Rattle.sheet.specs.BookLines.{open_left}
use Rattle.sheet.proofs.open.put_open.Given as goal

abbrev pub invariant-loop-p : goal.invariant-loop-p
invariant-loop-p l =
    (length l.buffer ≡ length l.initial.buffer)
    × Going l.write l.initial.buffer l.initial.tally (map open_line l.positions) l.buffer l.tally (open_left l.positions l.p-index)
