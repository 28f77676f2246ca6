-- `lines::counting::passes` meets its contract: the room, the lines, the bytes. Assumes nothing.
use Prim.Native.Nat.{◌+◌}
use native.Mathlib.Omega.{arith}
use borrow.Author.Tests.{le-leb, lt-leb}
use Rattle.rules.specs.Bounds.{most_tally}
use Rattle.lines.specs.Counting.{passes}
use Rattle.lines.proofs.counting.passes.Goals as goal

pub returns-then-size-room : goal.returns-then-size-room
unfolding passes
returns-then-size-room c = let a = c.args in rw (lt-leb a.size a.room (omega arith))

pub returns-then-tally-ge1000000 : goal.returns-then-tally-ge1000000
unfolding passes
returns-then-tally-ge1000000 c =
    let a = c.args in
    rw (le-leb a.size a.room (omega arith), lt-leb (a.tally.lines + 1) most_tally (omega arith))

pub returns : goal.returns
unfolding passes
returns c =
    let a = c.args in
    rw (le-leb a.size a.room (omega arith), le-leb (a.tally.lines + 1) most_tally (omega arith))
