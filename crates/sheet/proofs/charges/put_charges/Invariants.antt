-- `sheet::charges::put_charges` meets its contract: the lines from place i on are left. Assumes nothing.
use mathlib.Core.Path.{◌≡◌}
use lib.ListN.{length}
use Rattle.sheet.specs.Written.{Going}
use Rattle.sheet.specs.BookLines.{entry_lines, charges_left}
use Rattle.sheet.proofs.charges.put_charges.Given as goal

abbrev pub invariant-loop-i : goal.invariant-loop-i
invariant-loop-i l =
    (length l.buffer ≡ length l.initial.buffer) × Going l.write l.initial.buffer l.initial.tally (entry_lines l.charges) l.buffer l.tally (charges_left l.charges l.i)
