-- `units_rounded::parts::part` meets its contract. Assumes nothing.
use Rattle.std.proofs.Common.{◌≡◌, ◌*◌, ◌/◌, nat_abs, arith}
use Rattle.units.specs.Units.{shares_of, mils_of}
use Rattle.units_rounded.proofs.PartLaws.{part_signed}
use Rattle.units_rounded.proofs.parts.part.Goals as goal
use Rattle.units_rounded.proofs.parts.part.Goals.{After-portion-s}

-- the size of the part
portioned : (c : After-portion-s) → c.portion-s.result.0 ≡ nat_abs (mils_of c.args.m) * nat_abs (shares_of c.args.k) / nat_abs (shares_of c.args.q)
portioned c =
    rw (← c.size.ensures, ← c.size-2.ensures, ← c.size-3.ensures)
    c.portion-s.ensures.0

pub returns : goal.returns
returns c = (rw (part_signed _ _ _, ← portioned (goal.at.returns c).After-portion-s, ← c.is_negative.ensures) c.of.ensures.0, omega arith)
