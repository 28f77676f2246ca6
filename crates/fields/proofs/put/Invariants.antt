-- `fields::put` meets its contract: the stores that are left, of the digits that are left, make what the contract says.
use Rattle.std.proofs.Common.{◌≡◌}
use Rattle.fields.specs.Field.{digits, stored}
use Rattle.fields.proofs.put.Given as goal

abbrev pub invariant-loop-i : goal.invariant-loop-i
invariant-loop-i l = stored l.b l.at (digits l.i l.rest) ≡ stored l.initial.b l.at (digits l.w l.x)
