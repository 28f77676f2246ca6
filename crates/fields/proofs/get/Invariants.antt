-- `fields::get` meets its contract: after i turns x is the number in the first i bytes.
use Rattle.std.proofs.Common.{◌≡◌}
use Rattle.fields.specs.Field.{field}
use Rattle.fields.proofs.get.Given as goal

abbrev pub invariant-loop-i : goal.invariant-loop-i
invariant-loop-i l = l.x ≡ field l.i l.at l.b
