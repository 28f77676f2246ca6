-- `settling_counts::sides::is_due_in` meets its contract. Assumes nothing.
use Rattle.std.proofs.Common.{arith}
use Rattle.std.proofs.lemmas.Grind.{common_steps}
use Rattle.laws.specs.Walk.{is_due_in}
use Rattle.settling_counts.proofs.sides.is_due_in.Goals as goal

pub returns-then-security_of-security : goal.returns-then-security_of-security
unfolding is_due_in
returns-then-security_of-security c = grind (arith, common_steps)

pub returns-else-security_of-security : goal.returns-else-security_of-security
unfolding is_due_in
returns-else-security_of-security c = grind (arith, common_steps)
