-- `parts::taking::part_of` meets its contract. Assumes nothing.
use Rattle.std.proofs.Common.{rules}
use Rattle.rules.specs.Parts.{part_money}
use Rattle.parts.proofs.taking.part_of.Goals as goal

pub returns : goal.returns
unfolding part_money
returns c = search rules
