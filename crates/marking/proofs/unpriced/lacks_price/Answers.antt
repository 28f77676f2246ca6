-- `marking::unpriced::lacks_price` meets its contract. Assumes nothing.
use Rattle.std.proofs.Common.{arith}
use Rattle.std.proofs.lemmas.Grind.{common_steps}
use Rattle.rules.specs.Book.{is_zero}
use Rattle.rules.specs.Prices.{no_price}
use Rattle.rules.specs.Marks.{lacks_price}
use Rattle.marking.proofs.unpriced.lacks_price.Goals as goal

pub returns-then-wanted : goal.returns-then-wanted
unfolding lacks_price no_price is_zero
returns-then-wanted c = grind (arith, common_steps)

pub returns-else-wanted : goal.returns-else-wanted
unfolding lacks_price no_price is_zero
returns-else-wanted c = grind (arith, common_steps)
