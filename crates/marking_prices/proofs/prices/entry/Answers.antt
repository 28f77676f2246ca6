-- `marking_prices::prices::entry` meets its contract. Assumes nothing.
use Rattle.std.proofs.Common.{rules}
use Rattle.rules.specs.Prices.{entry_of}
use Rattle.marking_prices.proofs.prices.entry.Goals as goal

pub returns : goal.returns
unfolding entry_of
returns c = search rules
