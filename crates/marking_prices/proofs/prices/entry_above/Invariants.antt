-- `marking_prices::prices::entry_above` meets its contract. The entries before s are none of them too high. Assumes nothing.
use Rattle.std.specs.Prelude.{◌≡◌, false, take}
use Rattle.rules.specs.Words.{any}
use Rattle.rules.specs.Bounds.{every_security}
use Rattle.marking_prices.specs.Pricing.{high_at}
use Rattle.marking_prices.proofs.prices.entry_above.Given as goal

abbrev pub invariant-loop-s : goal.invariant-loop-s
invariant-loop-s l = any (high_at l.table) (take l.s every_security) ≡ false
