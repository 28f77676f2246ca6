-- `marking_sums::conversion::converted_total` meets its contract. The total is that of the currencies before c. Assumes nothing.
use Rattle.std.specs.Prelude.{◌≡◌, take}
use Rattle.exact.specs.Rounding.{capped}
use Rattle.rules.specs.Words as words
use Rattle.rules.specs.Bounds.{every_currency}
use Rattle.marking_sums.specs.Converting.{converted_in}
use Rattle.marking_sums.proofs.conversion.converted_total.Given as goal

abbrev pub invariant-loop-c : goal.invariant-loop-c
invariant-loop-c l = l.total ≡ capped (words.total (converted_in l.side l.t.sums l.rates l.haircuts) (take l.c every_currency))
