-- `marking_sums::conversion::capped_sum` meets its contract. Assumes nothing.
use Rattle.std.proofs.Common.{sym, arith}
use Rattle.exact.specs.Rounding.{capped_whole, capped_past}
use Rattle.marking_sums.proofs.conversion.capped_sum.Goals as goal

pub returns-then-x-gt-LIMIT : goal.returns-then-x-gt-LIMIT
returns-then-x-gt-LIMIT c = sym (capped_past _ (omega arith))

pub returns-then-y-x : goal.returns-then-y-x
returns-then-y-x c = sym (capped_past _ (omega arith))

pub returns : goal.returns
returns c = sym (capped_whole _ (omega arith))
