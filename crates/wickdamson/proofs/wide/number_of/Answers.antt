-- `wickdamson::wide::number_of` meets its contract: 0 for what is above 65,535, else the number itself. Assumes nothing.
use native.Mathlib.Omega.{arith}
use Rattle.wickdamson.proofs.WideNumbers.{wide_number, narrow_number}
use Rattle.wickdamson.proofs.wide.number_of.Goals as goal

pub returns-then-n-gt65535 : goal.returns-then-n-gt65535
returns-then-n-gt65535 c = wide_number _ (omega arith)

pub returns : goal.returns
returns c = narrow_number _ (omega arith)
