-- `wickdamson::wide::byte_of` meets its contract: 255 for what is above it, else the number itself. Assumes nothing.
use native.Mathlib.Omega.{arith}
use Rattle.wickdamson.proofs.WideNumbers.{wide_byte, narrow_byte}
use Rattle.wickdamson.proofs.wide.byte_of.Goals as goal

pub returns-then-n-gt255 : goal.returns-then-n-gt255
returns-then-n-gt255 c = wide_byte _ (omega arith)

pub returns : goal.returns
returns c = narrow_byte _ (omega arith)
