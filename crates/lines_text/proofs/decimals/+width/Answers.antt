-- `lines_text::decimals::width` meets its contract: a number of 64 bits has at most 20 digits. Assumes nothing.
use Rattle.std.proofs.Common.{sym, arith}
use Rattle.lines_text.specs.Digits.{length_small, length_more, length_u64}
use Rattle.lines_text.proofs.decimals.+width.Goals as goal

pub returns-then-n-ge10 : goal.returns-then-n-ge10
returns-then-n-ge10 t c = omega (arith, length_more _ c.if-n-ge10.true, length_u64 _ c.ranges.n.fits)

pub returns : goal.returns
returns t c = (sym (length_small _ c.if-n-ge10.false), omega arith)
