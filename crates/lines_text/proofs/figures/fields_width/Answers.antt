-- `lines_text::figures::fields_width` meets its contract: the size of the fields so far. Assumes nothing.
use Rattle.std.proofs.Common.{arith, sym, ap, length}
use Rattle.lines_text.specs.Placed.{fields_none, length_fields}
use Rattle.lines_text.proofs.figures.fields_width.Goals as goal

pub loop-i-init : goal.loop-i-init
loop-i-init c = (sym (ap length (fields_none _)), omega arith)

pub loop-i-preserved : goal.loop-i-preserved
loop-i-preserved c = let l = c.loop-i in (omega (arith, length_fields l.i c.args.figures), omega arith)
