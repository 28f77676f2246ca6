-- `sheet_printer::output::write_whole` meets its contract: each write goes on behind what was written before. Assumes nothing.
use Rattle.std.proofs.Common.{arith, length-drop}
use Rattle.sheet_printer.proofs.Parts.{written_behind}
use Rattle.sheet_printer.proofs.output.write_whole.Goals as goal

pub loop-done-preserved : goal.loop-done-preserved
loop-done-preserved g c =
    let e = c.in_ok-done.ensures in
    (omega (arith, length-drop c.loop-done.done c.args.bytes.now, e.bounds), written_behind _ _ _ _ _ _ c.loop-done.invariant.1 e.bytes)
