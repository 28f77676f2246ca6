-- `sheet_printer::input::read_whole` meets its contract: each read goes behind what was read before. Assumes nothing.
use Rattle.std.proofs.Common.{rules}
use Rattle.sheet_printer.proofs.Parts.{read_behind}
use Rattle.sheet_printer.proofs.input.read_whole.Goals as goal

pub loop-done-preserved : goal.loop-done-preserved
loop-done-preserved g c =
    let e = c.in-Ok.ensures in
    (e.bounds, search rules, read_behind _ _ _ _ _ _ _ c.loop-done.invariant.2 e.kept e.bytes)
