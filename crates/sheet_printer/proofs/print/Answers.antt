-- `sheet_printer::print` meets its contract: at 0 no read failed, so that what was read is the input, up to 65,536 bytes of it, and its sheet was
-- written whole. Assumes nothing.
use Rattle.std.proofs.Common.{rules}
use Rattle.rules.specs.Sheet.{sheet_of}
use Rattle.sheet_printer.proofs.Parts.{first_written}
use Rattle.sheet_printer.proofs.print.Goals as goal
use Rattle.sheet_printer.proofs.print.Goals.{in-Ok, in-Err}

pub returns-clause-whole : goal.returns-clause-whole
returns-clause-whole g c = λ _.
    elim c.match-read_whole.branch [
      | in-Ok w ↦ (let r = w.in-Ok.ensures in
          first_written _ _ _ _ _ sheet_of _ _ c.read_whole.auto.buf r.bounds.0 r.bytes r.whole (let f = w.file-is in search rules))
      | in-Err w ↦ cc (rw w.file-is at c.if-is_none.ensures)
    ]
