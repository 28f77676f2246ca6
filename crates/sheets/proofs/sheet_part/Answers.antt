-- `sheets::sheet_part` meets its contract: the part is the sheet that `sheet_of` has put there. Assumes nothing.
use mathlib.Core.Path.{refl, sym}
use lib.Seq.{length-take-le}
use Rattle.sheets.specs.Sheets.{part_is, part_within}
use Rattle.sheets.proofs.sheet_part.Goals as goal

pub slice_bounds-result-end : goal.slice_bounds-result-end
slice_bounds-result-end c =
    let a = c.args in
    sym (length-take-le _ _ (part_within a.file.now a.buffer.now _ _ c.sheet_of-size.ensures))

pub returns : goal.returns
returns c =
    let a = c.args in
    (part_is a.file.now a.buffer.now _ _ c.sheet_of-size.ensures, refl)
