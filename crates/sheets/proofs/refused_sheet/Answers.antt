-- `sheets::refused_sheet` meets its contract: the sheet of a refused file fits, or it does not. Assumes nothing.
use Rattle.std.proofs.Common.{refl, arith}
use Rattle.rules.specs.Words.{each}
use Rattle.rules.specs.Sheet.{text_of, refused_sheet}
use Rattle.sheets.specs.Sheets.{print_narrow, print_wide}
use Rattle.sheets.proofs.refused_sheet.Goals as goal

pub returns-then-buffer-refused_width : goal.returns-then-buffer-refused_width
returns-then-buffer-refused_width c = print_narrow (each text_of refused_sheet) _ _ _ (omega (arith, c.if-buffer-refused_width.true, c.refused_width.ensures)) refl refl

pub put_refused-requires : goal.put_refused-requires
put_refused-requires c = omega (arith, c.if-buffer-refused_width.false, c.refused_width.ensures)

pub returns : goal.returns
returns c =
    let put = c.put_refused.ensures in
    print_wide (each text_of refused_sheet) _ _ _ (omega (arith, c.if-buffer-refused_width.false, c.refused_width.ensures)) refl put.0 _ put.1
