-- `sheets::sheet` meets its contract: a wrong book, a file past 65,535 bytes, any other file. Assumes nothing.
use Rattle.std.proofs.Common.{refl, arith}
use Rattle.sheets.specs.Sheets.{wrong_book, long_file, short_file}
use Rattle.sheets.proofs.sheet.Goals as goal

pub returns-in_default : goal.returns-in_default
returns-in_default c = wrong_book _ _ _ _ _ c.in_default.ensures.cases refl refl

pub returns-then-file-gt65535 : goal.returns-then-file-gt65535
returns-then-file-gt65535 c =
    let lent = c.in-Some.ensures.cases in
    rw lent.same (long_file _ _ _ _ _ lent.long _ (omega arith) c.refused_sheet.ensures)

pub returns : goal.returns
returns c =
    let lent = c.in-Some.ensures.cases in
    short_file _ _ _ _ _ lent.long _ (omega arith) _ (rw lent.same at c.played_sheet.ensures)
