-- `sheets::sheet_of` meets its contract: no sheet is longer than the buffer, so that none is refused. Assumes nothing.
use Rattle.std.proofs.Common.{rules, ◌≡◌, ◌∙◌}
use Rattle.rules.specs.Refusals.{value_or}
use Rattle.sheets.specs.Sheets.{whole_sheet_lem}
use Rattle.sheets.proofs.sheet_of.Goals as goal

pub returns : goal.returns
returns c =
    let whole = whole_sheet_lem _ _ _ _ _ _ _ c.sheet.ensures (record { byte = λ i. (c.type_inv.file i).fits }) (search rules) c.requires in
    let size : c.unwrap_or.result ≡ value_or 0 c.sheet.result = search rules in
    (size ∙ whole.0, whole.1)
