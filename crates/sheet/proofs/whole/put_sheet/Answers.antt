-- `sheet::whole::put_sheet` meets its contract: the walk that writes. Assumes nothing.
use Rattle.sheet.specs.Whole.{width_is, bytes_are}
use Rattle.sheet.proofs.whole.put_sheet.Goals as goal

pub put_lines-tally-requires : goal.put_lines-tally-requires
put_lines-tally-requires c = (c.requires.0, λ _. c.requires.1)

pub returns : goal.returns
returns c =
    let e = c.put_lines-tally.ensures in
    (width_is _ _ _ _ _ _ e, bytes_are _ _ _ _ _ c.requires.1 e)
