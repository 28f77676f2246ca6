-- `sheet::refused::put_refused` meets its contract: its two lines, one behind the other. Assumes nothing.
use Rattle.sheet.specs.Refused.{ready_first, ready_last, put_both}
use Rattle.sheet.proofs.refused.put_refused.Goals as goal

pub put_one-first-requires : goal.put_one-first-requires
put_one-first-requires c = ready_first _ c.requires

pub put_one-last-requires : goal.put_one-last-requires
put_one-last-requires c =
    let first = c.put_one-first in
    ready_last _ c.requires _ _ _ first.auto.buffer first.ensures

pub returns : goal.returns
returns c =
    let first = c.put_one-first.ensures in
    put_both _ _ _ _ _ c.requires first c.put_one-last.ensures
