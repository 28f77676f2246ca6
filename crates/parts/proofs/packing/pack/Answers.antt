-- `parts::packing::pack` meets its contract. Assumes nothing.
use Rattle.std.proofs.Common.{sym, ap, ◌∙◌}
use Rattle.rules.specs.Layout.{bytes_of}
use Rattle.parts.specs.Packing.{packed_is}
use Rattle.parts.proofs.packing.pack.Goals as goal

pub returns : goal.returns
returns c =
    let e = c.move_up-kept.ensures in
    let is = packed_is _ _ _ _ _ _ c.requires c.records_at-n.ensures e.0 e.1 e.2 c.clear_rows.ensures c.put_records.ensures.1 in
    (c.put_records.ensures.0 ∙ ap bytes_of (sym c.put_records.ensures.1 ∙ is), is)
