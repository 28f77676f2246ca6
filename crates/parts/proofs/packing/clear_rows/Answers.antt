-- `parts::packing::clear_rows` meets its contract. The loop's invariant: the rows from `from` up to i are zero. Assumes nothing.
use Rattle.std.proofs.Common.{arith, refl, sym, ◌∙◌}
use Rattle.book.specs.Views.{positions_long}
use Rattle.parts.specs.Packing.{clearing_start, clearing_more}
use Rattle.parts.proofs.packing.clear_rows.Goals as goal

pub loop-i-init : goal.loop-i-init
loop-i-init c = clearing_start _ _ (positions_long _) _ c.told-b refl

pub loop-i-preserved : goal.loop-i-preserved
loop-i-preserved c =
    let l = c.loop-i in
    clearing_more _ _ (positions_long _) _ _ l.i (omega arith) l.invariant (c.put_position.array_long ∙ sym l.invariant.long) c.put_position.ensures.1
