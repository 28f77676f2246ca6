-- `parts::packing::move_up` meets its contract. The loop's invariant: of the first i rows those that remain stand in front, and the others are as
-- they were. Assumes nothing.
use Rattle.std.proofs.Common.{arith, refl, sym, ◌∙◌}
use Rattle.rules.specs.Layout.{book_of}
use Rattle.rules.specs.Roll.{remains}
use Rattle.book.specs.Views.{positions_long}
use Rattle.parts.specs.Packing.{moving_start, moving_row, moving_gone, moving_same, moving_up, moving_end}
use Rattle.parts.proofs.packing.move_up.Goals as goal
use Rattle.parts.proofs.packing.move_up.Goals.{then-kept-i, else-kept-i}

pub loop-i-init : goal.loop-i-init
loop-i-init c = moving_start _ (positions_long _) c.requires _ c.told-b refl

-- a record that goes

pub loop-i-preserved-then-not-nonzero_if_due : goal.loop-i-preserved-then-not-nonzero_if_due
unfolding remains
loop-i-preserved-then-not-nonzero_if_due c =
    let l = c.loop-i in
    let here = moving_row (book_of c.args.b.now) (positions_long _) c.requires _ _ l.i (omega arith) l.invariant _ c.position_at-p.ensures in
    moving_gone _ (positions_long _) c.requires _ _ l.i (omega arith) l.invariant (cc)

-- one that moves up, or keeps its place

pub loop-i-preserved : goal.loop-i-preserved
unfolding remains
loop-i-preserved c =
    let l = c.loop-i in
    let here = moving_row (book_of c.args.b.now) (positions_long _) c.requires _ _ l.i (omega arith) l.invariant _ c.position_at-p.ensures in
    elim c.if-kept-i.branch [
      | then-kept-i w ↦ moving_up _ (positions_long _) c.requires _ _ l.i (omega arith) l.invariant (cc) _ _ (c.if-kept-i.array_long ∙ sym l.invariant.long) here (cc)
      | else-kept-i w ↦ rw w.b-is (moving_same _ (positions_long _) c.requires _ _ l.i (omega arith) l.invariant (cc) (omega arith))
    ]

pub returns : goal.returns
returns c = moving_end _ (positions_long _) c.requires _ _ c.loop-i.i (omega arith) c.loop-i.invariant
