-- `offsetting::walk::offset_rows` meets its contract. Both loops' invariants say that what is left to do from here comes to what the rule
-- comes to: `Outside` between two newly due rows; `Inside` while row i meets the older ones, kept for whatever book the walk began with. Assumes
-- nothing.
use Rattle.std.proofs.Common.{◌-◌}
use Rattle.rules.specs.Layout.{book_of}
use Rattle.offsetting.specs.Walk.{Walking}
use Rattle.offsetting.specs.Bytes.{Outside, Inside}
use Rattle.offsetting.proofs.walk.offset_rows.Given as goal

abbrev pub invariant-older : goal.invariant-older
invariant-older l = (w : Walking) → Inside (book_of l.fn.b) l.older l.i l.fresh l.at l.older w l.initial.b → Inside (book_of l.fn.b) l.older l.i l.fresh l.at (l.older - l.j) w l.b

abbrev pub invariant-newly : goal.invariant-newly
invariant-newly l = Outside (book_of l.initial.b) l.older l.due l.i l.b
