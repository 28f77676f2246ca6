-- `settling_counts::counts::wanted_of` meets its contract. The loop's invariant: the sum and what the records from i on want make the whole.
-- Assumes nothing.
use Rattle.std.proofs.Common.{arith}
use Rattle.laws.specs.SoundRun.{sound_runnable}
use Rattle.rules.specs.Layout.{book_of}
use Rattle.book.specs.Views.{positions_long}
use Rattle.settling_counts.specs.Counting.{wanting_start, wanting_more, wanting_fits, wanting_end}
use Rattle.settling_counts.proofs.counts.wanted_of.Goals as goal

pub loop-i-init : goal.loop-i-init
loop-i-init c = wanting_start _ _ c.requires (positions_long _)

pub position_at-requires : goal.position_at-requires
position_at-requires c = omega (arith, (sound_runnable (book_of c.args.b.now) c.requires).few)

pub overflow_add-sum : goal.overflow_add-sum
overflow_add-sum c =
    let l = c.loop-i in
    omega (arith, wanting_fits (book_of c.args.b.now) c.args.security c.requires (positions_long _) l.sum l.i c.wants_of-sum.result.0 (omega arith) l.invariant (cc))

pub loop-i-preserved : goal.loop-i-preserved
loop-i-preserved c = wanting_more _ _ c.requires (positions_long _) _ c.loop-i.i _ (omega arith) c.loop-i.invariant (cc)

pub returns : goal.returns
returns c = wanting_end _ _ c.requires (positions_long _) _ c.loop-i.i (omega arith) c.loop-i.invariant
