-- `settling_counts::counts::deliverable_of` meets its contract. The loop's invariant: the sum and what the records from i on give, from what the
-- accounts still hold, make the whole. Assumes nothing.
use Rattle.std.proofs.Common.{arith, sym}
use Rattle.rules.specs.Layout.{book_of}
use Rattle.laws.specs.SoundRun.{sound_runnable}
use Rattle.book.specs.Views.{positions_long, holdings_long}
use Rattle.settling_counts.specs.Holders.{none_deliverable, given_start, given_none, given_more, given_fits, given_end}
use Rattle.settling_counts.proofs.counts.deliverable_of.Goals as goal

-- nothing is held

pub returns-then-none_held : goal.returns-then-none_held
returns-then-none_held c =
    let none = none_deliverable (book_of c.args.b.now) c.args.security c.held_of-held.result c.held_of-held.ensures (cc) in
    (sym none, omega arith)

-- something is

pub loop-i-init : goal.loop-i-init
loop-i-init c = given_start _ _ c.requires.0 c.requires.1 (positions_long _) _ (holdings_long _) c.held_of-held.ensures

pub position_at-p-requires : goal.position_at-p-requires
position_at-p-requires c = omega (arith, (sound_runnable (book_of c.args.b.now) c.requires.0).few)

-- a record that owes nothing

pub loop-i-preserved-then-owed-eq0 : goal.loop-i-preserved-then-owed-eq0
loop-i-preserved-then-owed-eq0 c =
    given_none _ _ c.requires.0 c.requires.1 (positions_long _) _ _ c.loop-i.i (omega arith) c.loop-i.invariant (cc)

-- one that owes some

pub overflow_add-sum : goal.overflow_add-sum
overflow_add-sum c =
    let l = c.loop-i in
    omega (
      arith,
      given_fits (book_of c.args.b.now) c.args.security c.requires.0 c.requires.1 (positions_long _) l.held l.sum l.i (omega arith) l.invariant c.account_of-a.result c.smaller-gives.result.0
          c.account_of-a.ensures.1 (cc) (cc),
    )

pub loop-i-preserved : goal.loop-i-preserved
loop-i-preserved c =
    given_more _ _ c.requires.0 c.requires.1 (positions_long _) _ _ c.loop-i.i (omega arith) c.loop-i.invariant _ _ c.account_of-a.ensures.1 (cc) (cc)

-- no record is left

pub returns : goal.returns
returns c = given_end _ _ c.requires.0 c.requires.1 (positions_long _) _ _ c.loop-i.i (omega arith) c.loop-i.invariant
