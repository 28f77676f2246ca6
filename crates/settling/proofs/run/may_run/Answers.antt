-- `settling::run::may_run` meets its contract. Assumes nothing.
use Rattle.std.proofs.Common.{lt-ltb, le-ltb}
use Rattle.settling.specs.Ends.{refused_13, accepted}
use Rattle.settling.proofs.run.may_run.Goals as goal

pub returns-then-gives-wants : goal.returns-then-gives-wants
returns-then-gives-wants c = refused_13 _ _ c.requires.1 (rw (← c.wanted_of-wants.ensures, ← c.requires.2) (lt-ltb _ _ c.if-gives-wants.true))

pub returns : goal.returns
returns c = accepted _ _ c.requires.1 (rw (← c.wanted_of-wants.ensures, ← c.requires.2) (le-ltb _ _ c.if-gives-wants.false))
