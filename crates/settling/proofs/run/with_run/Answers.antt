-- `settling::run::with_run` meets its contract: the walk is the rule's run (laws, `walk_is_run`). Assumes nothing.
use Rattle.std.proofs.Common.{sym, ap, ◌∙◌, pos}
use Rattle.rules.specs.Calls.{after, figure}
use Rattle.rules.specs.Layout.{book_of, bytes_of}
use Rattle.laws.specs.RunLeaves.{closed, settled_is, end_shares}
use Rattle.laws.specs.RunSound.{may_run}
use Rattle.laws.specs.Walk.{Walking}
use Rattle.laws.specs.SoundBytes.{shaped}
use Rattle.settling.specs.Ends.{pack_asks, closed_is}
use Rattle.settling.proofs.run.with_run.Goals as goal

pub walk-left-requires : goal.walk-left-requires
walk-left-requires c =
    let listed = may_run (book_of c.args.b.now) c.args.security c.requires.1 in
    record { ok = c.requires.0; security = listed.0; listed = listed.1; gives = c.requires.2 }

pub pack-requires : goal.pack-requires
pack-requires c = pack_asks (book_of c.args.b.now) (book_of c.walk-left.new.b) c.requires.0 (shaped c.args.b.now) c.walk-left.ensures.beside

pub returns : goal.returns
unfolding after figure
returns c =
    let b = book_of c.args.b.now in
    let s = c.args.security in
    let below = (may_run b s c.requires.1).0 in
    let e = c.walk-left.ensures in (
      c.pack.ensures.0
          ∙ ap bytes_of (closed_is b (book_of c.walk-left.new.b) c.args.gives.0 c.walk-left.result.0 e.beside
          ∙ ap (closed b) e.tables ∙ sym (settled_is b s below c.requires.0 (shaped c.args.b.now))),
      c.of.ensures.0 ∙ ap pos (ap (λ (x : Walking). x.shares) e.tables ∙ end_shares b s below c.requires.0 (shaped c.args.b.now)),
    )
