-- `netting::steps::put_nets` meets its contract. The loop's invariant: the rows before i are those of the table handed over. Assumes nothing.
use Rattle.std.proofs.Common.{rules, arith, refl}
use Rattle.rules.specs.Layout.{book_of}
use Rattle.book.specs.Views.{positions_long}
use Rattle.netting.specs.Before.{putting_none, putting_more, putting_all}
use Rattle.netting.proofs.steps.put_nets.Goals as goal

pub loop-i-init : goal.loop-i-init
loop-i-init c = rw c.records_at-i.ensures (putting_none (book_of c.args.b.now) c.args.t.count c.args.t.positions c.requires c.args.b.now refl)

pub loop-i-preserved : goal.loop-i-preserved
loop-i-preserved c =
    let l = c.loop-i in
    putting_more (book_of c.args.b.now) c.args.t.count c.args.t.positions c.requires (search rules) (positions_long c.args.b.now) l.b c.put_position.new.b l.i
    (omega (arith, c.requires.few)) l.invariant c.put_position.ensures.1

pub returns : goal.returns
returns c =
    putting_all (book_of c.args.b.now) c.args.t.count c.args.t.positions c.requires c.loop-i.b c.put_records.new.b c.loop-i.i
    (omega (arith, c.requires.more, c.records_at-i.ensures)) c.loop-i.invariant c.put_records.ensures.1
