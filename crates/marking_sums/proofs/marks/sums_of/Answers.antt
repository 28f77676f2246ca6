-- `marking_sums::marks::sums_of` meets its contract. The sums are those of the records before i. Assumes nothing.
use Rattle.std.proofs.Common.{refl, arith}
use Rattle.rules.specs.Layout.{book_of}
use Rattle.book.specs.Views.{codes_long, positions_long}
use Rattle.marking_sums.specs.Summing.{summed_none, open_within, open_asks, open_more, summed_all}
use Rattle.marking_sums.proofs.marks.sums_of.Goals as goal

pub loop-i-init : goal.loop-i-init
loop-i-init c = summed_none _ _ _ _ refl

pub position_at-p-requires : goal.position_at-p-requires
position_at-p-requires c =
    let bs = c.args.book.now in
    omega (arith, open_within (book_of bs) c.requires.0 (codes_long bs) (positions_long bs), c.records_at-n.ensures)

pub with_record-t-requires : goal.with_record-t-requires
with_record-t-requires c =
    let bs = c.args.book.now in
    let l = c.loop-i in
    rw (c.codes_of-codes.ensures, c.position_at-p.ensures)
    (open_asks (book_of bs) c.requires.0 (codes_long bs) (positions_long bs) l.i (omega (arith, c.records_at-n.ensures)) c.args.tables.intraday.now c.args.tables.closing.now _ l.t c.requires.1 l.invariant)

pub loop-i-preserved : goal.loop-i-preserved
loop-i-preserved c =
    let bs = c.args.book.now in
    let l = c.loop-i in
    open_more (book_of bs) c.requires.0 (codes_long bs) (positions_long bs) l.i (omega (arith, c.records_at-n.ensures)) c.args.tables.intraday.now c.args.tables.closing.now _ l.t c.requires.1 l.invariant
    _ (rw (c.codes_of-codes.ensures, c.position_at-p.ensures) at c.with_record-t.ensures)

pub returns : goal.returns
returns c =
    let bs = c.args.book.now in
    summed_all (book_of bs) c.requires.0 (codes_long bs) (positions_long bs) _ _ _ _ c.loop-i.invariant (omega (arith, c.records_at-n.ensures))
