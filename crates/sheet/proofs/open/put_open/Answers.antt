-- `sheet::open::put_open` meets its contract: the lines from one position on are left. Assumes nothing.
use Rattle.std.proofs.Common.{refl, ◌∙◌, arith}
use Rattle.sheet.specs.Written.{going_start, going_ready, going_next, going_done}
use Rattle.sheet.specs.BookLines.{open_more, open_done}
use Rattle.sheet.proofs.open.put_open.Goals as goal

pub loop-p-init : goal.loop-p-init
loop-p-init c = (refl, going_start _ _ _ _ _ _ c.requires refl)

pub put_one-tally-requires : goal.put_one-tally-requires
put_one-tally-requires c =
    let l = c.loop-p in
    going_ready _ _ _ _ _ _ _ _ _ _ _ l.invariant.0 c.requires l.invariant.1
    (open_more c.args.positions.now l.p-index _ c.loop-p-test.true c.open_line.ensures)

pub loop-p-preserved : goal.loop-p-preserved
loop-p-preserved c =
    let l = c.loop-p in
    let put = c.put_one-tally in (
      put.auto.buffer ∙ l.invariant.0,
      going_next _ _ _ _ _ _ _ _ _ _ _ l.invariant.1
          (open_more c.args.positions.now l.p-index _ c.loop-p-test.true c.open_line.ensures)
          put.ensures,
    )

pub returns : goal.returns
returns c =
    let l = c.loop-p in
    going_done _ _ _ _ _ _ _ l.invariant.1 (open_done c.args.positions.now l.p-index (omega (arith, l.auto.p-index-end, c.loop-p-test.false)))
