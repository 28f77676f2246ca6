-- `sheet::one::put_one` meets its contract: the line written behind what the tally has counted, or only counted. Assumes nothing.
use Rattle.std.proofs.Common.{rules, refl, arith}
use Rattle.sheet.specs.Written.{counted_one, written_one}
use Rattle.sheet.proofs.one.put_one.Goals as goal

pub slice_bounds-put_counted-count : goal.slice_bounds-put_counted-count
slice_bounds-put_counted-count c = omega (arith, c.requires.fits c.if-write.true)

pub slice_bounds-put_counted-start : goal.slice_bounds-put_counted-start
slice_bounds-put_counted-start c = omega (arith, c.requires.fits c.if-write.true)

pub returns-then-write : goal.returns-then-write
returns-then-write c =
    let e = c.put_counted.ensures in
    written_one _ _ _ _ _ c.requires c.if-write.true refl _ _ (search rules) e.2

pub returns : goal.returns
returns c = counted_one _ _ _ _ _ c.requires 1_000_000 _ c.if-write.false (omega arith) (search rules)
