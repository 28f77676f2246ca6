-- `exact::one_up` meets its contract. Assumes nothing.
use Rattle.std.proofs.Common.{◌+◌, sym, arith}
use Rattle.exact.specs.Rounding.{capped_whole, capped_past, raised_more}
use Rattle.exact.proofs.one_up.Goals as goal

pub returns-then-r-eq0 : goal.returns-then-r-eq0
returns-then-r-eq0 c = rw c.if-r-eq0.true (sym (capped_whole c.args.q c.requires))

pub returns-then-q-lt-LIMIT : goal.returns-then-q-lt-LIMIT
returns-then-q-lt-LIMIT c =
    let a = c.args in
    rw (raised_more a.q a.r (omega arith)) (sym (capped_whole (a.q + 1) (omega arith)))

pub returns : goal.returns
returns c =
    let a = c.args in
    rw (raised_more a.q a.r (omega arith)) (sym (capped_past (a.q + 1) (omega arith)))
