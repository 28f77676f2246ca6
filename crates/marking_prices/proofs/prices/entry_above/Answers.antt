-- `marking_prices::prices::entry_above` meets its contract. The entries before s are none of them too high. Assumes nothing.
use Rattle.std.proofs.Common.{ap, ◌∙◌, arith, lt-ltb, le-ltb}
use Rattle.rules.specs.Bounds.{every_security}
use Rattle.rules.specs.Prices.{entry_above}
use Rattle.laws.specs.All.{securities_length, security_at}
use Rattle.laws.specs.Finding.{any_none, any_more, any_found, any_done}
use Rattle.marking_prices.specs.Pricing.{high_at}
use Rattle.marking_prices.proofs.prices.entry_above.Goals as goal

pub loop-s-init : goal.loop-s-init
loop-s-init c = any_none (high_at c.args.table.now) every_security

pub returns-then-entry-gt9999999 : goal.returns-then-entry-gt9999999
unfolding entry_above
returns-then-entry-gt9999999 c =
    let l = c.loop-s in
    any_found (high_at c.args.table.now) every_security l.s 0 (omega (arith, securities_length))
    (ap (high_at c.args.table.now) (security_at l.s (omega arith)) ∙ lt-ltb _ _ (rw c.entry.ensures at c.if-entry-gt9999999.true))

pub loop-s-preserved : goal.loop-s-preserved
loop-s-preserved c =
    let l = c.loop-s in
    any_more (high_at c.args.table.now) every_security l.s 0 (omega (arith, securities_length)) l.invariant
    (ap (high_at c.args.table.now) (security_at l.s (omega arith)) ∙ le-ltb _ _ (rw c.entry.ensures at c.if-entry-gt9999999.false))

pub returns : goal.returns
unfolding entry_above
returns c =
    let l = c.loop-s in
    any_done (high_at c.args.table.now) every_security l.s (omega (arith, securities_length)) l.invariant
