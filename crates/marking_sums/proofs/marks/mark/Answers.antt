-- `marking_sums::marks::mark` meets its contract. Assumes nothing.
use Rattle.std.proofs.Common.{◌≡◌, ◌-ℤ◌, ◌*ℤ◌, pos, arith}
use Rattle.units.specs.Units.{mils_of}
use Rattle.rules.specs.Book.{quantity_of, money_of, security_of}
use Rattle.rules.specs.Prices.{price_of}
use Rattle.rules.specs.Marks.{mark_of, mark_at}
use Rattle.marking_prices.specs.Pricing.{price_within}
use Rattle.marking_sums.specs.Summing.{size_fits, mark_small}
use Rattle.marking_sums.proofs.marks.mark.Goals as goal

pub times-requires : goal.times-requires
times-requires c =
    let within = price_within _ _ _ c.requires.0 c.security_of.ensures.1 in
    ((size_fits c.args.p c.requires.1).0, omega (arith, within, c.price_of-price.ensures))

pub minus-requires : goal.minus-requires
minus-requires c = omega (arith, size_fits c.args.p c.requires.1, c.times.ensures.1)

pub returns : goal.returns
unfolding mark_at mark_of
returns c =
    let a = c.args in
    let e : mils_of c.minus.result ≡ quantity_of a.p *ℤ pos (price_of a.tables.intraday.now a.tables.closing.now (security_of a.p)) -ℤ money_of a.p =
    cc (c.security_of.ensures.0, c.price_of-price.ensures, c.times.ensures.0, c.minus.ensures.0) in
    (e, rw e (mark_small a.tables.intraday.now a.tables.closing.now a.p c.requires.0 c.requires.1))
