-- `marking_prices::prices::price_of` meets its contract. Assumes nothing.
use Rattle.std.proofs.Common.{sym, ◌∙◌}
use Rattle.marking_prices.specs.Pricing.{price_intraday, price_closing}
use Rattle.marking_prices.proofs.prices.price_of.Goals as goal

pub returns-then-found-ne0 : goal.returns-then-found-ne0
returns-then-found-ne0 c = let e = c.entry-found.ensures in e ∙ price_intraday _ _ _ (λ z. c.if-found-ne0.true (e ∙ z))

pub returns : goal.returns
returns c = c.entry.ensures ∙ price_closing _ _ _ (sym c.entry-found.ensures ∙ c.if-found-ne0.false)
