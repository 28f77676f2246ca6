-- `marking_prices::prices::price` meets its contract. Assumes nothing.
use Rattle.std.proofs.Common.{◌≡◌, sym, ap, ◌∙◌, arith, List, ℕ}
use Rattle.rules.specs.Prices.{entry_of, price_answer}
use Rattle.laws.specs.RefusalNumbers.{number_some}
use Rattle.marking_prices.specs.Pricing.{Asked, asked, part_none, part_intraday, part_closing, spot_none, spot_intraday, spot_closing}
use Rattle.marking_prices.proofs.prices.price.Goals as goal

pub returns-in-Err : goal.returns-in-Err
returns-in-Err c =
    let a = c.args in
    let e = c.in-Err.ensures.number in
    let fault : price_answer a.intraday.now a.closing.now a.security ≡ 0 → ⊥ = λ z. number_some c.in-Err.r (e ∙ z) in
    (part_none _ _ _ fault, c.into.ensures ∙ e, spot_none _ _ _ a.intraday.ref_ptr a.closing.ref_ptr fault)

pub entry-requires : goal.entry-requires
entry-requires c = (asked _ _ _ (sym c.in-Ok.ensures.number)).security

pub slice_bounds-result-end-then-entry-ne0 : goal.slice_bounds-result-end-then-entry-ne0
slice_bounds-result-end-then-entry-ne0 c = let a : Asked c.args.intraday.now c.args.closing.now c.args.security = asked _ _ _ (sym c.in-Ok.ensures.number) in omega arith

pub returns-then-entry-ne0 : goal.returns-then-entry-ne0
returns-then-entry-ne0 c =
    let a = c.args in
    let e = c.in-Ok.ensures.number in
    let here = c.entry.ensures ∙ ap (λ (t : List ℕ). entry_of t a.security) c.in-Ok.ensures.lent.0 in
    let some : entry_of a.intraday.now a.security ≡ 0 → ⊥ = λ w. c.if-entry-ne0.true (here ∙ w) in
    (part_intraday _ _ _ (sym e) some, e, spot_intraday _ _ _ a.intraday.ref_ptr a.closing.ref_ptr (sym e) some)

pub slice_bounds-result-end-2 : goal.slice_bounds-result-end-2
slice_bounds-result-end-2 c = let a : Asked c.args.intraday.now c.args.closing.now c.args.security = asked _ _ _ (sym c.in-Ok.ensures.number) in omega arith

pub returns : goal.returns
returns c =
    let a = c.args in
    let e = c.in-Ok.ensures.number in
    let here = c.entry.ensures ∙ ap (λ (t : List ℕ). entry_of t a.security) c.in-Ok.ensures.lent.0 in
    let none = sym here ∙ c.if-entry-ne0.false in
    (part_closing _ _ _ (sym e) none, e, spot_closing _ _ _ a.intraday.ref_ptr a.closing.ref_ptr (sym e) none)
