-- `trading::list::is_used` meets its contract: a walk over the list by number. Assumes nothing.
use Rattle.std.proofs.Common.{eqb, get_or, ◌∙◌, arith, rules, tests}
use Rattle.std.proofs.lemmas.Iterator.{YieldsList-from_range}
use Rattle.std.proofs.lemmas.Iterator.Search.{any_from_yields_List}
use Rattle.rules.specs.Book.{list_of, no_trade}
use Rattle.rules.specs.Layout.{book_of}
use Rattle.rules.specs.Trades.{used}
use Rattle.rules.specs.declared.Trade.{Trade}
use Rattle.book.specs.Views.{trades_long}
use Rattle.trading.proofs.Walking.{any_listed}
use Rattle.trading.proofs.list.is_used.Goals as goal

pub returns : goal.returns
unfolding list_of used
returns c =
    let k = book_of c.args.b.now in
    any_from_yields_List (λ i. eqb (get_or k.trades i no_trade).number c.args.number) _ _ _ c.any.ensures.ran
    (YieldsList-from_range 0 k.entries k.entries (cc) (omega arith)) (λ x b q h. search (rules, tests))
    ∙ any_listed (λ (t : Trade). eqb t.number c.args.number) k.trades no_trade k.entries (omega (arith, trades_long c.args.b.now))
