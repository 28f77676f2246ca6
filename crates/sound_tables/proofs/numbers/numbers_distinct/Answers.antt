-- `sound_tables::numbers::numbers_distinct` meets its contract. The loop's invariant: the numbers before `i` are distinct, and just their flags are up. Assumes nothing.
use Rattle.std.proofs.Common.{◌≡◌, sym, ap, ◌∙◌, List, ℕ, ◌<◌, ◌≤◌, length, get_or, get_or-take, length-take-le, arith}
use Rattle.std.proofs.Math.ListN.{length-map, get_or-map}
use Rattle.std.proofs.lemmas.Bool.{not-true, not-false}
use Rattle.rules.specs.Bounds.{most_trades}
use Rattle.rules.specs.Book.{no_trade, list_of}
use Rattle.rules.specs.Layout.{book_of}
use Rattle.rules.specs.declared.Trade.{Trade}
use Rattle.book.specs.Views.{trades_long}
use Rattle.sound_tables.specs.Distinct.{flagged_none, flagged_more, distinct_none, distinct_more, distinct_fails, distinct_done}
use Rattle.sound_tables.proofs.numbers.numbers_distinct.Goals as goal
use Rattle.sound_tables.proofs.numbers.numbers_distinct.Invariants.{numbers}

many : (bs : List ℕ) → (book_of bs).entries ≤ most_trades → length (numbers (book_of bs)) ≡ (book_of bs).entries
unfolding list_of
many bs h = length-map (list_of (book_of bs)) (λ t. t.number) ∙ length-take-le (book_of bs).entries (book_of bs).trades (omega (arith, trades_long bs))

-- the number at i is that of the trade at i
number_at : (bs : List ℕ) (i : ℕ) (t : Trade) → i < (book_of bs).entries → t ≡ get_or (book_of bs).trades i no_trade → get_or (numbers (book_of bs)) i 0 ≡ t.number
unfolding list_of
number_at bs i t h e =
    let k = book_of bs in
    get_or-map (λ t. t.number) (list_of k) i no_trade ∙ ap (λ (t : Trade). t.number) (get_or-take k.entries k.trades i no_trade h ∙ sym e)

pub loop-i-init : goal.loop-i-init
loop-i-init c =
    let ns = numbers (book_of c.args.b.now) in
    record { flagged = flagged_none ns; apart = distinct_none ns }

pub returns-then-not-first_use : goal.returns-then-not-first_use
returns-then-not-first_use c =
    let bs = c.args.b.now in
    let l = c.loop-i in
    distinct_fails (numbers (book_of bs)) l.i _ (omega (arith, many bs c.requires)) (number_at bs l.i _ (omega arith) c.trade_at-t.ensures)
    (sym (l.invariant.flagged.flag _ c.first_use.ensures.1.1) ∙ not-false _ (sym c.first_use.ensures.0 ∙ c.if-not-first_use.true))

pub loop-i-preserved : goal.loop-i-preserved
loop-i-preserved c =
    let bs = c.args.b.now in
    let ns = numbers (book_of bs) in
    let l = c.loop-i in
    let at : l.i < length ns = omega (arith, many bs c.requires) in
    let here = number_at bs l.i _ (omega arith) c.trade_at-t.ensures in
    let small = c.first_use.ensures.1.1 in
    record {
      flagged = rw c.first_use.ensures.1.0 (flagged_more l.used ns l.i _ at here small l.invariant.flagged);
      apart = distinct_more ns l.i _ at here l.invariant.apart
          (sym (l.invariant.flagged.flag _ small) ∙ not-true _ (sym c.first_use.ensures.0 ∙ c.if-not-first_use.false));
    }

pub returns : goal.returns
returns c =
    let bs = c.args.b.now in
    let l = c.loop-i in
    distinct_done (numbers (book_of bs)) l.i (omega (arith, many bs c.requires)) l.invariant.apart
