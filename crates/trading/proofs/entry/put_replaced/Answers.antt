-- `trading::entry::put_replaced` meets its contract. The loop's invariant: the rows before `u` are renewed, the others as they were. Assumes nothing.
use Rattle.std.proofs.Common.{◌≤◌, ◌++◌, List, length, drop, sym, ap, ◌∙◌, arith}
use Rattle.std.proofs.lemmas.List.{length-take-le}
use Rattle.rules.specs.Layout.{book_of, bytes_of}
use Rattle.rules.specs.declared.Trade.{Trade}
use Rattle.book.specs.Views.{trades_long}
use Rattle.laws.specs.Blanks.{entries_few}
use Rattle.trading.specs.Tables.{replaced_table}
use Rattle.trading.proofs.Renewing.{put_at, kept_at, renewed_all}
use Rattle.trading.proofs.entry.put_replaced.Goals as goal
use Rattle.trading.proofs.entry.put_replaced.Goals.{After-trades_of-rows, then-u-number, else-u-number}

-- the list stands within the table
within : (c : After-trades_of-rows) → c.entries_at-n.result ≤ length c.trades_of-rows.result
within c =
    let bs = c.args.b.now in
    omega (arith, c.entries_at-n.ensures, entries_few (book_of bs) c.requires, ap length c.trades_of-rows.ensures ∙ trades_long bs)

pub slice_bounds-rows-end : goal.slice_bounds-rows-end
slice_bounds-rows-end c = within (goal.at.slice_bounds-rows-end c).After-trades_of-rows

pub slice_bounds-u-items-end : goal.slice_bounds-u-items-end
slice_bounds-u-items-end c = sym (length-take-le _ _ (within (goal.at.slice_bounds-u-items-end c).After-trades_of-rows))

pub loop-u-preserved : goal.loop-u-preserved
loop-u-preserved c =
    let l = c.loop-u in
    let a = c.args in
    elim c.if-u-number.branch [
      | then-u-number w ↦ w.u-items-is ∙ put_at a.number a.t _ l.u-items l.u-index c.loop-u-test.true l.invariant w.if-u-number.true
      | else-u-number w ↦ w.u-items-is ∙ kept_at a.number a.t _ l.u-items l.u-index c.loop-u-test.true l.invariant w.if-u-number.false
    ]

pub returns : goal.returns
returns c =
    let bs = c.args.b.now in
    let l = c.loop-u in
    c.put_list.ensures
    ∙ ap bytes_of (replaced_table (book_of bs) (trades_long bs) c.requires _ c.entries_at-n.ensures _ c.trades_of-rows.ensures c.args.number c.args.t _
    (ap (λ (r : List Trade). r ++ drop c.entries_at-n.result c.trades_of-rows.result) (renewed_all c.args.number c.args.t _ l.u-items l.u-index c.loop-u-test.false l.invariant)))
