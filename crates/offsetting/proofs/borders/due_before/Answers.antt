-- `offsetting::borders::due_before` meets its contract. The loop's invariant: `older` of the rows before `i` are due before the day.
-- Assumes nothing.
use Rattle.std.proofs.Common.{◌≡◌, ap, ◌∙◌, arith, ℕ, length, take, lt-ltb, le-ltb}
use Rattle.rules.specs.Words.{keep}
use Rattle.rules.specs.Book.{open_of}
use Rattle.rules.specs.Layout.{book_of}
use Rattle.laws.specs.DueDays.{is_older}
use Rattle.book.specs.Views.{positions_long}
use Rattle.offsetting.specs.Borders.{counts_none, counts_more}
use Rattle.offsetting.proofs.borders.due_before.Goals as goal
use Rattle.offsetting.proofs.borders.due_before.Goals.{then-due_of-day, else-due_of-day}

pub loop-i-init : goal.loop-i-init
loop-i-init c = counts_none _ _

pub loop-i-preserved : goal.loop-i-preserved
loop-i-preserved c =
    let l = c.loop-i in
    counts_more _ _ l.i l.older _ (omega (arith, positions_long c.args.b.now)) l.invariant
    (rw (← c.position_at.ensures, ← c.due_of.ensures)
    (elim c.if-due_of-day.branch [ then-due_of-day w ↦ rw (lt-ltb _ _ w.if-due_of-day.true) w.older-is | else-due_of-day w ↦ rw (le-ltb _ _ w.if-due_of-day.false) w.older-is ]))

pub returns : goal.returns
unfolding open_of
returns c =
    let l = c.loop-i in
    let end : l.i ≡ (book_of c.args.b.now).records = omega arith in
    l.invariant.many ∙ ap (λ (j : ℕ). length (keep (is_older c.args.day) (take j (book_of c.args.b.now).positions))) end
