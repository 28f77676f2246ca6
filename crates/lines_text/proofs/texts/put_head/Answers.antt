-- `lines_text::texts::put_head` meets its contract: one letter, or the three of DAY. Assumes nothing.
use mathlib.Core.Path.{sym, ap, ◌∙◌}
use native.Mathlib.Omega.{arith}
use lib.ListN.{length, length-set}
use Rattle.fields.specs.Field.{stored}
use Rattle.lines_text.specs.Digits.{put_byte}
use Rattle.lines_text.specs.Placed.{head_day, head_other, head_some, put_three}
use Rattle.lines_text.proofs.texts.put_head.Goals as goal

pub bounds-buffer-at : goal.bounds-buffer-at
bounds-buffer-at c = omega (arith, head_some c.args.head)

pub bounds-buffer-at-then-head-eq68 : goal.bounds-buffer-at-then-head-eq68
bounds-buffer-at-then-head-eq68 c = simp length-set (omega (arith, ap length (head_day c.args.head c.if-head-eq68.true)))

pub bounds-buffer-at-then-head-eq68-2 : goal.bounds-buffer-at-then-head-eq68-2
bounds-buffer-at-then-head-eq68-2 c = simp length-set (omega (arith, ap length (head_day c.args.head c.if-head-eq68.true)))

pub returns-then-head-eq68 : goal.returns-then-head-eq68
returns-then-head-eq68 c =
    let a = c.args in
    let e = head_day a.head c.if-head-eq68.true in
    (omega (arith, ap length e), put_three a.buffer.now a.at a.head 65 89 ∙ ap (stored a.buffer.now a.at) (sym e))

pub returns : goal.returns
returns c =
    let a = c.args in
    let e = head_other a.head c.if-head-eq68.false in
    (omega (arith, ap length e), put_byte a.buffer.now a.at a.head ∙ ap (stored a.buffer.now a.at) (sym e))
