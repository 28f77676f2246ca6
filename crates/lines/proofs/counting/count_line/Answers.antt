-- `lines::counting::count_line` meets its contract: the line passes, or it is refused. Assumes nothing.
use Rattle.std.proofs.Common.{◌≡◌, sym, ap, ◌∙◌, Bool, ℕ, length, arith}
use Rattle.rules.specs.Sheet.{text_of}
use Rattle.rules.specs.declared.Line.{Line}
use Rattle.rules.specs.declared.Tally.{Tally}
use Rattle.lines.specs.Counting.{passes, moved, passes_below, answer_yes, answer_no, tally_yes, tally_no}
use Rattle.lines.proofs.counting.count_line.Goals as goal

-- what was judged
judged : (room size : ℕ) (l : Line) (t : Tally) (r v : Bool) → size ≡ length (text_of l) → r ≡ passes room size t → r ≡ v
    → passes room (length (text_of l)) t ≡ v
judged room size l t r v e f g = ap (λ (n : ℕ). passes room n t) (sym e) ∙ sym f ∙ g

pub returns-then-not-passes : goal.returns-then-not-passes
returns-then-not-passes c =
    let refused = answer_no _ _ _ (judged _ _ c.args.l _ _ _ c.line_width-size.ensures.0 c.passes.ensures c.if-not-passes.true) in
    (sym refused, sym (tally_no _ _ _ (λ z. omega arith)))

pub overflow_add-result : goal.overflow_add-result
overflow_add-result c =
    let b = passes_below _ _ _ (judged _ _ c.args.l _ _ _ c.line_width-size.ensures.0 c.passes.ensures c.if-not-passes.false) in omega arith

pub overflow_add-result-2 : goal.overflow_add-result-2
overflow_add-result-2 c =
    let b = passes_below _ _ _ (judged _ _ c.args.l _ _ _ c.line_width-size.ensures.0 c.passes.ensures c.if-not-passes.false) in
    omega (arith, c.line_width-size.ensures.0)

pub returns : goal.returns
returns c =
    let a = c.args in
    let e = answer_yes _ _ _ (judged _ _ a.l _ _ _ c.line_width-size.ensures.0 c.passes.ensures c.if-not-passes.false) in
    (sym e, ap (λ (n : ℕ). moved n a.tally) c.line_width-size.ensures.0 ∙ sym (tally_yes _ _ _ e))
