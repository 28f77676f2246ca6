-- `lines_text::texts::line_width` meets its contract: head, fields, newline. Assumes nothing.
use native.Mathlib.Omega.{arith}
use Rattle.lines_text.specs.Placed.{words_few, length_line}
use Rattle.lines_text.proofs.texts.line_width.Goals as goal

pub fields_width-requires : goal.fields_width-requires
fields_width-requires c = words_few _ _ c.words_of-w.ensures

pub overflow_add-result : goal.overflow_add-result
overflow_add-result c = omega (arith, words_few _ _ c.words_of-w.ensures)

pub overflow_add-result-2 : goal.overflow_add-result-2
overflow_add-result-2 c = omega (arith, words_few _ _ c.words_of-w.ensures)

pub returns : goal.returns
returns c =
    let e = c.words_of-w.ensures in
    omega (arith, words_few _ _ e, length_line _ _ e)
