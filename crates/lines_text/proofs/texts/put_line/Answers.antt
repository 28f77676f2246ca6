-- `lines_text::texts::put_line` meets its contract: the head, the fields behind it, and a newline. Assumes nothing.
use native.Mathlib.Omega.{arith}
use Rattle.lines_text.specs.Placed.{words_few, length_line, put_whole}
use Rattle.lines_text.proofs.texts.put_line.Goals as goal

pub put_head-behind-requires : goal.put_head-behind-requires
put_head-behind-requires c = omega (arith, length_line _ _ c.words_of-w.ensures)

pub put_fields-end-requires : goal.put_fields-end-requires
put_fields-end-requires c =
    let e = c.words_of-w.ensures in
    (words_few _ _ e, omega (arith, length_line _ _ e, c.put_head-behind.ensures.0, c.put_head-behind.auto.buffer))

pub bounds-buffer-end : goal.bounds-buffer-end
bounds-buffer-end c =
    let head = c.put_head-behind in
    let behind = c.put_fields-end in
    omega (arith, length_line _ _ c.words_of-w.ensures, head.ensures.0, head.auto.buffer, behind.ensures.0, behind.auto.buffer)

pub overflow_add-result : goal.overflow_add-result
overflow_add-result c =
    let head = c.put_head-behind in
    let behind = c.put_fields-end in
    omega (arith, length_line _ _ c.words_of-w.ensures, head.ensures.0, behind.ensures.0)

pub returns : goal.returns
returns c =
    let a = c.args in
    let is = c.words_of-w.ensures in
    let e = c.put_head-behind.ensures in
    let f = c.put_fields-end.ensures in
    (omega (arith, length_line _ _ is), put_whole a.buffer.now _ _ a.at _ _ _ _ is e.1 e.0 f.1 f.0)
