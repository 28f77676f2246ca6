-- `sheet::whole::put_lines` meets its contract: the answers' lines, the book's, and the last. Assumes nothing.
use mathlib.Core.Path.{refl, ◌∙◌}
use mathlib.Core.List.{[], ◌∷◌}
use native.Mathlib.Omega.{arith}
use lib.ListN.{length}
use Rattle.rules.specs.Sheet.{book_lines}
use Rattle.rules.specs.declared.Line.TheVariants.{End}
use Rattle.sheet.specs.Written.{ready_first, ready_second, ready_third, wrote_three}
use Rattle.sheet.specs.Whole.{lines_above, sheet_parts, lines_above_lem, ready_sheet}
use Rattle.sheet.proofs.whole.put_lines.Goals as goal

pub put_answers-answered-requires : goal.put_answers-answered-requires
put_answers-answered-requires c =
    let p = c.requires.0 in
    let behind = book_lines c.args.book.now in (
      omega (arith, p.few),
      p.places,
      ready_first _ _ c.args.buffer.now _ _ _ behind (End (length (lines_above c.args.answers.now c.args.book.now)) ∷ []) (ready_sheet _ _ _ _ c.requires.0 c.requires.1) (sheet_parts c.args.answers.now c.args.book.now _ refl) _ refl,
    )

pub put_existing-above-requires : goal.put_existing-above-requires
put_existing-above-requires c =
    let answers = c.put_answers-answered in
    (c.requires.0.records, ready_second _ _ _ _ _ _ _ _ (ready_sheet _ _ _ _ c.requires.0 c.requires.1) (sheet_parts c.args.answers.now c.args.book.now _ refl) _ _ answers.ensures _ answers.auto.buffer)

pub put_one-requires : goal.put_one-requires
put_one-requires c =
    let answers = c.put_answers-answered in
    let book = c.put_existing-above in
    let n = lines_above_lem _ _ _ _ _ _ _ _ answers.ensures book.ensures in
    ready_third _ _ _ _ _ _ _ _ (ready_sheet _ _ _ _ c.requires.0 c.requires.1) (sheet_parts c.args.answers.now c.args.book.now _ n) _ _ answers.ensures _ _ book.ensures _ (book.auto.buffer ∙ answers.auto.buffer)

pub returns : goal.returns
returns c =
    let answers = c.put_answers-answered in
    let book = c.put_existing-above in
    let n = lines_above_lem _ _ _ _ _ _ _ _ answers.ensures book.ensures in
    wrote_three _ _ _ _ _ _ _ _ (ready_sheet _ _ _ _ c.requires.0 c.requires.1) (sheet_parts c.args.answers.now c.args.book.now _ n) _ _ answers.ensures _ _ book.ensures _ _ c.put_one.ensures
