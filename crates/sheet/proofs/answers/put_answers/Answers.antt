-- `sheet::answers::put_answers` meets its contract: the lines from record i on are left. Assumes nothing.
use mathlib.Core.Path.{refl, sym, ap, ap₂, ◌∙◌}
use native.Mathlib.Omega.{arith}
use Rattle.rules.specs.Words.{all}
use Rattle.rules.specs.Sheet.{answer_lines}
use Rattle.sheet.specs.Written.{going_start, going_ready, going_next, going_done}
use Rattle.sheet.specs.Answers.{answer, placeFits, left-first, left-more, left-done, fits_more}
use Rattle.sheet.proofs.answers.put_answers.Goals as goal

pub loop-i-init : goal.loop-i-init
loop-i-init c =
    let first = left-first c.args.answers.now in
    (refl, ap (all placeFits) (sym first) ∙ c.requires.1, going_start _ _ _ _ _ _ c.requires.2 (ap (answer_lines 0) first))

pub put_answer-tally-requires : goal.put_answer-tally-requires
put_answer-tally-requires c =
    let l = c.loop-i in
    let h = c.loop-i-test.true in
    let is = ap₂ answer c.get-number.ensures.0 c.get-figure.ensures.0 in
    let now = fits_more c.args.answers.now l.i h l.invariant.1 in
    (going_ready _ _ _ _ _ _ _ _ _ _ _ l.invariant.0 c.requires.2 l.invariant.2 (left-more _ _ _ h is), ap placeFits is ∙ now.0)

pub loop-i-preserved : goal.loop-i-preserved
loop-i-preserved c =
    let l = c.loop-i in
    let h = c.loop-i-test.true in
    let is = ap₂ answer c.get-number.ensures.0 c.get-figure.ensures.0 in
    let put = c.put_answer-tally in (
      put.auto.buffer ∙ l.invariant.0,
      (fits_more c.args.answers.now l.i h l.invariant.1).1,
      going_next _ _ _ _ _ _ _ _ _ _ _ l.invariant.2 (left-more _ _ _ h is) put.ensures,
    )

pub returns : goal.returns
returns c =
    let l = c.loop-i in
    going_done _ _ _ _ _ _ _ l.invariant.2 (left-done _ l.i (omega arith))
