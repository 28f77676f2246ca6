-- `sheet::answers::put_answer` meets its contract: no line for an accepted call, X for 19, R for every other refusal. Assumes nothing.
use Rattle.std.proofs.Common.{◌≡◌, ◌≢◌}
use mathlib.Core.Path.{subst, sym}
use native.Mathlib.Omega.{arith}
use Rattle.sheet.specs.Written.{Ready, wrote_none, wrote_as}
use Rattle.sheet.specs.Answers.{place-fits, line-none, line-place, line-refusal}
use Rattle.sheet.proofs.answers.put_answer.Goals as goal

pub returns-then-number-eq0 : goal.returns-then-number-eq0
returns-then-number-eq0 c =
    let a = c.args in
    wrote_as _ _ _ _ _ _ _ (sym (line-none a.index a.number a.figure c.if-number-eq0.true)) (wrote_none _ _ _ _ _ c.requires.0)

pub overflow_cast-figure : goal.overflow_cast-figure
overflow_cast-figure c = omega (arith, place-fits c.args.number c.args.figure c.requires.1 (omega arith))

pub put_one-requires : goal.put_one-requires
put_one-requires c = subst (Ready _ _ _) (line-place c.args.index c.args.number c.args.figure (omega arith)) c.requires.0

pub returns-then-number-eq19 : goal.returns-then-number-eq19
returns-then-number-eq19 c =
    let a = c.args in
    let is : a.number ≡ 19 = omega arith in
    wrote_as _ _ _ _ _ _ _ (sym (line-place a.index a.number a.figure is)) c.put_one.ensures

pub put_one-requires-2 : goal.put_one-requires-2
put_one-requires-2 c = subst (Ready _ _ _) (line-refusal c.args.index c.args.number c.args.figure c.if-number-eq0.false (omega arith)) c.requires.0

pub returns : goal.returns
returns c =
    let a = c.args in
    let other : a.number ≢ 19 = omega arith in
    let refused = c.if-number-eq0.false in
    wrote_as _ _ _ _ _ _ _ (sym (line-refusal a.index a.number a.figure refused other)) c.put_one-2.ensures
