-- `sheet::answers::put_answers` meets its contract: the lines from record i on are left. Assumes nothing.
use mathlib.Core.Path.{◌≡◌}
use mathlib.Core.Bool.{true}
use lib.ListN.{length}
use Rattle.rules.specs.Words.{all}
use Rattle.rules.specs.Sheet.{answer_lines}
use Rattle.sheet.specs.Written.{Going}
use Rattle.sheet.specs.Answers.{answersIn, answers_left, linesLeft, placeFits}
use Rattle.sheet.proofs.answers.put_answers.Given as goal

abbrev pub invariant-loop-i : goal.invariant-loop-i
invariant-loop-i l =
    (length l.buffer ≡ length l.initial.buffer) × (all placeFits (answers_left l.answers l.i) ≡ true)
    × Going l.write l.initial.buffer l.initial.tally (answer_lines 0 (answersIn l.answers)) l.buffer l.tally (linesLeft l.answers l.i)
