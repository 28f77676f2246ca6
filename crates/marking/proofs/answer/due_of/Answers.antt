-- `marking::answer::due_of` meets its contract: the sums are four. Assumes nothing.
use Rattle.std.proofs.Common.{rules, ◌≡◌, ap, ◌∙◌, List, length}
use Rattle.units.specs.declared.Mils.{Mils}
use Rattle.rules.specs.declared.Marks.{Marks}
use Rattle.marking.specs.Answering.{due_is, four_sums}
use Rattle.marking.proofs.answer.due_of.Goals as goal

with_sums : Mils → List Mils → Marks
with_sums due sums = record { due = due; sums = sums }

pub returns : goal.returns
unfolding with_sums
returns c =
    let four : length c.args.t.sums ≡ 4 = search rules in
    ap (with_sums c.of.result) (four_sums c.args.t.sums four) ∙ due_is c.args.t.sums _ _ _ _ c.of.ensures.0 c.excess.ensures
