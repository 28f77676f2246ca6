-- `marking::answer::answer_of` meets its contract. Assumes nothing.
use Rattle.std.proofs.Common.{arith}
use Rattle.std.proofs.lemmas.Grind.{common_steps}
use Rattle.marking.specs.Answering.{answer_past_up, answer_past_down, down_within, answer_due}
use Rattle.marking.proofs.answer.answer_of.Goals as goal

pub returns-in_err-up : goal.returns-in_err-up
returns-in_err-up c = grind (arith, common_steps, answer_past_up)

pub returns-in_err-down : goal.returns-in_err-down
returns-in_err-down c = grind (arith, common_steps, answer_past_down)

pub due_of-requires : goal.due_of-requires
due_of-requires c = grind (arith, common_steps, down_within)

pub returns : goal.returns
returns c = grind (arith, common_steps, answer_due)
