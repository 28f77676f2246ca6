-- `playing_records::applying::of_run` meets its contract: shares moved, or a refusal. Assumes nothing.
use Rattle.std.proofs.Common.{refl}
use Rattle.rules.specs.Calls.{number_of_run, figure_of_run}
use Rattle.playing_records.proofs.applying.of_run.Goals as goal

pub returns-in-Ok : goal.returns-in-Ok
unfolding number_of_run figure_of_run
returns-in-Ok c = rw c.in-Ok.is (refl, c.size.ensures)

pub returns-in-Err : goal.returns-in-Err
unfolding number_of_run figure_of_run
returns-in-Err c = rw c.in-Err.is (refl, refl)
