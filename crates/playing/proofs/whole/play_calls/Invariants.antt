-- `playing::whole::play_calls` meets its contract: what is left decides the answers and the book at the end. Assumes nothing.
use Rattle.std.proofs.Common.{◌-◌, length}
use Rattle.playing_records.specs.Playing.{State, end_book, end_answers}
use Rattle.playing_records.specs.Again.{Refuses}
use Rattle.playing.proofs.whole.play_calls.Given as goal

abbrev pub invariant-loop-place : goal.invariant-loop-place
invariant-loop-place l =
    State l.file l.book l.answers l.place l.at (end_book l.initial.book l.file) (end_answers l.initial.book l.file l.initial.answers) × Refuses l.book l.refused

abbrev pub decreases-loop-place : goal.decreases-loop-place
decreases-loop-place l = length l.file - l.place
