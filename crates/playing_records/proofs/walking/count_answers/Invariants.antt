-- `playing_records::walking::count_answers` meets its contract: the answers counted and those of what is left are all. Assumes nothing.
use Rattle.std.proofs.Common.{◌-◌, length}
use Rattle.playing_records.specs.Counting.{Counting}
use Rattle.playing_records.proofs.walking.count_answers.Given as goal

abbrev pub invariant-loop-place : goal.invariant-loop-place
invariant-loop-place l = Counting l.file l.count l.place

abbrev pub decreases-loop-place : goal.decreases-loop-place
decreases-loop-place l = length l.file - l.place
