-- `playing_records::walking::count_answers` meets its contract: the answers counted and those of what is left are all. Assumes nothing.
use Rattle.std.proofs.Common.{sym, ◌∙◌, arith}
use Rattle.playing_records.specs.First.{version_there}
use Rattle.playing_records.specs.Counting.{count_other, count_begins, count_more, count_done}
use Rattle.playing_records.proofs.walking.count_answers.Goals as goal

pub returns-then-other_version : goal.returns-then-other_version
returns-then-other_version c = (count_other _ (sym c.other_version.ensures ∙ c.if-other_version.true), omega arith)

pub next_place-place-requires : goal.next_place-place-requires
next_place-place-requires c = (version_there _ (sym c.other_version.ensures ∙ c.if-other_version.false), c.record_at.ensures)

pub loop-place-init : goal.loop-place-init
loop-place-init c = count_begins _ (sym c.other_version.ensures ∙ c.if-other_version.false) _ c.next_place-place.ensures.0

pub overflow_add-count : goal.overflow_add-count
overflow_add-count c = omega (arith, c.loop-place.invariant.bound)

pub next_place-place-requires-in-loop-place : goal.next_place-place-requires-in-loop-place
next_place-place-requires-in-loop-place c = (c.loop-place.invariant.within, c.record_at-in-loop-place.ensures)

pub loop-place-smaller : goal.loop-place-smaller
loop-place-smaller c = omega (arith, c.next_place-place-in-loop-place.ensures.1, c.next_place-place-in-loop-place.ensures.2 c.loop-place-test.true)

pub loop-place-preserved : goal.loop-place-preserved
loop-place-preserved c = count_more _ _ _ c.loop-place.invariant c.loop-place-test.true _ c.next_place-place-in-loop-place.ensures.0 c.next_place-place-in-loop-place.ensures.1 (c.next_place-place-in-loop-place.ensures.2 c.loop-place-test.true)

pub returns : goal.returns
returns c = count_done _ _ _ c.loop-place.invariant (omega arith)
