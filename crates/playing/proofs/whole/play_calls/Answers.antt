-- `playing::whole::play_calls` meets its contract: what is left decides the answers and the book at the end. Assumes nothing.
use Rattle.std.proofs.Common.{length, refl, Fits, w64, arith, rules}
use Rattle.playing_records.specs.Playing.{begins, ends, step, one_more, holds_sound, answers_long}
use Rattle.playing_records.specs.Again.{known_behind}
use Rattle.playing.proofs.whole.play_calls.Goals as goal

pub loop-place-init : goal.loop-place-init
loop-place-init c = (begins _ _ _ c.requires, tt)

pub apply_again-answer-requires : goal.apply_again-answer-requires
apply_again-answer-requires c = let inv = c.loop-place.invariant in (holds_sound _ inv.0.holds, inv.1)

pub put_answer-requires : goal.put_answer-requires
put_answer-requires c = one_more _ _ _ _ _ _ _ c.loop-place.invariant.0 c.loop-place-test.true _ _ c.record_at-found.ensures

pub next_place-place-requires : goal.next_place-place-requires
next_place-place-requires c = (c.loop-place.invariant.0.within, c.record_at-found.ensures)

pub overflow_add-at : goal.overflow_add-at
overflow_add-at c =
    let roomy : Fits w64 (length c.args.answers.now) = search rules in
    omega (
      arith,
      one_more _ _ _ _ _ _ _ c.loop-place.invariant.0 c.loop-place-test.true _ _ c.record_at-found.ensures,
      answers_long _ _ _ _ _ _ _ c.loop-place.invariant.0,
      roomy.fits,
    )

pub loop-place-smaller : goal.loop-place-smaller
loop-place-smaller c = omega (arith, c.next_place-place.ensures.1, c.next_place-place.ensures.2 c.loop-place-test.true)

pub loop-place-preserved : goal.loop-place-preserved
loop-place-preserved c =
    let done = c.apply_again-answer.ensures in
    let inv = c.loop-place.invariant in (
      step _ _ _ _ _ _ _ inv.0 c.loop-place-test.true _ _ _ _ _ _ c.put_answer.ensures c.next_place-place.ensures.0 c.next_place-place.ensures.1
          (c.next_place-place.ensures.2 c.loop-place-test.true) refl _ _ c.record_at-found.ensures done,
      rw c.refused_behind-refused.ensures (known_behind _ (holds_sound _ inv.0.holds) inv.0.holds.same _ _ _ _ done _ inv.1),
    )

pub returns : goal.returns
returns c = ends _ _ _ _ _ _ _ c.loop-place.invariant.0 (omega arith)
