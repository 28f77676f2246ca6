-- `playing::whole::play` meets its contract: each refusal, and the records played. Assumes nothing.
use Rattle.std.proofs.Common.{refl, arith}
use Rattle.playing.specs.Whole.{answers_size, too_long_lem, wrong_book, no_room, played_all}
use Rattle.playing.proofs.whole.play.Goals as goal

pub returns-then-file-gt65535 : goal.returns-then-file-gt65535
returns-then-file-gt65535 c = too_long_lem _ _ _ _ _ c.if-file-gt65535.true refl refl

pub returns-in_default : goal.returns-in_default
returns-in_default c = wrong_book _ _ _ _ _ c.if-file-gt65535.false c.in_default.ensures.cases refl refl

pub returns-then-answers-size : goal.returns-then-answers-size
returns-then-answers-size c =
    let f = c.args.file.now in
    let lent = c.in-Some.ensures.cases in
    rw lent.same
    (no_room _ f _ _ _ c.if-file-gt65535.false lent.long (omega (arith, c.if-answers-size.true, answers_size f, c.count_answers-size.ensures.0)) refl refl)

pub play_records-requires : goal.play_records-requires
play_records-requires c = omega (arith, c.if-answers-size.false, answers_size c.args.file.now, c.count_answers-size.ensures.0)

pub returns : goal.returns
returns c =
    let f = c.args.file.now in
    let lent = c.in-Some.ensures.cases in
    let e = answers_size f in
    let n = c.count_answers-size.ensures.0 in
    played_all _ f _ _ _ c.if-file-gt65535.false lent.long (omega (arith, c.if-answers-size.false, e, n)) refl (omega (arith, e, n)) _ _
    (rw lent.same at c.play_records.ensures)
