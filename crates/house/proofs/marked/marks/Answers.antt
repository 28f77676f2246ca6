-- `house::marked::marks` meets its contract: no sound book, or the answer of a sound one. Assumes nothing.
use Rattle.std.proofs.Common.{sym, ap, ◌∙◌}
use Rattle.rules.specs.Refusals.{numbered}
use Rattle.laws.specs.EnumAnswers.{marks_told}
use Rattle.laws.specs.SoundBytes.{is_sound}
use Rattle.marking.specs.SoundMarks.{marks_sound_lem, marks_unsound}
use Rattle.house.proofs.Unsound.{handed_on}
use Rattle.house.proofs.marked.marks.Goals as goal

pub returns-in_err-sound : goal.returns-in_err-sound
returns-in_err-sound c =
    let none = c.in_err-sound.ensures in
    let e = ap numbered (handed_on _ _ _ _ none.ok_part none.value c.from_residual.ensures.1) ∙ sym (marks_unsound _ _ _ (rw none.ok_part at c.sound_book.ensures)) in
    let t = marks_told _ _ _ _ e in
    (e, t.0, t.1)

pub marks_of-requires : goal.marks_of-requires
marks_of-requires c =
    let found = rw c.in_ok-sound.ensures.ok_part at c.sound_book.ensures in
    rw found.0 (is_sound _ found.1)

pub returns : goal.returns
returns c =
    let found = rw c.in_ok-sound.ensures.ok_part at c.sound_book.ensures in
    let e = (rw found.0 at c.marks_of.ensures) ∙ sym (marks_sound_lem _ _ _ found.1) in
    let t = marks_told _ _ _ _ e in
    (e, t.0, t.1)
