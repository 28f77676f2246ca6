-- `house::settlement::run` meets its contract: no sound book, or the call's own answer. Assumes nothing.
use Rattle.laws.specs.EnumAnswers.{run_told}
use Rattle.house.proofs.Unsound.{run_is_unsound}
use Rattle.house.proofs.settlement.run.Goals as goal

pub returns-in_err-sound : goal.returns-in_err-sound
returns-in_err-sound c =
    let none = c.in_err-sound.ensures in
    let e = run_is_unsound _ (rw none.ok_part at c.sound_book_mut.ensures.value) _ _ none.ok_part none.value _ _ c.from_residual.ensures.1 in
    let t = run_told _ _ _ e.0 in
    (e.0, e.1, t.0, t.1)

pub returns : goal.returns
returns c =
    let found = rw c.in_ok-sound.ensures.ok_part at c.sound_book_mut.ensures.value in
    let e = rw found.0 at c.run.ensures in
    let t = run_told _ _ _ e.0 in
    (e.0, e.1, t.0, t.1)
