-- `house::settlement::roll` meets its contract: no sound book, or the call's own answer. Assumes nothing.
use Rattle.house.proofs.Unsound.{call_unsound}
use Rattle.house.proofs.settlement.roll.Goals as goal

pub returns-in_err-sound : goal.returns-in_err-sound
returns-in_err-sound c =
    let none = c.in_err-sound.ensures in
    call_unsound _ (rw none.ok_part at c.sound_book_mut.ensures.value) _ _ none.ok_part none.value _ _ c.from_residual.ensures.1
