-- `house::creation::create` meets its contract: each return by the tests that were made so far. Assumes nothing.
use Rattle.std.proofs.Common.{sym, ap, ◌∙◌}
use Rattle.rules.specs.Words.{all}
use Rattle.rules.specs.Book.{empty_book}
use Rattle.rules.specs.Layout.{bytes_of}
use Rattle.rules.specs.Refusals.{answered}
use Rattle.rules.specs.Sound.{is_code}
use Rattle.house.specs.Lent.{no_room, no_codes, bad_codes, created}
use Rattle.house.proofs.Unsound.{handed_on}
use Rattle.house.proofs.creation.create.Goals as goal

pub returns-in_err-room : goal.returns-in_err-room
returns-in_err-room c =
    let none = c.in_err-room.ensures in
    let e = no_room _ _ (rw none.ok_part at c.as_mut_array.ensures.cases) in
    (ap answered (handed_on _ _ _ _ none.ok_part none.value c.from_residual.ensures.1) ∙ e.0, e.1)

pub returns-in_err-table : goal.returns-in_err-table
returns-in_err-table c =
    let room = rw c.in_ok-room.ensures.ok_part at c.as_mut_array.ensures.cases in
    let none = c.in_err-table.ensures in
    let e = no_codes _ _ room.long (rw none.ok_part at c.as_array.ensures.cases) in
    (ap answered (handed_on _ _ _ _ none.ok_part none.value c.from_residual-in_err-table.ensures.1) ∙ e.0, room.same ∙ e.1)

pub returns-then-not-codes_fit : goal.returns-then-not-codes_fit
returns-then-not-codes_fit c =
    let room = rw c.in_ok-room.ensures.ok_part at c.as_mut_array.ensures.cases in
    let table = rw c.in_ok-table.ensures.ok_part at c.as_array.ensures.cases in
    let e = bad_codes _ _ room.long table.long (ap (all is_code) (sym table.same) ∙ sym c.codes_fit.ensures ∙ c.if-not-codes_fit.true) in
    (e.0, room.same ∙ e.1)

pub returns : goal.returns
returns c =
    let room = rw c.in_ok-room.ensures.ok_part at c.as_mut_array.ensures.cases in
    let table = rw c.in_ok-table.ensures.ok_part at c.as_array.ensures.cases in
    created _ _ _ room.long table.long (ap (all is_code) (sym table.same) ∙ sym c.codes_fit.ensures ∙ c.if-not-codes_fit.false)
    (c.store.ensures ∙ ap bytes_of (c.empty_book.ensures ∙ ap empty_book table.same))
