-- `sheets::put_played` meets its contract: the sheet does not fit, or it is written and the book left. Assumes nothing.
use Rattle.std.proofs.Common.{◌≡◌, refl, sym, ap, ◌∙◌, arith, take, ◌*◌, length-take-le}
use Rattle.fields.specs.Field.{Bytes}
use Rattle.rules.specs.CallFile.{answers_of}
use Rattle.sheets.specs.Sheets.{front_within, front_is, room_printable, sheet_narrow, sheet_wide, stored_in}
use Rattle.sheets.proofs.put_played.Goals as goal
use Rattle.sheets.proofs.put_played.Goals.{After-count_answers}

bytes : (c : After-count_answers) → Bytes c.args.file.now
bytes c = record { byte = λ i. (c.type_inv.file i).fits }

front : (c : After-count_answers) → take (9 * c.count_answers.result) c.args.answers.now ≡ answers_of c.args.file.now
front c = front_is _ _ _ c.requires.1 _ c.count_answers.ensures.0

pub slice_bounds-answers-end : goal.slice_bounds-answers-end
slice_bounds-answers-end c = sym (length-take-le _ _ (front_within _ _ _ c.requires.1 _ c.count_answers.ensures.0))

pub sheet_width-requires : goal.sheet_width-requires
sheet_width-requires c =
    let counted = (goal.at.sheet_width-requires c).After-count_answers in
    room_printable _ _ _ _ _ c.requires.1 (bytes counted) c.requires.0 (front counted) c.book_in-left.ensures

pub returns-then-buffer-sheet_width : goal.returns-then-buffer-sheet_width
returns-then-buffer-sheet_width c =
    let counted = (goal.at.returns-then-buffer-sheet_width c).After-count_answers in
    sheet_narrow _ _ _ _ _ c.requires.1 (bytes counted) c.requires.0 (front counted) c.book_in-left.ensures _ _ _ _
    (omega (arith, c.if-buffer-sheet_width.true, c.sheet_width.ensures)) refl refl

pub put_sheet-size-requires : goal.put_sheet-size-requires
put_sheet-size-requires c =
    let counted = (goal.at.put_sheet-size-requires c).After-count_answers in (
      room_printable _ _ _ _ _ c.requires.1 (bytes counted) c.requires.0 (front counted) c.book_in-left.ensures,
      omega (arith, c.if-buffer-sheet_width.false, c.sheet_width.ensures),
    )

pub returns-in-Some : goal.returns-in-Some
returns-in-Some c =
    let counted = (goal.at.returns-in-Some c).After-count_answers in
    let put = c.put_sheet-size.ensures in
    sheet_wide _ _ _ _ _ c.requires.1 (bytes counted) c.requires.0 (front counted) c.book_in-left.ensures _ _ _ _
    (omega (arith, c.if-buffer-sheet_width.false, c.sheet_width.ensures)) refl put.0 _ _ put.1
    (c.store.ensures ∙ ap (λ b. stored_in b c.args.book.now) (sym c.in-Some.is))

pub returns-in_default : goal.returns-in_default
returns-in_default c =
    let counted = (goal.at.returns-in_default c).After-count_answers in
    let put = c.put_sheet-size.ensures in
    sheet_wide _ _ _ _ _ c.requires.1 (bytes counted) c.requires.0 (front counted) c.book_in-left.ensures _ _ _ _
    (omega (arith, c.if-buffer-sheet_width.false, c.sheet_width.ensures)) refl put.0 _ _ put.1
    (ap (λ b. stored_in b c.args.book.now) (sym c.in_default.is))
