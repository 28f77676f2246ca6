-- The sheet of every file has at most 23,128 lines and 295,620 bytes (specs/Bounded: `most_lines`, `most_bytes`), so that no sheet passes a tally's limit, and
-- none is refused by the program.
use Rattle.std.specs.Prelude.{◌≡◌, refl, false, ℕ, ◌+◌, ◌≤◌, Option, Some, None}
use Rattle.std.proofs.Math.Path.{ap}
use mathlib.Core.List.{List, [], ◌∷◌, ◌++◌}
use Rattle.std.proofs.Common.{arith, eq-eqb, le-leb, le-ltb}
use Rattle.std.proofs.Math.ListN.{length, drop, length-append}
use Rattle.fields.specs.Field.{Bytes}
use Rattle.rules.specs.Words.{each}
use Rattle.rules.specs.Bounds.{most_tally}
use Rattle.rules.specs.Layout.{book_length}
use Rattle.rules.specs.Records.{too_long}
use Rattle.rules.specs.CallFile.{file_of}
use Rattle.rules.specs.Sheet.{text_of, answer_lines, book_lines, ended, lines_of, refused_sheet, sheet_of, sheet_refused, sheet_answer, sheet_size, sheet_bytes, line_answer}
use Rattle.rules.specs.declared.Book.{Book}
use Rattle.rules.specs.declared.Line.{Line}
use Rattle.rules.specs.declared.Line.TheVariants.{End}
use Rattle.laws.specs.Cases.{by_test, and_hold, cond_yes, cond_no}
use Rattle.laws.specs.SoundRun.{sound_runnable}
use Rattle.sheet_laws.specs.AnswersFew.{file_few}
use Rattle.sheet_laws.specs.AnswersFit.{file_fits}
use Rattle.sheet_laws.specs.BookLeft.{file_left}
use Rattle.sheet_laws.specs.Widths.{each_one, length_both, end_short}
use Rattle.sheet_laws.specs.AnswerWidths.{few_answers, answers_short}
use Rattle.sheet_laws.specs.BookWidths.{few_book_lines, book_short}
use Rattle.sheet_laws.specs.Bounded.{most_lines, most_bytes, lines_in, sheet_is, refused_length, refused_lines}

-- ── the book's lines, if one exists ──

record Short (ls : List Line) : Type 0 where
  few : length ls ≤ 1_281
  short : length (each text_of ls) ≤ 55_306

book_lines_lem : (file : List ℕ) → Bytes file → (b : Option Book) → (file_of file).book ≡ b → Short (book_lines b)
unfolding book_lines each
book_lines_lem file h None e = record { few = omega arith; short = omega arith }
book_lines_lem file h (Some k) e =
    let ok = (file_left file h k e).is_sound in
    record { few = few_book_lines k (sound_runnable k ok).few; short = book_short k ok }

-- ── any other file ──

module _ (file : List ℕ) (bytes : Bytes file) (short : too_long file ≡ false) where
  abbrev answered : List Line
  answered = answer_lines 0 (file_of file).answers

  abbrev booked : List Line
  booked = book_lines (file_of file).book

  abbrev last : Line
  last = End (length (answered ++ booked))

  lines_are : lines_in file ≡ (answered ++ booked) ++ (last ∷ [])
  unfolding lines_in lines_of ended
  lines_are = cond_no refused_sheet (lines_of (file_of file)) short

  above_few : length (answered ++ booked) ≤ 23_127
  above_few =
      omega (
        arith,
        length-append answered booked,
        few_answers 0 (file_of file).answers,
        file_few file short,
        (book_lines_lem file bytes (file_of file).book refl).few,
      )

  file_lines : length (lines_in file) ≤ most_lines
  file_lines = omega (arith, ap length lines_are, length-append (answered ++ booked) (last ∷ []), above_few)

  file_bytes : length (each text_of (lines_in file)) ≤ most_bytes
  file_bytes =
      omega (
        arith,
        ap (λ (ls : List Line). length (each text_of ls)) lines_are,
        length_both text_of (answered ++ booked) (last ∷ []),
        length_both text_of answered booked,
        answers_short 0 (file_of file).answers (omega (arith, file_few file short)) (file_fits file short),
        file_few file short,
        (book_lines_lem file bytes (file_of file).book refl).short,
        ap length (each_one text_of last),
        end_short (length (answered ++ booked)) (omega (arith, above_few)),
      )

-- ── every file ──

module _ (file : List ℕ) (bytes : Bytes file) where
  pub sheet_lines_lem : length (lines_in file) ≤ most_lines
  unfolding lines_in
  sheet_lines_lem =
      by_test (too_long file)
      (λ e. omega (arith, ap length (cond_yes refused_sheet (lines_of (file_of file)) e), refused_lines))
      (λ e. file_lines file bytes e)

  pub sheet_bytes_lem : length (sheet_of file) ≤ most_bytes
  unfolding sheet_of
  sheet_bytes_lem =
      by_test (too_long file)
      (λ e. omega (arith, ap (λ (ls : List Line). length (each text_of ls)) (cond_yes refused_sheet (lines_of (file_of file)) e), refused_length))
      (λ e. omega (arith, ap length (sheet_is file), file_bytes file bytes e))

  -- The program's sheets stay below it.
  pub below_tally : (length (lines_in file) ≤ most_tally) × (length (sheet_of file) ≤ most_tally)
  below_tally = (omega (arith, sheet_lines_lem), omega (arith, sheet_bytes_lem))

  -- So whoever writes the sheet line by line, the tally moved on by every line, is not refused where each line fits its buffer.
  pub never_refused : (above : List Line) (l : Line) (rest : List Line) (room : ℕ) → lines_in file ≡ above ++ (l ∷ rest) → length (text_of l) ≤ room
      → line_answer room l (record { lines = length above; bytes = length (each text_of above) }) ≡ 0
  unfolding line_answer
  never_refused above l rest room e fits =
      let more = length-append above (l ∷ rest) in
      let behind = length_both text_of above (l ∷ rest) in
      let one = length_both text_of (l ∷ []) rest in
      cond_yes 0 18
      (and_hold (le-leb (length (text_of l)) room fits)
      (and_hold (le-leb (length above + 1) most_tally (omega (arith, ap length e, sheet_lines_lem)))
      (le-leb (length (each text_of above) + length (text_of l)) most_tally
      (omega (arith, ap (λ (ls : List Line). length (each text_of ls)) e, ap length (sheet_is file), ap length (each_one text_of l), sheet_bytes_lem)))))

  -- And the whole sheet as one call is never refused where the book's room has its length and the buffer so many bytes:
  fits : (book buffer : List ℕ) → length book ≡ book_length → most_bytes ≤ length buffer → sheet_refused book file buffer ≡ false
  unfolding sheet_refused
  fits book buffer b h = rw (eq-eqb (length book) book_length b) (le-ltb (length buffer) (length (sheet_of file)) (omega (arith, sheet_bytes_lem)))

  -- it answers 0, and the sheet stands in front of the buffer.
  pub sheet_fits : (book buffer : List ℕ) → length book ≡ book_length → most_bytes ≤ length buffer
      → (sheet_answer book file buffer ≡ 0) × (sheet_size book file buffer ≡ length (sheet_of file))
      × (sheet_bytes book file buffer ≡ sheet_of file ++ drop (length (sheet_of file)) buffer)
  unfolding sheet_answer sheet_size sheet_bytes
  sheet_fits book buffer b h =
      let no = fits book buffer b h in
      (cond_no 18 0 no, cond_no 0 (length (sheet_of file)) no, cond_no buffer (sheet_of file ++ drop (length (sheet_of file)) buffer) no)
