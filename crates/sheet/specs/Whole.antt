-- The sheet of the answers in some bytes and a book, and what is asked of them.
use Rattle.std.specs.Prelude.{◌≡◌, refl, Bool, true, List, [], ◌∷◌, ◌++◌, map, ℕ, ◌/◌, ◌≤◌, length, take, drop, Option, Some, None}
use Rattle.std.proofs.Common.{sym, ap, ap₂, ◌∙◌, append_assoc, zero-add, arith, length-append}
use Rattle.fields.specs.Field.{stored}
use Rattle.fields.specs.FieldLaws.{stored_eq}
use Rattle.rules.specs.Words.{all, each}
use Rattle.rules.specs.Bounds.{most_records, most_tally}
use Rattle.rules.specs.Book.{open_of}
use Rattle.rules.specs.Sheet.{text_of, open_line, answer_lines, book_lines, ended}
use Rattle.rules.specs.declared.Book.{Book}
use Rattle.rules.specs.declared.Line.{Line}
use Rattle.rules.specs.declared.Tally.{Tally}
use Rattle.rules.specs.declared.Line.TheVariants.{Day, End}
use Rattle.sheet_laws.specs.BookWidths.{few_book_lines}
use Rattle.sheet.specs.Written.{Ready, Wrote, start, texts_of, put_if, bytes_of_lem, lines_of}
use Rattle.sheet.specs.Answers.{answersIn, placeFits, few-lines}
use Rattle.sheet.specs.BookLines.{entry_lines, charges_are}

-- ── definitions ──

-- the lines above the last
unfoldable pub lines_above : List ℕ → Option Book → List Line
lines_above answers book = answer_lines 0 (answersIn answers) ++ book_lines book

unfoldable pub sheet_lines : List ℕ → Option Book → List Line
sheet_lines answers book = ended (lines_above answers book)

unfoldable pub sheet_text : List ℕ → Option Book → List ℕ
sheet_text answers book = each text_of (sheet_lines answers book)

-- A file of 65,535 bytes has at most 21,846 answers (65,534 bytes behind the version, at least 3 a record); a 19's place is in the file.
-- The sheet is shorter than the tally's bound.
pub record Printable (answers : List ℕ) (book : Option Book) : Type 0 where
  pub few : length answers / 9 ≤ 21_846
  pub places : all placeFits (answersIn answers) ≡ true
  pub records : (k : Book) → book ≡ Some k → k.records ≤ most_records
  pub short : length (sheet_text answers book) ≤ most_tally

-- ── the book's lines ──

pub book_lines_lem : (k : Book) → book_lines (Some k) ≡ (Day k.day ∷ []) ++ (map open_line (take k.records k.positions) ++ entry_lines k.charges)
unfolding book_lines open_of
book_lines_lem k = ap (λ (l : List Line). Day k.day ∷ (map open_line (open_of k) ++ l)) (charges_are k)

pub no_book : book_lines None ≡ []
unfolding book_lines
no_book = refl

few_book : (book : Option Book) → ((k : Book) → book ≡ Some k → k.records ≤ most_records) → length (book_lines book) ≤ 1_281
few_book (Some k) r = few_book_lines k (r k refl)
few_book None r = omega (arith, ap length no_book)

-- ── the whole ──

sheet_is : (answers : List ℕ) (book : Option Book)
    → sheet_lines answers book ≡ lines_above answers book ++ (End (length (lines_above answers book)) ∷ [])
unfolding sheet_lines ended
sheet_is answers book = refl

above_is : (answers : List ℕ) (book : Option Book)
    → lines_above answers book ≡ answer_lines 0 (answersIn answers) ++ book_lines book
unfolding lines_above
above_is answers book = refl

-- its three parts, where n lines are above the last
pub sheet_parts : (answers : List ℕ) (book : Option Book) (n : ℕ) → n ≡ length (lines_above answers book)
    → sheet_lines answers book ≡ answer_lines 0 (answersIn answers) ++ (book_lines book ++ (End n ∷ []))
sheet_parts answers book n e =
    sheet_is answers book
    ∙ ap₂ (λ (l : List Line) (m : ℕ). l ++ (End m ∷ [])) (above_is answers book) (sym e)
    ∙ append_assoc (answer_lines 0 (answersIn answers)) (book_lines book) (End n ∷ [])

-- the last line does not count itself
pub lines_above_lem : (w : Bool) (answers : List ℕ) (book : Option Book) (bs cs ds : List ℕ) (s t : Tally)
    → Wrote w bs start (answer_lines 0 (answersIn answers)) cs s → Wrote w cs s (book_lines book) ds t
    → t.lines ≡ length (lines_above answers book)
lines_above_lem w answers book bs cs ds s t one two =
    let xs = answer_lines 0 (answersIn answers) in
    let ys = book_lines book in
    omega (arith, lines_of s start xs one.reach, lines_of t s ys two.reach, ap length (above_is answers book), length-append xs ys)

pub ready_sheet : (w : Bool) (n : ℕ) (answers : List ℕ) (book : Option Book) → Printable answers book
    → (w ≡ true → length (sheet_text answers book) ≤ n) → Ready w n start (sheet_lines answers book)
unfolding sheet_text
ready_sheet w n answers book h fits =
    let above = lines_above answers book in
    let e = sheet_is answers book in
    record {
      fits = λ t. let f = fits t in omega arith;
      short = omega (arith, h.short);
      few =
          omega (
            arith,
            ap length e,
            length-append above (End (length above) ∷ []),
            ap length (above_is answers book),
            length-append (answer_lines 0 (answersIn answers)) (book_lines book),
            few-lines answers,
            few_book book h.records,
            h.few,
          );
    }

-- ── what the two public functions make of it ──

pub width_is : (w : Bool) (answers : List ℕ) (book : Option Book) (bs cs : List ℕ) (r : Tally)
    → Wrote w bs start (sheet_lines answers book) cs r → r.bytes ≡ length (sheet_text answers book)
unfolding sheet_text
width_is w answers book bs cs r h = let e = bytes_of_lem r start (sheet_lines answers book) h.reach in omega arith

pub front_is : (bs cs xs : List ℕ) → length xs ≤ length bs → cs ≡ stored bs 0 xs → cs ≡ xs ++ drop (length xs) bs
front_is bs cs xs h e = e ∙ stored_eq bs 0 xs (omega arith) ∙ ap (λ (n : ℕ). xs ++ drop n bs) (zero-add (length xs))

pub bytes_are : (answers : List ℕ) (book : Option Book) (bs cs : List ℕ) (r : Tally)
    → length (sheet_text answers book) ≤ length bs → Wrote true bs start (sheet_lines answers book) cs r
    → cs ≡ sheet_text answers book ++ drop (length (sheet_text answers book)) bs
unfolding sheet_text put_if
bytes_are answers book bs cs r h w = front_is bs cs (texts_of (sheet_lines answers book)) h w.bytes
