-- The sheet of the answers that a file writes is the sheet of the file: the answers are read back from their bytes, and the first of them says
-- whether a book exists.
use Rattle.std.specs.Prelude.{◌≡◌, refl, Bool, true, false, cond, ◌&&◌, ◌||◌, ℕ, suc, ◌*◌, ◌≤◌, eqb, length, drop, Option, Some, None}
use Rattle.std.proofs.Common.{sym, ◌∙◌, arith}
use Rattle.std.proofs.Math.Path.{ap, ap₂}
use mathlib.Core.List.{List, [], ◌∷◌, ◌++◌}
use Rattle.fields.specs.Field.{Bytes, field, digits}
use Rattle.rules.specs.Words.{all, each}
use Rattle.rules.specs.Bounds.{most_records}
use Rattle.rules.specs.Book.{empty_book}
use Rattle.rules.specs.Sound.{is_code}
use Rattle.rules.specs.Calls.{Call}
use Rattle.rules.specs.Records.{Record, create, call, unreadable, length_of, front_of, in_place, other_version, too_long}
use Rattle.rules.specs.CallFile.{Answer, Placed, Contents, is_unreadable, records_from, behind_version, records_in, before, contents, contents_of, left, played, played_from, nineteen, file_of, answers_of}
use Rattle.rules.specs.Sheet.{text_of, answer_lines, book_lines, ended, lines_of, refused_sheet, sheet_of}
use Rattle.rules.specs.declared.Book.{Book}
use Rattle.laws.specs.Cases.{true_false, cond_yes, cond_no}
use Rattle.sheet_laws.specs.AnswersFew.{file_few}
use Rattle.sheet_laws.specs.AnswersFit.{file_fits}
use Rattle.sheet_laws.specs.BookLeft.{is_there}
use Rattle.sheet_laws.proofs.Bounded.{sheet_bytes_lem}
use Rattle.sheet.specs.Answers.{code, length_codes, answersIn, placeFits, places-fit, answers-back}
use Rattle.sheet.specs.Whole.{lines_above, sheet_lines, sheet_text, Printable}

-- ── the bytes of the answers are read back ──

bytes_are : (file : List ℕ) → answers_of file ≡ each code (file_of file).answers
unfolding answers_of
bytes_are file = refl

-- how many answers stand in their bytes
pub length_bytes : (file : List ℕ) → length (answers_of file) ≡ length (file_of file).answers * 9
length_bytes file = ap length (bytes_are file) ∙ length_codes (file_of file).answers

pub answers_are : (file : List ℕ) → too_long file ≡ false → answersIn (answers_of file) ≡ (file_of file).answers
answers_are file e = ap answersIn (bytes_are file) ∙ answers-back (file_of file).answers (file_fits file e)

-- ── whether a book exists: the first answer is the create's ──

played_there : (k : Book) (cs : List Call) → is_there (played k cs).book ≡ true
unfolding played is_there
played_there k [] = refl
played_there k (c ∷ cs) = played_there (left k c) cs

-- what begins a file is a create, or unreadable
unfoldable is_call : Record → Bool
is_call (create codes) = false
is_call (call c) = true
is_call unreadable = false

no_call : (says : Record) → is_call (in_place 1 says) ≡ false
unfolding is_call in_place
no_call (create codes) = go (eqb 1 1 && all is_code codes)
  where
    go : (b : Bool) → is_call (cond b (create codes) unreadable) ≡ false
    go true = refl
    go false = refl
no_call (call c) = refl
no_call unreadable = refl

none_called : is_call unreadable ≡ false
unfolding is_call
none_called = refl

-- so there is a create, or a place of a 19
unfoldable Begun : Contents → Type 0
Begun c = is_there c.codes || is_there c.place ≡ true

begun_by : (r : Placed) (says : Record) (rest : Contents) → is_call says ≡ false → Begun (before r says rest)
unfolding Begun before is_there is_call
begun_by r (create codes) rest e = refl
begun_by r (call c) rest e = true_false refl e
begun_by r unreadable rest e = refl

begun_behind : (bs : List ℕ) → Begun (contents (behind_version bs))
unfolding behind_version records_from contents
begun_behind [] = begun_by (record { place = 1; says = unreadable }) unreadable (contents []) none_called
begun_behind (b ∷ bs) =
    let says = in_place 1 (front_of (b ∷ bs)) in
    begun_by (record { place = 1; says = says }) says (contents (cond (is_unreadable says) [] (records_from (suc (length_of (b ∷ bs))) 2 bs))) (no_call (front_of (b ∷ bs)))

begun_file : (file : List ℕ) → Begun (contents_of file)
unfolding contents_of records_in contents
begun_file file = go (other_version file)
  where
    go : (b : Bool) → Begun (contents (cond b (record { place = 0; says = unreadable } ∷ []) (behind_version (drop 1 file))))
    go true = begun_by (record { place = 0; says = unreadable }) unreadable (contents []) none_called
    go false = begun_behind (drop 1 file)

first_answer : (codes : Option (List ℕ)) (cs : List Call) (place : Option ℕ) (rest : List ℕ) → is_there codes || is_there place ≡ true
    → eqb (field 1 0 (each code ((played_from codes cs).answers ++ nineteen place) ++ rest)) 0 ≡ is_there (played_from codes cs).book
unfolding is_there played_from nineteen each digits field
first_answer (Some codes) cs place rest h = sym (played_there (empty_book codes) cs)
first_answer None cs (Some place) rest h = refl
first_answer None cs None rest h = true_false h refl

pub exists_is : (file rest : List ℕ) → eqb (field 1 0 (answers_of file ++ rest)) 0 ≡ is_there (file_of file).book
unfolding Begun file_of
exists_is file rest =
    let c = contents_of file in
    ap (λ (bs : List ℕ). eqb (field 1 0 (bs ++ rest)) 0) (bytes_are file) ∙ first_answer c.codes c.calls c.place rest (begun_file file)

-- the book that is read back where there is one
pub book_is : (exists : Bool) (k : Book) (b : Option Book) → exists ≡ is_there b → ((m : Book) → b ≡ Some m → k ≡ m) → cond exists (Some k) None ≡ b
unfolding is_there
book_is exists k None e h = cond_no (Some k) None e
book_is exists k (Some m) e h = cond_yes (Some k) None e ∙ ap Some (h m refl)

-- ── the sheet of the file ──

module _ (file : List ℕ) (book : Option Book) (short : too_long file ≡ false) where
  pub sheet_is_file : book ≡ (file_of file).book → sheet_text (answers_of file) book ≡ sheet_of file
  unfolding sheet_text sheet_lines lines_above sheet_of lines_of
  sheet_is_file e =
      ap₂ (λ (l : List Answer) (b : Option Book). each text_of (ended (answer_lines 0 l ++ book_lines b))) (answers_are file short) e
      ∙ ap (each text_of) (sym (cond_no refused_sheet (lines_of (file_of file)) short))

  pub printable_file : Bytes file → book ≡ (file_of file).book → ((k : Book) → book ≡ Some k → k.records ≤ most_records) → Printable (answers_of file) book
  printable_file bytes e few =
      record {
        few = omega (arith, length_bytes file, file_few file short);
        places = ap (all placeFits) (answers_are file short) ∙ places-fit (file_of file).answers (file_fits file short);
        records = few;
        short = omega (arith, ap length (sheet_is_file e), sheet_bytes_lem file bytes);
      }

pub refused_is_file : (file : List ℕ) → too_long file ≡ true → each text_of refused_sheet ≡ sheet_of file
unfolding sheet_of
refused_is_file file e = ap (each text_of) (sym (cond_yes refused_sheet (lines_of (file_of file)) e))
