-- The whole call file (document 01, "Call file and sheet"): its records in order, the answers that they get, and the book that they leave.
use Rattle.std.specs.Prelude.{Bool, true, false, cond, ◌||◌, List, [], ◌∷◌, ◌++◌, ℕ, zero, suc, eqb, length, drop, Option, Some, None}
use Rattle.fields.specs.Field.{digits}
use Rattle.rules.specs.Words.{each, above}
use Rattle.rules.specs.Book.{empty_book}
use Rattle.rules.specs.Layout.{bytes_of}
use Rattle.rules.specs.Calls.{Call, answer, figure, after}
use Rattle.rules.specs.Records.{Record, create, call, unreadable, length_of, front_of, in_place, other_version, file_refused}
use Rattle.rules.specs.declared.Book.{Book}

-- ── the whole file: its records in order, up to the first unreadable one ──

pub record Placed : Type 0 where
  pub place : ℕ
  pub says : Record

abbrev placed : ℕ → Record → Placed
placed place says = record { place = place; says = says }

unfoldable pub is_unreadable : Record → Bool
is_unreadable (create codes) = false
is_unreadable (call c) = false
is_unreadable unreadable = true

-- from a place on; the next `skip` bytes belong to the record before
unfoldable pub records_from : ℕ → ℕ → List ℕ → List Placed
records_from skip place [] = []
records_from (suc skip) place (b ∷ bs) = records_from skip (suc place) bs
records_from zero place (b ∷ bs) =
    let r = in_place place (front_of (b ∷ bs)) in
    let rest = records_from (suc (length_of (b ∷ bs))) (suc place) bs in
    placed place r ∷ cond (is_unreadable r) [] rest

-- a version with no record after it: place 1
unfoldable pub behind_version : List ℕ → List Placed
behind_version [] = placed 1 unreadable ∷ []
behind_version (b ∷ bs) = records_from 0 1 (b ∷ bs)

-- 0 for the version
unfoldable pub records_in : List ℕ → List Placed
records_in file = let good = behind_version (drop 1 file) in cond (other_version file) (placed 0 unreadable ∷ []) good

-- what was read: the codes of the create, the calls behind it, and the byte place where an unreadable record begins
pub record Contents : Type 0 where
  pub codes : Option (List ℕ)
  pub calls : List Call
  pub place : Option ℕ

unfoldable pub before : Placed → Record → Contents → Contents
before r (create codes) rest = record { codes = Some codes; calls = rest.calls; place = rest.place }
before r (call c) rest = record { codes = rest.codes; calls = c ∷ rest.calls; place = rest.place }
before r unreadable rest = record { codes = None; calls = []; place = Some r.place }

unfoldable pub contents : List Placed → Contents
contents [] = record { codes = None; calls = []; place = None }
contents (r ∷ rs) = before r r.says (contents rs)

unfoldable pub contents_of : List ℕ → Contents
contents_of file = contents (records_in file)

-- ── the calls meet the book one after another ──

-- the answer to a record: its number, and its figure (shares moved, or the place of a 19; as Records.figureOfRecord)
pub record Answer : Type 0 where
  pub number : ℕ
  pub figure : ℕ

-- the answers of the records, and the book that they leave, if one came into being
pub record Played : Type 0 where
  pub answers : List Answer
  pub book : Option Book

unfoldable pub answered : Book → Call → Answer
answered k c = record { number = answer k c; figure = cond (eqb (answer k c) 0) (figure k c) 0 }

-- a refused record leaves the book as it was
unfoldable pub left : Book → Call → Book
left k c = cond (eqb (answer k c) 0) (after k c) k

unfoldable pub played : Book → List Call → Played
played k [] = record { answers = []; book = Some k }
played k (c ∷ cs) = let r = played (left k c) cs in record { answers = answered k c ∷ r.answers; book = r.book }

-- the create is the record of index 0; it is accepted and begins a new history
unfoldable pub played_from : Option (List ℕ) → List Call → Played
played_from None cs = record { answers = []; book = None }
played_from (Some codes) cs =
    let r = played (empty_book codes) cs in
    record { answers = record { number = 0; figure = 0 } ∷ r.answers; book = r.book }

-- A 19 is the answer of the unreadable record's own call, and its figure is the place; those before it stand.
unfoldable pub nineteen : Option ℕ → List Answer
nineteen None = []
nineteen (Some place) = record { number = 19; figure = place } ∷ []

unfoldable pub file_of : List ℕ → Played
file_of file =
    let c = contents_of file in
    let p = played_from c.codes c.calls in
    record { answers = p.answers ++ nineteen c.place; book = p.book }

-- ── the whole file as one call: a book, a file and a lent buffer for the answers, 9 bytes each (number 1, figure 8) ──

unfoldable pub answers_of : List ℕ → List ℕ
answers_of file = each (λ a. digits 1 a.number ++ digits 8 a.figure) (file_of file).answers

-- 18, also where the answers do not fit; then nothing is altered. A file with a 19 is accepted here, and its last answer is the 19.
unfoldable pub whole_refused : List ℕ → List ℕ → List ℕ → Bool
whole_refused book file answers = file_refused book file || above (length answers) (length (answers_of file))

unfoldable pub whole_answer : List ℕ → List ℕ → List ℕ → ℕ
whole_answer book file answers = cond (whole_refused book file answers) 18 0

-- how many bytes the answers take: zero when refused
unfoldable pub whole_size : List ℕ → List ℕ → List ℕ → ℕ
whole_size book file answers = cond (whole_refused book file answers) 0 (length (answers_of file))

-- the answers, and bytes beyond them stay
unfoldable pub whole_answers : List ℕ → List ℕ → List ℕ → List ℕ
whole_answers book file answers =
    cond (whole_refused book file answers) answers (answers_of file ++ drop (length (answers_of file)) answers)

-- the book that the file leaves: as it was where none came into being
unfoldable pub bytes_left : List ℕ → Option Book → List ℕ
bytes_left old None = old
bytes_left old (Some k) = bytes_of k

unfoldable pub whole_bytes : List ℕ → List ℕ → List ℕ → List ℕ
whole_bytes book file answers = cond (whole_refused book file answers) book (bytes_left book (file_of file).book)
