-- The book that a file leaves, read back from its bytes: so the sheet can be written from what the file's call leaves, the bytes of the answers and
-- those of the book.
use Rattle.std.specs.Prelude.{◌≡◌, false, cond, List, ◌++◌, ℕ, ◌≤◌, eqb, Option, Some, None}
use Rattle.std.proofs.Math.Path.{refl, ap}
use Rattle.std.proofs.Common.{sym, ◌∙◌}
use Rattle.fields.specs.Field.{field, Bytes}
use Rattle.rules.specs.Bounds.{most_records}
use Rattle.rules.specs.Layout.{book_of}
use Rattle.rules.specs.LayoutLaws.{book_bytes}
use Rattle.rules.specs.Records.{too_long}
use Rattle.rules.specs.CallFile.{file_of, answers_of, bytes_left}
use Rattle.rules.specs.Sheet.{sheet_of}
use Rattle.rules.specs.declared.Book.{Book}
use Rattle.laws.specs.SoundRun.{sound_runnable}
use Rattle.sheet_laws.specs.BookLeft.{is_there, file_left}
use Rattle.sheet.specs.Whole.{sheet_text, Printable}
use Rattle.sheet.specs.OfFile.{exists_is, book_is, printable_file, sheet_is_file}

-- ── the sheet from the bytes of the answers and of the book ──

-- the book in some bytes, if the first answer, which is the create's, is no refusal
abbrev pub book_in : List ℕ → List ℕ → Option Book
book_in answers room = cond (eqb (field 1 0 answers) 0) (Some (book_of room)) None

-- where there is a book its bytes do not hang on what stood in the room
pub left_bytes : (old room : List ℕ) (b : Option Book) → bytes_left room b ≡ cond (is_there b) (bytes_left old b) room
unfolding bytes_left is_there
left_bytes old room None = refl
left_bytes old room (Some m) = refl

module _ (file rest old : List ℕ) (bytes : Bytes file) (short : too_long file ≡ false) where
  abbrev left : Option Book
  left = book_in (answers_of file ++ rest) (bytes_left old (file_of file).book)

  same_book : (m : Book) → (file_of file).book ≡ Some m → book_of (bytes_left old (file_of file).book) ≡ m
  unfolding bytes_left
  same_book m e = ap (λ (b : Option Book). book_of (bytes_left old b)) e ∙ book_bytes m (file_left file bytes m e).fits

  few_records : (m : Book) → (file_of file).book ≡ Some m → m.records ≤ most_records
  few_records m e = (sound_runnable m (file_left file bytes m e).is_sound).few

  pub there : left ≡ (file_of file).book
  there = book_is (eqb (field 1 0 (answers_of file ++ rest)) 0) (book_of (bytes_left old (file_of file).book)) (file_of file).book (exists_is file rest) same_book

  pub bytes_printable : Printable (answers_of file) left
  bytes_printable = printable_file file left short bytes there (λ m e. few_records m (sym there ∙ e))

  pub bytes_sheet : sheet_text (answers_of file) left ≡ sheet_of file
  bytes_sheet = sheet_is_file file left short there
