-- The whole file and the whole sheet as calls over lent bytes, on the example, for any book of the right length.
use Rattle.std.specs.Prelude.{◌≡◌, refl, false, List, [], ◌∷◌, ◌++◌, ℕ, replicate, length}
use Rattle.rules.specs.Words.{text}
use Rattle.rules.specs.Records.{too_long, file_refused}
use Rattle.rules.specs.CallFile.{answers_of, whole_refused, whole_answer, whole_size, whole_answers}
use Rattle.rules.specs.Sheet.{sheet_refused, sheet_answer, sheet_size, sheet_bytes, sheet_book}
use Rattle.rules.specs.Example.{example, sheet, the_example}
use Rattle.rules.specs.Opened.{everything, values}
use Rattle.rules.specs.Written.{hex}

abbrev IsLong : (List ℕ → Type 0) → Type 0
IsLong p = (room : List ℕ) → length room ≡ 42_278 → p room

-- ── eight records, 9 bytes each: the run answers 650 shares, the others have no figure ──

abbrev answers : List ℕ
answers = replicate 63 0 ++ hex "00 000000000000028a"

figures : answers_of example ≡ answers
unfolding everything
figures = refl

-- a 19 is the last answer, and its figure is the place
damaged : answers_of (example ++ hex "0001 09") ≡ answers ++ hex "13 0000000000000068"
unfolding everything
damaged = refl

-- what holds of any room of a book's length and any file whose answers take 72 bytes, as the example
abbrev IsPlayed : (List ℕ → List ℕ → List ℕ → Type 0) → Type 0
IsPlayed p =
    (room file said : List ℕ) → length room ≡ 42_278 → too_long file ≡ false → answers_of file ≡ said → length said ≡ 72 → p room file said

not_long : too_long example ≡ false
unfolding everything
not_long = refl

seventy_two : length answers ≡ 72
unfolding everything
seventy_two = refl

-- bytes beyond the answers stay; a buffer one byte short is refused and stays
answered : IsPlayed (λ room file said. whole_answers room file (replicate 74 7) ≡ said ++ (7 ∷ 7 ∷ []))
unfolding whole_answers whole_refused file_refused
answered room file said h n f l = rw (whole_answers, whole_refused, file_refused, h, n, f, l)

too_short : IsPlayed (λ room file said. whole_answer room file (replicate 71 7) ∷ whole_size room file (replicate 71 7) ∷ [] ≡ 18 ∷ 0 ∷ [])
unfolding whole_answer whole_size whole_refused file_refused
too_short room file said h n f l = rw (whole_answer, whole_size, whole_refused, file_refused, h, n, f, l)

stays : IsPlayed (λ room file said. whole_answers room file (replicate 71 7) ≡ replicate 71 7)
unfolding whole_answers whole_refused file_refused
stays room file said h n f l = rw (whole_answers, whole_refused, file_refused, h, n, f, l)

-- ── the sheet: 104 bytes of file, 102 of sheet ──

size : IsLong (λ room. sheet_answer room example (replicate 103 7) ∷ sheet_size room example (replicate 103 7) ∷ [] ≡ 0 ∷ 102 ∷ [])
unfolding sheet_answer sheet_size sheet_refused text
size room h = rw (sheet_answer, sheet_size, sheet_refused, h, the_example)

printed : IsLong (λ room. sheet_bytes room example (sheet ++ (7 ∷ 7 ∷ [])) ≡ sheet ++ (7 ∷ 7 ∷ []))
unfolding sheet_bytes sheet_refused text
printed room h = rw (sheet_bytes, sheet_refused, h, the_example)

no_room : IsLong (λ room. sheet_answer room example [] ∷ sheet_size room example [] ∷ [] ≡ 18 ∷ 0 ∷ [])
unfolding sheet_answer sheet_size sheet_refused text
no_room room h = rw (sheet_answer, sheet_size, sheet_refused, h, the_example)

-- a file past 65,535 bytes has its sheet too, and leaves the book
too_long_lem : (room file buffer : List ℕ) → length room ≡ 42_278 → length file ≡ 65_536 → length buffer ≡ 20 → sheet_book room file buffer ≡ room
unfolding values
too_long_lem room file buffer h f b = rw (sheet_book, sheet_refused, too_long, h, b, f)
