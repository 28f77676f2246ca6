-- The order of marks' refusals: 1, 2, 18, 5, 15, 17, 16, on any bytes that are a sound book, and that book. (16, and each number with faults of all that come
-- later: rules/specs/MarkReadings.)
use Rattle.std.specs.Prelude.{◌≡◌, refl, true, false, List, [], ◌∷◌, map, ℕ, length, replicate, pos, neg_ℤ}
use Rattle.rules.specs.Book.{with_open}
use Rattle.rules.specs.Layout.{book_of, bytes_of}
use Rattle.rules.specs.Sound.{sound, not_sound}
use Rattle.rules.specs.Marks.{Terms, terms, marks_tests, marks_number}
use Rattle.rules.specs.Opened.{everything, values}
use Rattle.rules.specs.Written.{at, book_with}
use Rattle.rules.specs.MarkReadings.{none, short, dear, rates, haircuts}
use Rattle.rules.specs.declared.Book.{Book}

-- a row: an account, what it is asked with, and the number of document 01
abbrev Row : Type 0
Row = ℕ × (Terms × ℕ)

abbrev said : List ℕ → List Row → List ℕ
said bs rows = map (λ (r : Row). marks_number bs r.0 r.1.0) rows

abbrev paper : List Row → List ℕ
paper rows = map (λ (r : Row). r.1.1) rows

-- every sound book that is k answers so
abbrev IsNumbered : Book → List Row → Type 0
IsNumbered k rows = (bs : List ℕ) → not_sound bs ≡ false → book_of bs ≡ k → said bs rows ≡ paper rows

-- ── 1: bytes that are no sound book, and a book of wrong length, whatever its bytes ──

no_book : marks_number (replicate 42_278 7) 64 (terms short short [] []) ≡ 1
unfolding everything
no_book = refl

wrong_length : (bs : List ℕ) (a : ℕ) (t : Terms) → length bs ≡ 42_277 → marks_number bs a t ≡ 1
unfolding values not_sound
wrong_length bs a t h = rw (marks_number, marks_tests, not_sound, h)

-- ── 2, 18, 5 ──

unfoldable empty : Book
empty = book_with (0 ∷ [])

abbrev first_ones : List Row
first_ones =
    (64, (terms short short [] [], 2)) ∷
    (63, (terms dear short rates haircuts, 18)) ∷
    (63, (terms dear none (replicate 3 0) haircuts, 18)) ∷
    (63, (terms dear none rates (replicate 5 0), 18)) ∷
    (63, (terms dear none (replicate 4 0) haircuts, 5)) ∷
    (63, (terms none dear (replicate 4 0) haircuts, 5)) ∷
    []

first_ones_are : IsNumbered empty first_ones
unfolding values empty
first_ones_are bs h b = rw (marks_number, marks_tests, h)

-- ── 15, and 17 behind it: account 1 is to receive a share of account 2 ──

unfoldable open_book : Book
open_book = with_open (book_with (0 ∷ [])) (at 1 1 0 (pos 1) (pos 0) ∷ at 1 2 0 (neg_ℤ (pos 1)) (pos 0) ∷ [])

abbrev bad_rates_lem : List Row
bad_rates_lem =
    (1, (terms none none (1_000_000 ∷ 0 ∷ 1 ∷ 1 ∷ []) haircuts, 15)) ∷
    (1, (terms none none (1_000_000 ∷ 1 ∷ 1 ∷ 100_000_001 ∷ []) haircuts, 15)) ∷
    (1, (terms none none rates (0 ∷ 0 ∷ 0 ∷ 10_001 ∷ []), 15)) ∷
    (1, (terms none none (1_000_001 ∷ 1 ∷ 1 ∷ 1 ∷ []) haircuts, 15)) ∷
    (1, (terms none none rates (1 ∷ 0 ∷ 0 ∷ 0 ∷ []), 15)) ∷
    []

bad_rates_are : IsNumbered open_book bad_rates_lem
unfolding values open_book
bad_rates_are bs h b = rw (marks_number, marks_tests, h)

abbrev wanted_prices : List Row
wanted_prices =
    (1, (terms none none (1_000_000 ∷ 1 ∷ 100_000_000 ∷ 1 ∷ []) (0 ∷ 10_000 ∷ 0 ∷ 0 ∷ []), 17)) ∷
    -- an account that has no record wants no price
    (3, (terms none none rates haircuts, 0)) ∷
    []

wanted_prices_are : IsNumbered open_book wanted_prices
unfolding values open_book
wanted_prices_are bs h b = rw (marks_number, marks_tests, b, h)

-- both books are sound
sounds : map sound (empty ∷ open_book ∷ []) ≡ true ∷ true ∷ []
unfolding everything empty open_book
sounds = refl

-- ── over bytes ──

over_bytes : marks_number (bytes_of open_book) 1 (terms none none rates haircuts) ≡ 17
unfolding everything open_book
over_bytes = refl
