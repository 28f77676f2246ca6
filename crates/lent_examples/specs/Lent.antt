-- Calls over lent bytes: creation, a deposit, refusals that keep every byte, the records of the example one by one, the price question's part. Most are about any
-- bytes that are a sound book, and that book: `not_sound bs ≡ false` and `book_of bs ≡ k`; or about any bytes of a book's length.
use Rattle.std.specs.Prelude.{◌≡◌, refl, false, List, [], ◌∷◌, ◌++◌, ℕ, length, replicate, take, drop, pos, Ok, Err}
use Rattle.units.specs.Units.{shares}
use Rattle.rules.specs.Book.{empty_book}
use Rattle.rules.specs.Layout.{book_of, bytes_of}
use Rattle.rules.specs.Sound.{not_sound}
use Rattle.rules.specs.Prices.{price_part, price_spot}
use Rattle.rules.specs.Calls.{deposit, withdraw, answer_bytes, after_bytes, figure_bytes, create_tests, create_answer, create_bytes, run_answer}
use Rattle.rules.specs.Records.{too_long, file_refused, applies, record_answer, record_bytes}
use Rattle.rules.specs.Example.{example}
use Rattle.rules.specs.Opened.{everything, values}
use Rattle.rules.specs.Written.{hex, created, book_with}
use Rattle.rules.specs.declared.Book.{Book}
use Rattle.rules.specs.declared.RecordAnswer.{RecordAnswer}
use Rattle.rules.specs.declared.RecordAnswer.TheVariants.{Answered, Unreadable, Ended, FileRefused}

-- a statement about any bytes of a book's length; about any that are the sound book k
abbrev long : (List ℕ → Type 0) → Type 0
long p = (bs : List ℕ) → length bs ≡ 42_278 → p bs

abbrev IsBook : Book → (List ℕ → Type 0) → Type 0
IsBook k p = (bs : List ℕ) → not_sound bs ≡ false → book_of bs ≡ k → p bs

-- ── creation looks at no old byte ──

unfoldable codes : List ℕ
codes = 0 ∷ replicate 31 255

unfoldable empty : Book
empty = book_with (0 ∷ [])

unfoldable fresh : List ℕ
fresh = bytes_of empty

created_anew : long (λ bs. create_bytes bs codes ≡ bytes_of (empty_book codes))
unfolding values codes
created_anew bs h = rw (create_bytes, create_answer, create_tests, h)

-- a refused creation keeps every byte
not_created : long (λ bs. create_bytes bs (replicate 32 4) ≡ bs)
unfolding values
not_created bs h = rw (create_bytes, create_answer, create_tests, h)

-- the bytes of the empty book are that book, and sound
read_back : book_of fresh ≡ empty_book codes
unfolding everything codes empty fresh
read_back = refl

is_sound : not_sound fresh ≡ false
unfolding everything empty fresh
is_sound = refl

-- ── a deposit of 5 to account 1 changes one byte: the last of holding 1 * 32 + 0, at 20,516 + 32 * 8 + 7 ──

deposited : after_bytes fresh (deposit 1 0 5) ≡ take 20_779 fresh ++ (5 ∷ drop 20_780 fresh)
unfolding everything empty fresh
deposited = refl

-- a refused withdrawal keeps every byte
refused : IsBook empty (λ bs. answer_bytes bs (withdraw 1 0 5) ≡ 11)
unfolding values empty
refused bs s b = rw (answer_bytes, b, s)

kept : IsBook empty (λ bs. after_bytes bs (withdraw 1 0 5) ≡ bs)
unfolding values empty
kept bs s b = rw (after_bytes, answer_bytes, b, s)

-- ── a run answers the shares moved, 0 included ──

nothing_moves : IsBook empty (λ bs. run_answer bs 0 ≡ Ok (shares (pos 0)))
unfolding values empty
nothing_moves bs s b = rw (run_answer, figure_bytes, answer_bytes, b, s)

unlisted : IsBook empty (λ bs. run_answer bs 1 ≡ Err 3)
unfolding values empty
unlisted bs s b = rw (run_answer, figure_bytes, answer_bytes, b, s)

-- ── the records of the example: the create at place 1, the first trade at 36, the run at 100, the end at 104 ──

abbrev answered : ℕ → ℕ → RecordAnswer
answered number next = Answered number (shares (pos 0)) next

the_create : long (λ bs. record_answer bs example 1 ≡ answered 0 36)
unfolding values
the_create bs h = rw (record_answer, file_refused, too_long, h)

begins : long (λ bs. record_bytes bs example 1 ≡ bytes_of (empty_book codes))
unfolding values codes
begins bs h = rw (record_bytes, applies, record_answer, file_refused, too_long, h)

-- over the bytes of the empty book
first_trade : record_answer fresh example 36 ≡ answered 0 52
unfolding everything empty fresh
first_trade = refl

-- on bytes that are no sound book the record's own answer is 1
unfoldable junk : List ℕ
junk = replicate 42_278 7

not_sound_lem : record_answer junk example 36 ≡ answered 1 52
unfolding everything junk
not_sound_lem = refl

the_end : record_answer junk example 104 ≡ Ended
unfolding everything junk
the_end = refl

-- no record begins at place 0, and nothing is altered
no_record_there : record_answer junk example 0 ≡ Unreadable 0
unfolding everything junk
no_record_there = refl

stays : record_bytes junk example 0 ≡ junk
unfolding everything junk
stays = refl

-- another version is unreadable whatever the place; a version alone is unreadable at place 1
other_version_lem : long (λ bs. record_answer bs (hex "02 0001 04") 52 ≡ Unreadable 0)
unfolding values
other_version_lem bs h = rw (record_answer, file_refused, too_long, h)

version_alone : long (λ bs. record_answer bs (hex "01") 1 ≡ Unreadable 1)
unfolding values
version_alone bs h = rw (record_answer, file_refused, too_long, h)

-- a place is where the caller says that a record begins: inside this trade bought by account 4 a roll can be read
inside : record_answer fresh (created (0 ∷ []) ++ hex "000e 01 0001 04 02 00 00000001 00000001") 39 ≡ answered 0 42
unfolding everything empty fresh
inside = refl

wrong_book : (bs : List ℕ) → length bs ≡ 42_277 → record_answer bs example 1 ≡ FileRefused 18
unfolding values
wrong_book bs h = rw (record_answer, file_refused, too_long, h)

-- ── the price question hands out the entry itself ──

-- closing 1 and 2; intraday none and 9,999,999
abbrev closing : List ℕ
closing = 0 ∷ 0 ∷ 0 ∷ 1 ∷ 0 ∷ 0 ∷ 0 ∷ 2 ∷ replicate 120 0

abbrev intraday : List ℕ
intraday = 0 ∷ 0 ∷ 0 ∷ 0 ∷ 0 ∷ 152 ∷ 150 ∷ 127 ∷ replicate 120 0

from_closing_lem : price_part intraday closing 0 ≡ hex "00000001"
unfolding everything
from_closing_lem = refl

from_intraday : price_part intraday closing 1 ≡ hex "0098967f"
unfolding everything
from_intraday = refl

-- tables that begin at byte 5 of region 1 and byte 9 of region 2
closing_spot : price_spot intraday closing 0 (1, 5) (2, 9) ≡ (2, 9)
unfolding everything
closing_spot = refl

intraday_spot : price_spot intraday closing 1 (1, 5) (2, 9) ≡ (1, 9)
unfolding everything
intraday_spot = refl

no_spot : price_spot intraday closing 31 (1, 5) (2, 9) ≡ (1, 5)
unfolding everything
no_spot = refl

nothing_there : price_part intraday closing 31 ≡ []
unfolding everything
nothing_there = refl
