-- The order of refusals where document 01 gives one of its own (the price question, creation, the file; marks: MarkReadings), and the
-- refusals that no call file reaches: 1, 10 before 14, 13, 14. Each row: what the rules answer, and the number of document 01.
-- (That fullLastDay is sound, and a deposit over a book's bytes: the crate sheet_examples.)
use Rattle.std.specs.Prelude.{◌≡◌, refl, List, [], ◌∷◌, ◌++◌, map, ℕ, length, replicate, set, pos, neg_ℤ}
use Rattle.rules.specs.Words.{each, from, first}
use Rattle.rules.specs.Book.{with_open, with_day, with_list, with_holdings, holding_at}
use Rattle.rules.specs.Sound.{not_sound}
use Rattle.rules.specs.Prices.{price_answer}
use Rattle.rules.specs.Calls.{Call, roll, run, answer, answer_sound, answer_bytes, create_tests, create_answer}
use Rattle.rules.specs.Records.{too_long, file_refused, record_answer, number_of_record}
use Rattle.rules.specs.Opened.{everything}
use Rattle.rules.specs.Written.{at, deal, book_with}
use Rattle.rules.specs.declared.Book.{Book}

abbrev Row : Type 0
Row = ℕ × ℕ

abbrev said : List Row → List ℕ
said rows = map (λ (r : Row). r.0) rows

abbrev paper : List Row → List ℕ
paper rows = map (λ (r : Row). r.1) rows

-- ── calls that alter the book ──

-- 32 securities, 1,024 records of 0 shares due on 60,001, and a trade: one net too many, and the last day
unfoldable full_last_day : Book
full_last_day =
    with_list
    (with_day (with_open (book_with (replicate 32 0)) (each (λ a. map (λ s. at 60_001 a s (pos 0) (pos 1)) (from 0 32)) (from 0 32))) 60_000)
    (deal 1 1 2 0 1 1 ∷ [])

-- a deliverer with no receiver: not sound, so that 1 comes first
unfoldable lone : Book
lone =
    let k = with_open (book_with (0 ∷ [])) (at 0 1 0 (neg_ℤ (pos 5)) (pos 0) ∷ []) in
    with_holdings k (set k.holdings (holding_at 1 0) 5)

calls : List Row
calls =
    (answer_sound full_last_day roll, 10) ∷
    (answer (with_day (book_with (0 ∷ [])) 60_000) roll, 14) ∷
    (answer (with_day (book_with (0 ∷ [])) 59_999) roll, 0) ∷
    (answer lone (run 0), 1) ∷
    (answer_sound lone (run 0), 13) ∷
    -- bytes that are no sound book
    (answer_bytes (replicate 42_278 7) roll, 1) ∷
    []

calls_are : said calls ≡ paper calls
unfolding everything full_last_day lone calls
calls_are = refl

-- a book of wrong length, whatever its bytes, in every call
wrong_length : (bs : List ℕ) (c : Call) → length bs ≡ 42_279 → answer_bytes bs c ≡ 1
unfolding answer_bytes not_sound first
wrong_length bs c h = rw (answer_bytes, not_sound, h)

-- ── creation: 18, 3; it looks at no old byte ──

too_short : (bs codes : List ℕ) → length bs ≡ 42_277 → create_answer bs codes ≡ 18
unfolding create_answer create_tests first
too_short bs codes h = rw (create_answer, create_tests, h)

abbrev IsCreatedOver : List ℕ → List ℕ → ℕ → Type 0
IsCreatedOver bs codes r = length bs ≡ 42_278 → create_answer bs codes ≡ r

creations : (bs : List ℕ)
    → IsCreatedOver bs (replicate 31 4) 18
    × (IsCreatedOver bs (replicate 33 0) 18
    × (IsCreatedOver bs (replicate 31 0 ++ (254 ∷ [])) 3
    × IsCreatedOver bs (replicate 31 3 ++ (255 ∷ [])) 0))
unfolding everything
creations bs = (
  (λ h. rw (create_answer, create_tests, h)),
  (
    (λ h. rw (create_answer, create_tests, h)),
    (
      (λ h. rw (create_answer, create_tests, h)),
      (λ h. rw (create_answer, create_tests, h)),
    ),
  ),
)

-- ── the price question: 18, 3 (above 31 only), 5, 17 ──

unfoldable none : List ℕ
none = replicate 128 0

unfoldable short : List ℕ
short = replicate 127 255

-- 10,000,000 in entry 31
unfoldable dear : List ℕ
dear = replicate 124 0 ++ (0 ∷ 152 ∷ 150 ∷ 128 ∷ [])

prices : List Row
prices =
    (price_answer none short 32, 18) ∷
    (price_answer dear none 32, 3) ∷
    (price_answer none dear 0, 5) ∷
    (price_answer none none 31, 17) ∷
    []

prices_are : said prices ≡ paper prices
unfolding everything none short dear prices
prices_are = refl

-- ── a file's record: 18, a wrong book length included, then 19 ──

wrong_book : (book file : List ℕ) → length book ≡ 42_277 → length file ≡ 65_535
    → (number_of_record (record_answer book [] 1) ≡ 18) × (number_of_record (record_answer book file 1) ≡ 18)
unfolding record_answer file_refused too_long number_of_record
wrong_book book file h f = (rw (record_answer, file_refused, too_long, h), rw (record_answer, file_refused, too_long, h, f))

long_file : (book file : List ℕ) → length file ≡ 65_536 → number_of_record (record_answer book file 1) ≡ 18
unfolding record_answer file_refused too_long number_of_record
long_file book file f = rw (record_answer, file_refused, too_long, f)

-- no version byte, and another version
unreadable_there : (book file : List ℕ) → length book ≡ 42_278 → length file ≡ 65_534
    → (number_of_record (record_answer book [] 1) ≡ 19) × (number_of_record (record_answer book (0 ∷ file) 1) ≡ 19)
unfolding everything
unreadable_there book file h f = (rw (record_answer, file_refused, too_long, h), rw (record_answer, file_refused, too_long, h, f))
