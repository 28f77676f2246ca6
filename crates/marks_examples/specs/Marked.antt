-- Marks: source document 001, 10.10.4 and 10.10.6, and the limit of refusal 16 at and past it, on any bytes that are a sound book, and that book.
use Rattle.std.specs.Prelude.{◌≡◌, refl, true, List, [], ◌∷◌, ◌++◌, map, ℕ, replicate, ℤ, pos, neg_ℤ, Err}
use Rattle.rules.specs.Words.{each, from}
use Rattle.rules.specs.Book.{with_open, with_day}
use Rattle.rules.specs.Layout.{bytes_of}
use Rattle.rules.specs.Sound.{sound}
use Rattle.rules.specs.Marks.{Terms, terms, marks_tests, marks_number, marks}
use Rattle.rules.specs.Opened.{everything, values}
use Rattle.rules.specs.Written.{at, book_with}
use Rattle.rules.specs.MarkReadings.{IsAnswered, due, none, rates, haircuts, delivery, owing, crowded}
use Rattle.rules.specs.declared.Book.{Book}

-- ── 10.10.4: securities 0 and 1 in the base, 2 and 3 in currency 1 at 7.8 with a haircut of 0.5 % ──

unfoldable two_currencies : Book
two_currencies =
    with_open (book_with (0 ∷ 0 ∷ 1 ∷ 1 ∷ []))
    (at 1 1 0 (neg_ℤ (pos 100)) (neg_ℤ (pos 100_000)) ∷
    at 1 1 1 (pos 200) (pos 220_000) ∷
    at 1 1 2 (neg_ℤ (pos 200)) (neg_ℤ (pos 200_000)) ∷
    at 1 1 3 (pos 100) (pos 100_000) ∷
    at 1 2 0 (pos 100) (pos 100_000) ∷
    at 1 2 1 (neg_ℤ (pos 200)) (neg_ℤ (pos 220_000)) ∷
    at 1 2 2 (pos 200) (pos 200_000) ∷
    at 1 2 3 (neg_ℤ (pos 100)) (neg_ℤ (pos 100_000)) ∷
    [])

-- 1,100, 1,200, 1,200, 1,100
abbrev prices : List ℕ
prices = 0 ∷ 0 ∷ 4 ∷ 76 ∷ 0 ∷ 0 ∷ 4 ∷ 176 ∷ 0 ∷ 0 ∷ 4 ∷ 176 ∷ 0 ∷ 0 ∷ 4 ∷ 76 ∷ replicate 112 0

abbrev v12_terms : Terms
v12_terms = terms none prices (1_000_000 ∷ 7_800_000 ∷ 1_000_000 ∷ 1_000_000 ∷ []) (0 ∷ 50 ∷ 0 ∷ 0 ∷ [])

v12 : IsAnswered two_currencies 1 v12_terms (due 225_170 (pos 10_000) (neg_ℤ (pos 30_000)) (pos 0))
unfolding values two_currencies
v12 bs h b = rw (marks, marks_number, marks_tests, b, h)

-- the same over its bytes
v12_bytes : marks (bytes_of two_currencies) 1 v12_terms ≡ due 225_170 (pos 10_000) (neg_ℤ (pos 30_000)) (pos 0)
unfolding everything two_currencies
v12_bytes = refl

-- ── 10.10.6: overdue positions; one account's loss is the other's gain, and the gain covers nothing ──

unfoldable overdue : Book
overdue =
    with_day
    (with_open (book_with (0 ∷ 0 ∷ []))
    (at 1 1 0 (neg_ℤ (pos 100)) (neg_ℤ (pos 100_000)) ∷
    at 1 1 1 (pos 200) (pos 220_000) ∷
    at 1 2 0 (pos 100) (pos 100_000) ∷
    at 1 2 1 (neg_ℤ (pos 200)) (neg_ℤ (pos 220_000)) ∷
    []))
    2

v13_first : IsAnswered overdue 1 (terms none prices rates haircuts) (due 0 (pos 10_000) (pos 0) (pos 0))
unfolding values overdue
v13_first bs h b = rw (marks, marks_number, marks_tests, b, h)

v13_second : IsAnswered overdue 2 (terms none prices rates haircuts) (due 10_000 (neg_ℤ (pos 10_000)) (pos 0) (pos 0))
unfolding values overdue
v13_second bs h b = rw (marks, marks_number, marks_tests, b, h)

-- ── refusal 16: 18 records of 0 shares with 2.5 * 10^15 to pay, at the highest rate with the whole haircut ──

unfoldable heavy : ℤ → Book
heavy m = with_open (book_with (replicate 18 1)) (at 1 1 0 (pos 0) m ∷ map (λ s. at 1 1 s (pos 0) (pos 2_500_000_000_000_000)) (from 1 17))

abbrev highest : ℕ → List ℕ → Terms
highest haircut closing = terms none closing (1_000_000 ∷ 100_000_000 ∷ 1_000_000 ∷ 1_000_000 ∷ []) (0 ∷ haircut ∷ 0 ∷ 0 ∷ [])

at_the_limit : IsAnswered (heavy (pos 2_500_000_000_000_000)) 1 (highest 10_000 none)
    (due 9_000_000_000_000_000_000 (pos 0) (neg_ℤ (pos 45_000_000_000_000_000)) (pos 0))
unfolding values heavy
at_the_limit bs h b = rw (marks, marks_number, marks_tests, b, h)

past_it : IsAnswered (heavy (pos 2_500_000_000_000_001)) 1 (highest 10_000 none) (Err 16)
unfolding values heavy
past_it bs h b = rw (marks, marks_number, marks_tests, b, h)

-- 17 before 16: one record more, with shares and no price
unfoldable priceless : Book
priceless =
    with_open (book_with (replicate 19 1))
    (at 1 1 0 (pos 0) (pos 2_500_000_000_000_001) ∷
    (map (λ s. at 1 1 s (pos 0) (pos 2_500_000_000_000_000)) (from 1 17)
    ++ (at 1 1 18 (pos 1) (pos 0) ∷ at 1 2 18 (neg_ℤ (pos 1)) (pos 0) ∷ [])))

seventeen_first : IsAnswered priceless 1 (highest 10_000 none) (Err 17)
unfolding values priceless
seventeen_first bs h b = rw (marks, marks_number, marks_tests, b, h)

-- ── the favourable total alone passes the limit, though nothing would be due ──

unfoldable gains : Book
gains =
    with_open (book_with (replicate 18 1))
    (map (λ s. at 1 1 s (pos 256_000_000) (neg_ℤ (pos 2_560_000_000_000_000))) (from 0 18)
    ++ map (λ s. at 1 2 s (neg_ℤ (pos 256_000_000)) (pos 0)) (from 0 18))

-- 9,999,999 for each
abbrev top_prices : List ℕ
top_prices = each (λ s. 0 ∷ 152 ∷ 150 ∷ 127 ∷ []) (from 0 18) ++ replicate 56 0

too_favourable : IsAnswered gains 1 (highest 0 top_prices) (Err 16)
unfolding values gains
too_favourable bs h b = rw (marks, marks_number, marks_tests, b, h)

the_other_side : IsAnswered gains 2 (highest 0 top_prices) (due 4_607_999_539_200_000_000 (pos 0) (neg_ℤ (pos 46_079_995_392_000_000)) (pos 0))
unfolding values gains
the_other_side bs h b = rw (marks, marks_number, marks_tests, b, h)

-- with the whole haircut a favourable sum counts 0, and is not refused
counts_nothing : IsAnswered gains 1 (highest 10_000 top_prices) (due 0 (pos 0) (pos 92_159_995_392_000_000) (pos 0))
unfolding values gains
counts_nothing bs h b = rw (marks, marks_number, marks_tests, b, h)

-- ── all these books are sound, and those of rules/specs/MarkReadings ──

books : List Book
books =
    two_currencies ∷ overdue ∷ heavy (pos 2_500_000_000_000_000) ∷ heavy (pos 2_500_000_000_000_001) ∷ priceless ∷ gains ∷
    delivery ∷ owing 9 ∷ owing 10 ∷ crowded ∷ []

sounds : map sound books ≡ replicate 10 true
unfolding everything two_currencies overdue heavy priceless gains delivery owing crowded books
sounds = refl
