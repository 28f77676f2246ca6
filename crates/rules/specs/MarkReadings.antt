-- Marks on values (document 01, "Marks" and the order of its refusals). Each theorem is about any bytes that are a sound book, and that book:
-- `not_sound bs ≡ false` and `book_of bs ≡ k`. (That these books are sound, and marks over bytes: the crate marks_examples.)
use Rattle.std.specs.Prelude.{◌≡◌, true, false, List, [], ◌∷◌, ◌++◌, map, ℕ, ◌+◌, replicate, ℤ, pos, neg_ℤ, Result, Ok, Err}
use Rattle.units.specs.Units.{mils}
use Rattle.rules.specs.Words.{from}
use Rattle.rules.specs.Book.{with_open}
use Rattle.rules.specs.Layout.{book_of}
use Rattle.rules.specs.Sound.{not_sound}
use Rattle.rules.specs.Marks.{Terms, terms, marks_tests, marks_number, marks}
use Rattle.rules.specs.Opened.{values}
use Rattle.rules.specs.Written.{at, book_with}
use Rattle.rules.specs.declared.Book.{Book}
use Rattle.rules.specs.declared.Marks.{Marks}

-- what marks answer for account a on every sound book that is k
abbrev pub IsAnswered : Book → ℕ → Terms → Result Marks ℕ → Type 0
IsAnswered k a t r = (bs : List ℕ) → not_sound bs ≡ false → book_of bs ≡ k → marks bs a t ≡ r

-- the due, and the sums of currencies 0, 1 and 2
abbrev pub due : ℕ → ℤ → ℤ → ℤ → Result Marks ℕ
due n a b c = Ok (record { due = mils (pos n); sums = mils a ∷ mils b ∷ mils c ∷ mils (pos 0) ∷ [] })

-- ── tables: without a price; too short; 10,000,000 in entry 31; every rate that of the base; no haircut ──

abbrev pub none : List ℕ
none = replicate 128 0

abbrev pub short : List ℕ
short = replicate 127 255

abbrev pub dear : List ℕ
dear = replicate 124 0 ++ (0 ∷ 152 ∷ 150 ∷ 128 ∷ [])

abbrev pub rates : List ℕ
rates = replicate 4 1_000_000

abbrev pub haircuts : List ℕ
haircuts = replicate 4 0

-- ── a record's mark: 350 shares for 3,675,000, of security 1; intraday 9,900, closing 10,500 ──

unfoldable pub delivery : Book
delivery = with_open (book_with (0 ∷ 0 ∷ [])) (at 1 1 1 (pos 350) (pos 3_675_000) ∷ at 1 2 1 (neg_ℤ (pos 350)) (neg_ℤ (pos 3_675_000)) ∷ [])

abbrev pub closing : List ℕ
closing = (0 ∷ 0 ∷ 0 ∷ 0 ∷ 0 ∷ 0 ∷ 41 ∷ 4 ∷ []) ++ replicate 120 0

abbrev pub intraday : List ℕ
intraday = (0 ∷ 0 ∷ 0 ∷ 0 ∷ 0 ∷ 0 ∷ 38 ∷ 172 ∷ []) ++ replicate 120 0

-- the intraday price where there is one; by the closing price nothing would be due
by_intraday : IsAnswered delivery 1 (terms intraday closing rates haircuts) (due 210_000 (neg_ℤ (pos 210_000)) (pos 0) (pos 0))
unfolding values delivery
by_intraday bs h b = rw (marks, marks_number, marks_tests, b, h)

by_closing : IsAnswered delivery 1 (terms none closing rates haircuts) (due 0 (pos 0) (pos 0) (pos 0))
unfolding values delivery
by_closing bs h b = rw (marks, marks_number, marks_tests, b, h)

-- the other side gains as much, and nothing is due
other_side : IsAnswered delivery 2 (terms intraday closing rates haircuts) (due 0 (pos 210_000) (pos 0) (pos 0))
unfolding values delivery
other_side bs h b = rw (marks, marks_number, marks_tests, b, h)

-- ── 16 is of the total: records of 0 shares with 2.5 * 10^15 to pay, 9 in currency 1 and some in currency 2, at the highest rate with the whole haircut ──

unfoldable pub owing : ℕ → Book
owing n =
    with_open (book_with (replicate 9 1 ++ replicate n 2)) (map (λ s. at 1 1 s (pos 0) (pos 2_500_000_000_000_000)) (from 0 (9 + n)))

abbrev pub highest : Terms
highest = terms none none (1_000_000 ∷ 100_000_000 ∷ 100_000_000 ∷ 1_000_000 ∷ []) (0 ∷ 10_000 ∷ 10_000 ∷ 0 ∷ [])

-- 18 come to 9 * 10^18
at_the_limit : IsAnswered (owing 9) 1 highest
    (due 9_000_000_000_000_000_000 (pos 0) (neg_ℤ (pos 22_500_000_000_000_000)) (neg_ℤ (pos 22_500_000_000_000_000)))
unfolding values owing
at_the_limit bs h b = rw (marks, marks_number, marks_tests, b, h)

-- 19 pass it, though neither currency does alone
past_it : IsAnswered (owing 10) 1 highest (Err 16)
unfolding values owing
past_it bs h b = rw (marks, marks_number, marks_tests, b, h)

-- ── the order: 1, 2, 18, 5, 15, 17, 16; each with a fault that comes later, and past the limit of 16 ──

-- the same, and a record with shares of security 19
unfoldable pub crowded : Book
crowded =
    with_open (book_with (replicate 9 1 ++ replicate 11 2))
    (map (λ s. at 1 1 s (pos 0) (pos 2_500_000_000_000_000)) (from 0 19) ++ (at 1 1 19 (pos 1) (pos 0) ∷ at 1 2 19 (neg_ℤ (pos 1)) (pos 0) ∷ []))

one_first : (bs : List ℕ) → not_sound bs ≡ true → marks bs 64 (terms short short [] []) ≡ Err 1
unfolding values
one_first bs h = rw (marks, marks_number, marks_tests, h)

two_next : IsAnswered crowded 64 (terms short dear [] haircuts) (Err 2)
unfolding values crowded
two_next bs h b = rw (marks, marks_number, marks_tests, b, h)

then_eighteen : IsAnswered crowded 1 (terms short dear rates haircuts) (Err 18)
unfolding values crowded
then_eighteen bs h b = rw (marks, marks_number, marks_tests, b, h)

-- an entry too high, in either table
then_five : IsAnswered crowded 1 (terms none dear (replicate 4 0) haircuts) (Err 5)
unfolding values crowded
then_five bs h b = rw (marks, marks_number, marks_tests, b, h)

five_by_intraday : IsAnswered crowded 1 (terms dear none (replicate 4 0) haircuts) (Err 5)
unfolding values crowded
five_by_intraday bs h b = rw (marks, marks_number, marks_tests, b, h)

then_fifteen : IsAnswered crowded 1 (terms none none (1_000_000 ∷ 100_000_000 ∷ 100_000_000 ∷ 1 ∷ []) (0 ∷ 10_000 ∷ 10_000 ∷ 10_001 ∷ [])) (Err 15)
unfolding values crowded
then_fifteen bs h b = rw (marks, marks_number, marks_tests, b, h)

then_seventeen : IsAnswered crowded 1 highest (Err 17)
unfolding values crowded
then_seventeen bs h b = rw (marks, marks_number, marks_tests, b, h)
