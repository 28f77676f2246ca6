-- Marks: source documents 000 and 001, 10.10.8B and 10.10A.4. The sources mark overdue and pending positions apart and waive some; the house gives one joint amount
-- over all records (docs/DECISIONS.md, A2).
use Rattle.std.specs.Prelude.{◌≡◌, refl, true, List, [], ◌∷◌, ℕ, replicate, pos, neg_ℤ, Ok}
use Rattle.rules.specs.Book.{with_open}
use Rattle.rules.specs.Sound.{sound}
use Rattle.rules.specs.Marks.{Terms, terms, marks_tests, marks_number, marks, due_and_sums}
use Rattle.rules.specs.Opened.{everything, values}
use Rattle.rules.specs.Written.{at, book_with}
use Rattle.rules.specs.MarkReadings.{IsAnswered, due, none, rates, haircuts}
use Rattle.rules.specs.declared.Position.{Position}
use Rattle.rules.specs.declared.Book.{Book}

-- ── 10.10.8B: three open records, at 1,100, 1,200 and 1,300 ──

unfoldable three : Book
three =
    with_open (book_with (0 ∷ 0 ∷ 0 ∷ []))
    (at 1 1 0 (neg_ℤ (pos 100)) (neg_ℤ (pos 100_000)) ∷
    at 1 1 1 (pos 200) (pos 300_000) ∷
    at 1 1 2 (pos 300) (pos 350_000) ∷
    at 1 2 0 (pos 100) (pos 100_000) ∷
    at 1 2 1 (neg_ℤ (pos 200)) (neg_ℤ (pos 300_000)) ∷
    at 1 2 2 (neg_ℤ (pos 300)) (neg_ℤ (pos 350_000)) ∷
    [])

abbrev three_prices : List ℕ
three_prices = 0 ∷ 0 ∷ 4 ∷ 76 ∷ 0 ∷ 0 ∷ 4 ∷ 176 ∷ 0 ∷ 0 ∷ 5 ∷ 20 ∷ replicate 116 0

v14 : IsAnswered three 1 (terms none three_prices rates haircuts) (due 30_000 (neg_ℤ (pos 30_000)) (pos 0) (pos 0))
unfolding values three
v14 bs h b = rw (marks, marks_number, marks_tests, b, h)

three_sound : sound three ≡ true
unfolding everything three
three_sound = refl

-- ── 10.10A.4: securities A to E in the base, F and G in currency 1 at 7.8 with a haircut of 0.5 % ──
-- (Over a list of records: in a sound book the roll would have offset those of opposite signs that are due.)

unfoldable margined : List Position
margined =
    at 3 1 0 (neg_ℤ (pos 45_000)) (neg_ℤ (pos 9_000_000_000)) ∷
    at 2 1 0 (pos 500) (pos 100_000_000) ∷
    at 3 1 1 (neg_ℤ (pos 23_000)) (neg_ℤ (pos 500_000_000)) ∷
    at 2 1 1 (neg_ℤ (pos 10_000)) (neg_ℤ (pos 200_000_000)) ∷
    at 1 1 1 (pos 5_000) (pos 90_000_000) ∷
    at 3 1 2 (pos 15_000) (pos 400_000_000) ∷
    at 2 1 2 (pos 20_000) (pos 500_000_000) ∷
    at 1 1 2 (neg_ℤ (pos 50)) (neg_ℤ (pos 100_000_000)) ∷
    at 3 1 3 (pos 15_000_000) (pos 300_100_000_000) ∷
    at 2 1 3 (neg_ℤ (pos 3_000_000)) (neg_ℤ (pos 80_000_000_000)) ∷
    at 3 1 4 (neg_ℤ (pos 100_000)) (neg_ℤ (pos 300_000_000)) ∷
    at 2 1 4 (neg_ℤ (pos 200_000)) (neg_ℤ (pos 650_000_000)) ∷
    at 3 1 5 (pos 500_000) (pos 1_000_000_000) ∷
    at 1 1 5 (neg_ℤ (pos 6_000_000)) (neg_ℤ (pos 13_000_000_000)) ∷
    at 3 1 6 (neg_ℤ (pos 40_000)) (neg_ℤ (pos 500_000_000)) ∷
    at 2 1 6 (pos 90_000) (pos 1_400_000_000) ∷
    []

-- 210,000, 22,000, 21,000, 20,000, 3,000, 2,800, 19,000
abbrev margin_terms : Terms
margin_terms =
    terms none
    (0 ∷ 3 ∷ 52 ∷ 80 ∷ 0 ∷ 0 ∷ 85 ∷ 240 ∷ 0 ∷ 0 ∷ 82 ∷ 8 ∷ 0 ∷ 0 ∷ 78 ∷ 32 ∷ 0 ∷ 0 ∷ 11 ∷ 184 ∷ 0 ∷ 0 ∷ 10 ∷ 240 ∷ 0 ∷ 0 ∷ 74 ∷ 56 ∷ replicate 100 0)
    (1_000_000 ∷ 7_800_000 ∷ 1_000_000 ∷ 1_000_000 ∷ []) (0 ∷ 50 ∷ 0 ∷ 0 ∷ [])

v15 : Ok (due_and_sums (book_with (0 ∷ 0 ∷ 0 ∷ 0 ∷ 0 ∷ 1 ∷ 1 ∷ [])) margin_terms margined) ≡ due 6_827_700_000 (pos 19_432_950_000) (neg_ℤ (pos 3_350_000_000)) (pos 0)
unfolding everything margined
v15 = refl
