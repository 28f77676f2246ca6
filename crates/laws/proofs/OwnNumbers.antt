-- Each call answers 0 or one of its own refusal numbers (document 01, "Refusal numbers": which call each number belongs to, and the order of the checks).
use Rattle.std.specs.Prelude.{◌≡◌, Bool, true, false, cond, ◌&&◌, List, [], ◌∷◌, map, ℕ, ◌+◌, eqb, leb, length, drop}
use Rattle.std.proofs.Math.Path.{refl}
use Rattle.std.proofs.Common.{ap, ◌∙◌, eq-eqb}
use Rattle.rules.specs.Words.{any, Test, first}
use Rattle.rules.specs.Bounds.{most_tally}
use Rattle.rules.specs.Layout.{book_of}
use Rattle.rules.specs.Sound.{not_sound}
use Rattle.rules.specs.Prices.{price_tests, price_answer}
use Rattle.rules.specs.Marks.{Terms, marks_tests, marks_number, marks, number_of_marks}
use Rattle.rules.specs.Calls.{Call, enter, amend, exclude, roll, deposit, withdraw, run, field_tests, holding_tests, tests, answer_bytes, run_answer, number_of_run, create_tests, create_answer}
use Rattle.rules.specs.Records.{Record, create, call, unreadable, length_of, record_at, other_version, file_refused, past_end, answer_to, record_answer, number_of_record}
use Rattle.rules.specs.CallFile.{whole_refused, whole_answer}
use Rattle.rules.specs.Sheet.{text_of, sheet_refused, sheet_answer, line_answer}
use Rattle.rules.specs.declared.Line.{Line}
use Rattle.rules.specs.declared.Tally.{Tally}
use Rattle.laws.specs.Cases.{by_test, or_left, or_right}
use Rattle.laws.specs.OwnNumbers.{is_zero_or, refusals_of, refusals_in}
use Rattle.laws.specs.EnumAnswers.{run_number, marks_number_lem}

-- ── the first test that holds has one of the tests' numbers ──

more_numbers : (ns : List ℕ) (m n : ℕ) → is_zero_or ns n ≡ true → is_zero_or (m ∷ ns) n ≡ true
unfolding is_zero_or any
more_numbers ns m n e = by_test (eqb 0 n) (λ y. rw y) (λ z. rw z (or_right (eqb m n) (rw z at e)))

first_taken : (t : Test) (ts : List Test) → t.0 ≡ true → first (t ∷ ts) ≡ t.1
unfolding first
first_taken t ts y = rw y

first_passed : (t : Test) (ts : List Test) → t.0 ≡ false → first (t ∷ ts) ≡ first ts
unfolding first
first_passed t ts n = rw n

first_one : (ts : List Test) → is_zero_or (map (λ t. t.1) ts) (first ts) ≡ true
unfolding is_zero_or any first
first_one [] = refl
first_one (t ∷ ts) =
    let numbers = map {B = ℕ} (λ (u : Test). u.1) (t ∷ ts) in
    by_test t.0
    (λ y. ap (is_zero_or numbers) (first_taken t ts y) ∙ or_right (eqb 0 t.1) (or_left (any (λ m. eqb m t.1) (map (λ u. u.1) ts)) (eq-eqb t.1 t.1 refl)))
    (λ n. ap (is_zero_or numbers) (first_passed t ts n) ∙ more_numbers (map (λ u. u.1) ts) t.1 (first ts) (first_one ts))

-- 18 or 0
either_18 : (b : Bool) → is_zero_or (18 ∷ []) (cond b 18 0) ≡ true
unfolding is_zero_or any
either_18 true = refl
either_18 false = refl

or_18 : (b : Bool) → is_zero_or (18 ∷ []) (cond b 0 18) ≡ true
unfolding is_zero_or any
or_18 true = refl
or_18 false = refl

-- ── the calls ──

of_tests : (bs : List ℕ) (c : Call) → is_zero_or (map (λ t. t.1) ((not_sound bs, 1) ∷ tests (book_of bs) c)) (answer_bytes bs c) ≡ true
unfolding answer_bytes
of_tests bs c = first_one ((not_sound bs, 1) ∷ tests (book_of bs) c)

pub call_numbers : (bs : List ℕ) (c : Call) → is_zero_or (refusals_of c) (answer_bytes bs c) ≡ true
unfolding tests field_tests holding_tests refusals_of
call_numbers bs (enter t) = of_tests bs (enter t)
call_numbers bs (amend t) = of_tests bs (amend t)
call_numbers bs (exclude n) = of_tests bs (exclude n)
call_numbers bs roll = of_tests bs roll
call_numbers bs (deposit a s q) = of_tests bs (deposit a s q)
call_numbers bs (withdraw a s q) = of_tests bs (withdraw a s q)
call_numbers bs (run s) = of_tests bs (run s)

pub run_numbers : (bs : List ℕ) (s : ℕ) → is_zero_or (1 ∷ 3 ∷ 13 ∷ []) (number_of_run (run_answer bs s)) ≡ true
unfolding refusals_of
run_numbers bs s = rw (run_number bs s) (call_numbers bs (run s))

pub create_numbers : (bs codes : List ℕ) → is_zero_or (18 ∷ 3 ∷ []) (create_answer bs codes) ≡ true
unfolding create_answer create_tests
create_numbers bs codes = first_one (create_tests bs codes)

pub price_numbers : (intraday closing : List ℕ) (s : ℕ) → is_zero_or (18 ∷ 3 ∷ 5 ∷ 17 ∷ []) (price_answer intraday closing s) ≡ true
unfolding price_answer price_tests
price_numbers intraday closing s = first_one (price_tests intraday closing s)

pub marks_numbers : (bs : List ℕ) (a : ℕ) (t : Terms) → is_zero_or (1 ∷ 2 ∷ 18 ∷ 5 ∷ 15 ∷ 17 ∷ 16 ∷ []) (number_of_marks (marks bs a t)) ≡ true
unfolding marks_number marks_tests
marks_numbers bs a t = rw (marks_number_lem bs a t) (first_one (marks_tests bs a t))

pub whole_numbers : (book file answers : List ℕ) → is_zero_or (18 ∷ []) (whole_answer book file answers) ≡ true
unfolding whole_answer
whole_numbers book file answers = either_18 (whole_refused book file answers)

pub sheet_numbers : (book file buffer : List ℕ) → is_zero_or (18 ∷ []) (sheet_answer book file buffer) ≡ true
unfolding sheet_answer
sheet_numbers book file buffer = either_18 (sheet_refused book file buffer)

pub line_numbers : (room : ℕ) (l : Line) (t : Tally) → is_zero_or (18 ∷ []) (line_answer room l t) ≡ true
unfolding line_answer
line_numbers room l t = or_18 (leb (length (text_of l)) room && (leb (t.lines + 1) most_tally && leb (t.bytes + length (text_of l)) most_tally))

-- ── a record ──

two_more : (ns : List ℕ) (n : ℕ) → is_zero_or ns n ≡ true → is_zero_or (18 ∷ 19 ∷ ns) n ≡ true
two_more ns n e = more_numbers (19 ∷ ns) 18 n (more_numbers ns 19 n e)

module _ (book : List ℕ) (place next : ℕ) where
  stands_number : (r : Record) → is_zero_or (refusals_in r) (number_of_record (answer_to book place next r)) ≡ true
  unfolding refusals_in answer_to number_of_record is_zero_or any
  stands_number (create codes) = refl
  stands_number (call c) = two_more (refusals_of c) (answer_bytes book c) (call_numbers book c)
  stands_number unreadable = refl

common : (r : Record) → (is_zero_or (refusals_in r) 18 ≡ true) × (is_zero_or (refusals_in r) 19 ≡ true) × (is_zero_or (refusals_in r) 0 ≡ true)
unfolding refusals_in is_zero_or any
common (create codes) = (refl, refl, refl)
common (call c) = (refl, refl, refl)
common unreadable = (refl, refl, refl)

pub record_numbers : (book file : List ℕ) (place : ℕ) → is_zero_or (refusals_in (record_at file place)) (number_of_record (record_answer book file place)) ≡ true
unfolding record_answer number_of_record
record_numbers book file place =
    let c = common (record_at file place) in
    let next = place + 2 + length_of (drop place file) in
    by_test (file_refused book file) (λ e. rw e c.0)
    (λ e. by_test (other_version file) (λ f. rw (e, f) c.1)
    (λ f. by_test (past_end file place) (λ g. rw (e, f, g) c.2)
    (λ g. rw (e, f, g) (stands_number book place next (record_at file place)))))
