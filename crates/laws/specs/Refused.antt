-- A refused call alters nothing (demand 1: "A refused call alters neither the book nor any buffer lent for output"; document 01, "Refusal numbers": "A refusal
-- returns its number, zero in each figure (but 19 its byte place), an empty part where a part is returned; book, tally and output buffers keep their bytes").
-- An answer is refused where its number is not 0. (The figures of answers that are enums are in EnumAnswers.)
use Rattle.std.specs.Prelude.{◌≡◌, Bool, true, false, cond, List, [], ◌≢◌, ℕ, length}
use Rattle.std.proofs.Math.Path.{refl, ap}
use Rattle.std.proofs.Common.{◌∙◌, ne_eqb}
use Rattle.std.proofs.Math.IntN.{pos}
use Rattle.rules.specs.Prices.{price_answer, price_part}
use Rattle.rules.specs.Calls.{Call, run, answer_bytes, after_bytes, figure_bytes, run_answer, number_of_run, create_answer, create_bytes}
use Rattle.rules.specs.Records.{Record, create, call, unreadable, record_at, other_version, file_refused, past_end, answer_to, bytes_after, applies, record_answer, record_bytes, number_of_record, figure_of_record}
use Rattle.rules.specs.CallFile.{whole_refused, whole_answer, whole_size, whole_answers, whole_bytes}
use Rattle.rules.specs.Sheet.{sheet_refused, sheet_answer, sheet_size, sheet_bytes, sheet_book, line_answer, line_part, line_bytes, line_tally}
use Rattle.rules.specs.declared.Line.{Line}
use Rattle.rules.specs.declared.RecordAnswer.TheVariants.{Ended}
use Rattle.rules.specs.declared.Tally.{Tally}
use Rattle.laws.specs.Cases.{by_test, cond_no}
use Rattle.laws.specs.EnumAnswers.{run_number}

-- ── enter, amend, exclude, roll, deposit, withdraw, run ──

module _ (bs : List ℕ) (c : Call) (refused : answer_bytes bs c ≢ 0) where
  pub call_keeps : after_bytes bs c ≡ bs
  unfolding after_bytes
  call_keeps = cond_no _ bs (ne_eqb (answer_bytes bs c) 0 refused)

  pub call_zero : figure_bytes bs c ≡ 0
  unfolding figure_bytes
  call_zero = cond_no _ 0 (ne_eqb (answer_bytes bs c) 0 refused)

-- a run by the number of what it returns
pub run_keeps : (bs : List ℕ) (s : ℕ) → number_of_run (run_answer bs s) ≢ 0 → after_bytes bs (run s) ≡ bs
run_keeps bs s refused = call_keeps bs (run s) (λ e. refused (run_number bs s ∙ e))

-- ── creation ──

pub create_keeps : (bs codes : List ℕ) → create_answer bs codes ≢ 0 → create_bytes bs codes ≡ bs
unfolding create_bytes
create_keeps bs codes refused = cond_no _ bs (ne_eqb (create_answer bs codes) 0 refused)

-- ── the price question returns an empty part ──

pub price_empty : (intraday closing : List ℕ) (s : ℕ) → price_answer intraday closing s ≢ 0 → price_part intraday closing s ≡ []
unfolding price_part
price_empty intraday closing s refused = cond_no _ [] (ne_eqb (price_answer intraday closing s) 0 refused)

same_either : {A : Type 0} (b : Bool) {x y : A} → x ≡ y → cond b x y ≡ y
same_either true e = e
same_either false e = refl

-- ── one record of a call file: "A 19 is the answer of the unreadable record's own call, and that call alters nothing." ──

module _ (book file : List ℕ) (place : ℕ) where
  -- the record that stands there
  stands_keeps : (r : Record) (next : ℕ) → number_of_record (answer_to book place next r) ≢ 0 → bytes_after book r ≡ book
  unfolding answer_to number_of_record bytes_after
  stands_keeps (create codes) next refused = absurd (refused refl)
  stands_keeps (call c) next refused = call_keeps book c refused
  stands_keeps unreadable next refused = refl

  stands_zero : (r : Record) (next : ℕ) → number_of_record (answer_to book place next r) ≢ 0 → number_of_record (answer_to book place next r) ≢ 19
      → figure_of_record (answer_to book place next r) ≡ pos 0
  unfolding answer_to number_of_record figure_of_record
  stands_zero (create codes) next refused read = refl
  stands_zero (call c) next refused read = ap pos (call_zero book c refused)
  stands_zero unreadable next refused read = absurd (read refl)

  -- At the end nothing is refused (its number is 0), and nothing is altered: there is no record to play.
  pub ended_keeps : record_answer book file place ≡ Ended → record_bytes book file place ≡ book
  unfolding record_bytes applies
  ended_keeps e = rw e

  module _ (refused : number_of_record (record_answer book file place) ≢ 0) where
    pub record_keeps : record_bytes book file place ≡ book
    unfolding record_answer record_bytes applies
    record_keeps =
        by_test (file_refused book file) (λ e. rw e)
        (λ e. by_test (other_version file) (λ f. rw (e, f))
        (λ f. by_test (past_end file place) (λ g. rw (e, f, g))
        (λ g. same_either (applies (record_answer book file place)) (stands_keeps (record_at file place) _ (rw (e, f, g) at refused)))))

    -- zero in the figure, but 19 its byte place (EnumAnswers)
    pub record_zero : number_of_record (record_answer book file place) ≢ 19 → figure_of_record (record_answer book file place) ≡ pos 0
    unfolding record_answer figure_of_record number_of_record
    record_zero read =
        by_test (file_refused book file) (λ e. rw e)
        (λ e. by_test (other_version file) (λ f. absurd (read (rw (e, f))))
        (λ f. by_test (past_end file place) (λ g. rw (e, f, g))
        (λ g. rw (e, f, g) (stands_zero (record_at file place) _ (rw (e, f, g) at refused) (rw (e, f, g) at read)))))

-- ── the whole file in one call ──

module _ (book file answers : List ℕ) (refused : whole_answer book file answers ≢ 0) where
  is_refused : whole_refused book file answers ≡ true
  unfolding whole_answer
  is_refused = by_test (whole_refused book file answers) (λ e. e) (λ e. absurd (refused (cond_no 18 0 e)))

  pub whole_keeps : (whole_bytes book file answers ≡ book) × (whole_answers book file answers ≡ answers) × (whole_size book file answers ≡ 0)
  unfolding whole_bytes whole_answers whole_size
  whole_keeps = rw is_refused (refl, refl, refl)

-- ── the whole sheet in one call ──

module _ (book file buffer : List ℕ) (refused : sheet_answer book file buffer ≢ 0) where
  sheet_is_refused : sheet_refused book file buffer ≡ true
  unfolding sheet_answer
  sheet_is_refused = by_test (sheet_refused book file buffer) (λ e. e) (λ e. absurd (refused (cond_no 18 0 e)))

  pub sheet_keeps : (sheet_book book file buffer ≡ book) × (sheet_bytes book file buffer ≡ buffer) × (sheet_size book file buffer ≡ 0)
  unfolding sheet_book sheet_bytes sheet_size
  sheet_keeps = rw sheet_is_refused (refl, refl, refl)

-- ── a line: an empty part, the buffer's bytes, the tally ──

module _ (buffer : List ℕ) (l : Line) (t : Tally) (refused : line_answer (length buffer) l t ≢ 0) where
  pub line_keeps : (line_part buffer l t ≡ []) × (line_bytes buffer l t ≡ buffer) × (line_tally (length buffer) l t ≡ t)
  unfolding line_part line_bytes line_tally
  line_keeps = rw (ne_eqb (line_answer (length buffer) l t) 0 refused) (refl, refl, refl)
