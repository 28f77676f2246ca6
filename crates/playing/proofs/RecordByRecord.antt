-- The record calls of a file, one after another, give the answers and the book of the whole file. Statements: `record_by_record`, `refused_at_once`, and of the
-- whole file in one call `whole_book` and `whole_answers_lem`.
use Rattle.std.proofs.Common.{◌≡◌, true, false, leb, length, refl, sym, ap, ap₂, subst, ◌∙◌, arith, List, ◌++◌, ℕ, zero, suc, ◌+◌, ◌≤◌, ◌<◌, drop, eq-eqb, leb-true, leb-false, lt-ltb, le-leb}
use borrow.Author.Tests.{lt-leb}
use Rattle.fields.specs.Field.{Bytes}
use Rattle.rules.specs.Book.{empty_book}
use Rattle.rules.specs.Layout.{book_length, book_of, bytes_of}
use Rattle.rules.specs.LayoutLaws.{book_bytes}
use Rattle.rules.specs.Calls.{Call, answer_bytes, figure_bytes, after_bytes}
use Rattle.rules.specs.Records.{Record, create, call, unreadable, record_at, front_of, other_version, too_long, file_refused, past_end, answer_to, record_answer, bytes_after, applies, record_bytes, number_of_record, figure_of_record}
use Rattle.rules.specs.CallFile.{Contents, Answer, Played, is_unreadable, answered, left, played, nineteen, file_of, answers_of, bytes_left, whole_refused, whole_answer, whole_answers, whole_bytes}
use Rattle.rules.specs.declared.Book.{Book}
use Rattle.laws.specs.Cases.{by_test, true_false, neither, cond_yes, cond_no}
use Rattle.laws.specs.Fitting.{empty_fits}
use Rattle.history.specs.Histories.{made}
use Rattle.history.specs.Lent.{AllFit}
use Rattle.history.specs.Steps.{empty_good}
use Rattle.history.specs.FileHistory.{file_well}
use Rattle.callfile_format.specs.Walking.{next_of}
use Rattle.playing_records.specs.Steps.{next_in, left_at, left_end, left_call, left_none, is_create, never, next_more}
use Rattle.playing_records.specs.Playing.{text_of, answers_left, Holds, holds_of, holds_long, number_is, figure_is, after_reads, after_holds, fit_call}
use Rattle.playing.specs.RecordCalls.{Called, called, no_more, answer_of, going_on, record_calls}
use Rattle.playing_records.specs.First.{is_call, no_first, behind_create, other_says, none_first, create_first, unread, begun}

-- ── one call ──

abbrev pub answer_with : ℕ → ℕ → Answer
answer_with number figure = record { number = number; figure = figure }

module _ (bs file : List ℕ) (place : ℕ) (taken : file_refused bs file ≡ false) (n : ℕ) where
  call_other : other_version file ≡ true → record_calls (suc n) bs file place ≡ called (answer_with 19 0) (no_more bs)
  unfolding record_calls going_on record_answer record_bytes applies answer_of number_of_record figure_of_record
  call_other e = rw (taken, e)

  module _ (ours : other_version file ≡ false) where
    call_ends : past_end file place ≡ true → record_calls (suc n) bs file place ≡ no_more bs
    unfolding record_calls going_on record_answer record_bytes applies
    call_ends e = rw (taken, ours, e)

    module _ (there : past_end file place ≡ false) where
      call_unreadable : record_at file place ≡ unreadable → record_calls (suc n) bs file place ≡ called (answer_with 19 place) (no_more bs)
      unfolding record_calls going_on record_answer record_bytes applies answer_to answer_of number_of_record figure_of_record
      call_unreadable e = rw (taken, ours, there, e)

      call_creates : (codes : List ℕ) → record_at file place ≡ create codes
          → record_calls (suc n) bs file place ≡ called (answer_with 0 0) (record_calls n (bytes_of (empty_book codes)) file (next_of file place))
      unfolding record_calls going_on record_answer record_bytes applies answer_to answer_of number_of_record figure_of_record bytes_after
      call_creates codes e = rw (taken, ours, there, e)

      call_calls : (c : Call) → record_at file place ≡ call c
          → record_calls (suc n) bs file place ≡ called (answer_with (answer_bytes bs c) (figure_bytes bs c)) (record_calls n (after_bytes bs c) file (next_of file place))
      unfolding record_calls going_on record_answer record_bytes applies answer_to answer_of number_of_record figure_of_record bytes_after
      call_calls c e = rw (taken, ours, there, e)

-- ── from a place behind the create ──

-- the answers and the book of what is left
abbrev left_of : Book → Contents → Called
left_of k c = record { answers = answers_left k c; book = bytes_of (made k c.calls) }

module _ (file : List ℕ) (short : too_long file ≡ false) (ours : other_version file ≡ false) where
  taken_by : (bs : List ℕ) → length bs ≡ book_length → file_refused bs file ≡ false
  unfolding file_refused
  taken_by bs long = rw (short, eq-eqb (length bs) book_length long)

  -- n calls are enough from each place on
  abbrev Enough : ℕ → Type 0
  Enough n = (bs : List ℕ) → Holds bs → (place : ℕ) → 1 < place → AllFit (left_at file place).calls → length file ≤ n + place
      → record_calls n bs file place ≡ left_of (book_of bs) (left_at file place)

  module _ (bs : List ℕ) (h : Holds bs) (place : ℕ) (late : 1 < place) where
    past : length file ≤ place → past_end file place ≡ true
    unfolding past_end
    past e = rw (lt-ltb 1 place late, le-leb (length file) place e)

    not_past : place < length file → past_end file place ≡ false
    unfolding past_end
    not_past e = rw (lt-ltb 1 place late, lt-leb (length file) place e)

    at_end : (n : ℕ) → length file ≤ place → record_calls n bs file place ≡ left_of (book_of bs) (left_at file place)
    unfolding record_calls answers_left played nineteen made
    at_end zero e = rw (left_end file place e, h.same)
    at_end (suc n) e = call_ends bs file place (taken_by bs (holds_long bs h)) n ours (past e) ∙ rw (left_end file place e, h.same)

    module _ (fit : AllFit (left_at file place).calls) (n : ℕ) (enough : length file ≤ suc n + place) (onward : Enough n) (there : place < length file) where
      at_call : (c : Call) → record_at file place ≡ call c → record_calls (suc n) bs file place ≡ left_of (book_of bs) (left_at file place)
      unfolding is_unreadable answers_left played made
      at_call c e =
          let k = book_of bs in
          let rest = left_at file (next_in file place) in
          let next : next_of file place ≡ next_in file place = next_more file place (ap is_unreadable e) (next_of file place) refl in
          let fits = fit_call file place there k c e fit in
          let ih = onward (after_bytes bs c) (after_holds bs h c fits.0) (next_in file place) (omega (arith, late, next)) fits.1 (omega (arith, enough, next)) in
          let more : record_calls n (after_bytes bs c) file (next_of file place) ≡ left_of (left k c) rest =
          ap (record_calls n (after_bytes bs c) file) next ∙ ih ∙ ap (λ (j : Book). left_of j rest) (after_reads bs h c fits.0) in
          let first : answer_with (answer_bytes bs c) (figure_bytes bs c) ≡ answered k c = ap₂ answer_with (number_is bs h c) (figure_is bs h c) in
          call_calls bs file place (taken_by bs (holds_long bs h)) n ours (not_past there) c e
          ∙ ap₂ called first more
          ∙ sym (ap (left_of k) (left_call file place there c e))

      by_record : (r : Record) → record_at file place ≡ r → record_calls (suc n) bs file place ≡ left_of (book_of bs) (left_at file place)
      unfolding record_at is_create answers_left played nineteen made
      by_record (create codes) e = true_false (ap is_create e) (never place (front_of (drop place file)) (λ z. omega (arith, late, z)))
      by_record (call c) e = at_call c e
      by_record unreadable e =
          call_unreadable bs file place (taken_by bs (holds_long bs h)) n ours (not_past there) e ∙ rw (left_none file place there e, h.same)

  enough_calls : (n : ℕ) → Enough n
  enough_calls zero bs h place late fit enough = at_end bs h place late zero (omega (arith, enough))
  enough_calls (suc n) bs h place late fit enough =
      by_test (leb (length file) place)
      (λ e. at_end bs h place late (suc n) (leb-true (length file) place e))
      (λ e. by_record bs h place late fit n enough (enough_calls n) (leb-false (length file) place e) (record_at file place) refl)

-- ── the whole file ──

module _ (book file : List ℕ) (bytes : Bytes file) (taken : file_refused book file ≡ false) where
  abbrev of_file : Played → Called
  of_file p = record { answers = p.answers; book = bytes_left book p.book }

  module _ (n : ℕ) (enough : length file ≤ n) where
    first_other : other_version file ≡ true → record_calls (suc n) book file 1 ≡ of_file (file_of file)
    unfolding bytes_left
    first_other e = call_other book file 1 taken n e ∙ sym (ap of_file (unread file 0 (other_says file e)))

    module _ (ours : other_version file ≡ false) where
      first_there : past_end file 1 ≡ false
      unfolding past_end
      first_there = refl

      first_create : (codes : List ℕ) → record_at file 1 ≡ create codes → record_calls (suc n) book file 1 ≡ of_file (file_of file)
      unfolding file_refused bytes_left
      first_create codes e =
          let says = create_first file ours codes e in
          let good = (file_well file bytes).codes codes (ap (λ (c : Contents). c.codes) says) in
          let fits = empty_fits codes good.0 good.1 in
          let fresh = holds_of (empty_book codes) (empty_good codes good.0 good.1) fits in
          let all = enough_calls file (neither (too_long file) _ taken).0 ours n (bytes_of (empty_book codes)) fresh 36 (omega arith)
          (subst (λ (c : Contents). AllFit c.calls) says (file_well file bytes).calls) (omega (arith, enough)) in
          let rest : record_calls n (bytes_of (empty_book codes)) file (next_of file 1) ≡ left_of (empty_book codes) (left_at file 36) =
          ap (record_calls n (bytes_of (empty_book codes)) file) (behind_create file codes e) ∙ all
          ∙ ap (λ (k : Book). left_of k (left_at file 36)) (book_bytes (empty_book codes) fits) in
          call_creates book file 1 taken n ours first_there codes e ∙ ap (called (answer_with 0 0)) rest ∙ sym (ap of_file (begun file codes says))

      first_record : (r : Record) → record_at file 1 ≡ r → record_calls (suc n) book file 1 ≡ of_file (file_of file)
      unfolding record_at is_call bytes_left
      first_record (create codes) e = first_create codes e
      first_record (call c) e = true_false (ap is_call e) (no_first (front_of (drop 1 file)))
      first_record unreadable e = call_unreadable book file 1 taken n ours first_there e ∙ sym (ap of_file (unread file 1 (none_first file ours e)))

    first_call : record_calls (suc n) book file 1 ≡ of_file (file_of file)
    first_call = by_test (other_version file) first_other (λ e. first_record e (record_at file 1) refl)

  -- Record by record from place 1, each at the place that the answer before tells, are answered the answers of the file, and its book is left. (A file has no
  -- more answers than bytes and one: more calls change nothing.)
  pub record_by_record : (n : ℕ) → length file < n → record_calls n book file 1 ≡ record { answers = (file_of file).answers; book = bytes_left book (file_of file).book }
  record_by_record zero enough = absurd (omega arith)
  record_by_record (suc n) enough = first_call n (omega (arith, enough))

-- A file that is refused by 18 is refused at its first record, and nothing is altered.
pub refused_at_once : (book file : List ℕ) → file_refused book file ≡ true → (n : ℕ) → record_calls (suc n) book file 1 ≡ called (answer_with 18 0) (no_more book)
unfolding record_calls going_on record_answer record_bytes applies answer_of number_of_record figure_of_record
refused_at_once book file e n = rw e

-- So the whole file in one accepted call leaves the bytes of the record calls, and answers theirs: 9 bytes each, and bytes beyond them stay.
module _ (book file answers : List ℕ) (bytes : Bytes file) (accepted : whole_answer book file answers ≡ 0) (n : ℕ) (enough : length file < n) where
  abbrev pub one_by_one : Called
  one_by_one = record_calls n book file 1

  fits : whole_refused book file answers ≡ false
  unfolding whole_answer
  fits = by_test (whole_refused book file answers) (λ e. absurd (omega (arith, sym (cond_yes 18 0 e) ∙ accepted))) (λ e. e)

  same : one_by_one ≡ record { answers = (file_of file).answers; book = bytes_left book (file_of file).book }
  unfolding whole_refused
  same = record_by_record book file bytes (neither (file_refused book file) _ fits).0 n enough

  text : text_of one_by_one.answers ≡ answers_of file
  unfolding text_of answers_of
  text = ap (λ (c : Called). text_of c.answers) same

  pub whole_book : whole_bytes book file answers ≡ one_by_one.book
  unfolding whole_bytes
  whole_book = cond_no book (bytes_left book (file_of file).book) fits ∙ sym (ap (λ (c : Called). c.book) same)

  pub whole_answers_lem : whole_answers book file answers ≡ text_of one_by_one.answers ++ drop (length (text_of one_by_one.answers)) answers
  unfolding whole_answers
  whole_answers_lem = cond_no answers _ fits ∙ ap (λ (t : List ℕ). t ++ drop (length t) answers) (sym text)
