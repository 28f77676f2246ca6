-- Answers that are enums: the definitions that give this paper's number and values for each of their cases, at what the calls answer (document 01, "Forms for
-- parts of the code": "Where an answer is an enum, a definition gives this paper's number and values for each of its cases. The promises use this definition.").
use Rattle.std.specs.Prelude.{◌≡◌, true, false, List, [], ◌∷◌, ◌≢◌, ℕ, ◌+◌, ◌-◌, eqb, drop, pos, Result}
use Rattle.std.proofs.Math.Path.{refl, sym, ap}
use Rattle.std.proofs.Common.{◌∙◌, eqb-true, eq-eqb, ne_eqb}
use Rattle.rules.specs.Book.{empty_book}
use Rattle.rules.specs.Layout.{book_of, bytes_of}
use Rattle.rules.specs.Run.{shares_moved}
use Rattle.rules.specs.Calls.{Call, run, figure, answer_bytes, figure_bytes, after_bytes, run_answer, number_of_run, figure_of_run}
use Rattle.rules.specs.Marks.{Terms, marked_of, sum_of, favourable_total, unfavourable_total, due_and_sums, marks_number, marks, marks_figures, number_of_marks, figures_of_marks}
use Rattle.rules.specs.Records.{Record, create, call, unreadable, length_of, record_at, other_version, file_refused, past_end, answer_to, record_answer, bytes_after, applies, record_bytes, number_of_record, figure_of_record, next_of_record, number_at, record_number, figure_at, record_figure, next_at, record_next}
use Rattle.units.specs.declared.Shares.{Shares}
use Rattle.rules.specs.declared.Marks.{Marks}
use Rattle.rules.specs.declared.RecordAnswer.{RecordAnswer}
use Rattle.laws.specs.Cases.{by_test, true_false, cond_yes, cond_no}

-- ── a run: its number, and "The answer is the shares moved, 0 included", zero where it is refused ──

module _ (bs : List ℕ) (s : ℕ) where
  pub run_number : number_of_run (run_answer bs s) ≡ answer_bytes bs (run s)
  unfolding run_answer number_of_run
  run_number = by_test (eqb (answer_bytes bs (run s)) 0) (λ y. rw y (sym (eqb-true (answer_bytes bs (run s)) 0 y))) (λ n. rw n)

  pub run_figure : figure_of_run (run_answer bs s) ≡ pos (figure_bytes bs (run s))
  unfolding run_answer figure_of_run figure_bytes
  run_figure = by_test (eqb (answer_bytes bs (run s)) 0) (λ y. rw y) (λ n. rw n)

  -- so of every answer that is the run's
  pub run_told : (r : Result Shares ℕ) → r ≡ run_answer bs s → (number_of_run r ≡ answer_bytes bs (run s)) × (figure_of_run r ≡ pos (figure_bytes bs (run s)))
  run_told r e = (ap number_of_run e ∙ run_number, ap figure_of_run e ∙ run_figure)

  pub run_moved : answer_bytes bs (run s) ≡ 0 → figure_of_run (run_answer bs s) ≡ pos (shares_moved (book_of bs) s)
  unfolding run_answer figure_of_run figure_bytes figure
  run_moved e = rw e

  pub run_none : answer_bytes bs (run s) ≢ 0 → figure_of_run (run_answer bs s) ≡ pos 0
  unfolding run_answer figure_of_run
  run_none n = rw (ne_eqb (answer_bytes bs (run s)) 0 n)

-- ── marks: their number, and "The answer has the due and four signed sums", zero in each where they are refused ──

module _ (bs : List ℕ) (a : ℕ) (t : Terms) where
  pub marks_number_lem : number_of_marks (marks bs a t) ≡ marks_number bs a t
  unfolding marks number_of_marks due_and_sums
  marks_number_lem = by_test (eqb (marks_number bs a t) 0) (λ y. rw y (sym (eqb-true (marks_number bs a t) 0 y))) (λ n. rw n)

  pub marks_figures_lem : let k = book_of bs in let ps = marked_of k a in
      marks_number bs a t ≡ 0
      → figures_of_marks (marks bs a t) ≡ pos (unfavourable_total k t ps - favourable_total k t ps) ∷ sum_of k t ps 0 ∷ sum_of k t ps 1 ∷ sum_of k t ps 2 ∷ sum_of k t ps 3 ∷ []
  unfolding marks figures_of_marks due_and_sums
  marks_figures_lem e = rw e

  pub marks_none : marks_number bs a t ≢ 0 → figures_of_marks (marks bs a t) ≡ pos 0 ∷ pos 0 ∷ pos 0 ∷ pos 0 ∷ pos 0 ∷ []
  unfolding marks figures_of_marks
  marks_none n = rw (ne_eqb (marks_number bs a t) 0 n)

  pub marks_told : (r : Result Marks ℕ) → r ≡ marks bs a t → (number_of_marks r ≡ marks_number bs a t) × (figures_of_marks r ≡ marks_figures bs a t)
  unfolding marks_figures
  marks_told r e = (
    ap number_of_marks e ∙ marks_number_lem,
    ap figures_of_marks e
        ∙ by_test (eqb (marks_number bs a t) 0)
        (λ y. marks_figures_lem (eqb-true (marks_number bs a t) 0 y) ∙ sym (cond_yes _ _ y))
        (λ n. marks_none (λ z. true_false (eq-eqb (marks_number bs a t) 0 z) n) ∙ sym (cond_no _ _ n)),
  )

-- ── a record of a call file: number, figure and the next place; and the bytes that a call leaves ──

module _ (book file : List ℕ) (place : ℕ) where
  abbrev Told : RecordAnswer → ℕ → ℕ → ℕ → Type 0
  Told r number figure next = (number_of_record r ≡ number) × (figure_of_record r ≡ pos figure) × (next_of_record r ≡ next)

  abbrev next : ℕ
  next = place + 2 + length_of (drop place file)

  found_told : (r : Record) → Told (answer_to book place next r) (number_at book r) (figure_at book place r) (next_at file place r)
  unfolding answer_to number_at figure_at next_at number_of_record figure_of_record next_of_record
  found_told (create codes) = (refl, refl, refl)
  found_told (call c) = (refl, refl, refl)
  found_told unreadable = (refl, refl, refl)

  answer_told : Told (record_answer book file place) (record_number book file place) (record_figure book file place) (record_next book file place)
  unfolding record_answer record_number record_figure record_next number_of_record figure_of_record next_of_record
  answer_told =
      by_test (file_refused book file)
      (λ y. rw y (refl, refl, refl))
      (λ n. by_test (other_version file)
      (λ y. rw (n, y) (refl, refl, refl))
      (λ m. by_test (past_end file place)
      (λ y. rw (n, m, y) (refl, refl, refl))
      (λ l. rw (n, m, l) (found_told (record_at file place)))))

  pub record_told : (r : RecordAnswer) → r ≡ record_answer book file place
      → (number_of_record r ≡ record_number book file place) × (figure_of_record r ≡ pos (record_figure book file place)) × (next_of_record r ≡ record_next book file place)
  record_told r e = (ap number_of_record e ∙ answer_told.0, ap figure_of_record e ∙ answer_told.1, ap next_of_record e ∙ answer_told.2)

module _ (book file : List ℕ) (place : ℕ) where
  -- "File: 18, a wrong book length included",
  pub record_18 : file_refused book file ≡ true → (number_of_record (record_answer book file place) ≡ 18) × (figure_of_record (record_answer book file place) ≡ pos 0)
  unfolding record_answer number_of_record figure_of_record
  record_18 e = rw e (refl, refl)

  module _ (taken : file_refused book file ≡ false) where
    -- "19 and the byte place where the record begins (0 for the version)";
    pub version_19 : other_version file ≡ true → (number_of_record (record_answer book file place) ≡ 19) × (figure_of_record (record_answer book file place) ≡ pos 0)
    unfolding record_answer number_of_record figure_of_record
    version_19 e = rw (taken, e) (refl, refl)

    module _ (ours : other_version file ≡ false) where
      -- behind the last record there is nothing to answer;
      pub record_end : past_end file place ≡ true → (number_of_record (record_answer book file place) ≡ 0) × (figure_of_record (record_answer book file place) ≡ pos 0)
      unfolding record_answer number_of_record figure_of_record
      record_end e = rw (taken, ours, e) (refl, refl)

      module _ (there : past_end file place ≡ false) where
        pub record_19 : record_at file place ≡ unreadable
            → (number_of_record (record_answer book file place) ≡ 19) × (figure_of_record (record_answer book file place) ≡ pos place)
        unfolding record_answer answer_to number_of_record figure_of_record
        record_19 e = rw (taken, ours, there, e) (refl, refl)

        -- a create is accepted; "each record is a call of its own", with that call's number and figure.
        pub record_create : (codes : List ℕ) → record_at file place ≡ create codes
            → (number_of_record (record_answer book file place) ≡ 0) × (figure_of_record (record_answer book file place) ≡ pos 0)
        unfolding record_answer answer_to number_of_record figure_of_record
        record_create codes e = rw (taken, ours, there, e) (refl, refl)

        pub record_call : (c : Call) → record_at file place ≡ call c
            → (number_of_record (record_answer book file place) ≡ answer_bytes book c) × (figure_of_record (record_answer book file place) ≡ pos (figure_bytes book c))
        unfolding record_answer answer_to number_of_record figure_of_record
        record_call c e = rw (taken, ours, there, e) (refl, refl)

        -- and the bytes are those that it leaves: of creation the empty book's, of another call what that call over the book leaves.
        pub record_create_bytes : (codes : List ℕ) → record_at file place ≡ create codes → record_bytes book file place ≡ bytes_of (empty_book codes)
        unfolding record_bytes record_answer answer_to applies bytes_after
        record_create_bytes codes e = rw (taken, ours, there, e) refl

        pub record_call_bytes : (c : Call) → record_at file place ≡ call c → record_bytes book file place ≡ after_bytes book c
        unfolding record_bytes record_answer answer_to applies bytes_after
        record_call_bytes c e = rw (taken, ours, there, e) refl
