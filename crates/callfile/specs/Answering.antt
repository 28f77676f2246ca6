-- One record as a call of its own: its answer and the bytes that it leaves, by what stands at its place.
use Rattle.std.specs.Prelude.{◌≡◌, Bool, true, false, ◌&&◌, ◌||◌, List, ℕ, ◌+◌, ◌≤◌, ◌<◌, eqb, leb, ltb, length, drop, pos, Result, Ok, Err, refl, not}
use Rattle.std.proofs.Common.{sym, ap, ◌∙◌, arith, eq-eqb, ne_eqb, lt-ltb, le-ltb, leb-false, ltb-false}
use Rattle.units.specs.Units.{shares}
use Rattle.units.specs.declared.Shares.{Shares}
use Rattle.rules.specs.Bounds.{most_file}
use Rattle.rules.specs.Book.{empty_book}
use Rattle.rules.specs.Layout.{book_length, bytes_of}
use Rattle.rules.specs.Calls.{Call, answer_bytes, figure_bytes, after_bytes}
use Rattle.rules.specs.Records.{create, call, unreadable, length_of, record_at, other_version, too_long, file_refused, past_end, answer_to, record_answer, bytes_after, applies, record_bytes, number_of_record, figure_of_record, next_of_record, record_number, record_figure, record_next}
use Rattle.rules.specs.declared.RecordAnswer.{RecordAnswer}
use Rattle.rules.specs.declared.RecordAnswer.TheVariants.{Answered, Unreadable, Ended, FileRefused}
use Rattle.laws.specs.Cases.{by_test, cond_yes, cond_no}
use Rattle.laws.specs.EnumAnswers.{record_told}

-- answer and bytes
abbrev pub Done : List ℕ → List ℕ → ℕ → RecordAnswer → List ℕ → Type 0
Done book file place r new = (r ≡ record_answer book file place) × (new ≡ record_bytes book file place)

-- and what the answer's number, figure and next place are
pub told : (book file : List ℕ) (place : ℕ) (r : RecordAnswer) (new : List ℕ) → Done book file place r new
    → (r ≡ record_answer book file place) × (new ≡ record_bytes book file place) × (number_of_record r ≡ record_number book file place)
    × (figure_of_record r ≡ pos (record_figure book file place)) × (next_of_record r ≡ record_next book file place)
told book file place r new d = let t = record_told book file place r d.0 in (d.0, d.1, t.0, t.1, t.2)

module _ (book file : List ℕ) (place : ℕ) where
  -- an answer that applies nothing
  kept_by : (r : RecordAnswer) → r ≡ record_answer book file place → applies r ≡ false → Done book file place r book
  unfolding record_bytes
  kept_by r e a = (e, sym (cond_no (bytes_after book (record_at file place)) book (ap applies (sym e) ∙ a)))

  -- ── the file is refused ──

  refused_by : file_refused book file ≡ true → FileRefused 18 ≡ record_answer book file place
  unfolding record_answer
  refused_by e = sym (cond_yes (FileRefused 18) _ e)

  pub file_long : most_file < length file → Done book file place (FileRefused 18) book
  unfolding file_refused too_long applies
  file_long h = kept_by (FileRefused 18) (refused_by (ap (λ (b : Bool). b || not (eqb (length book) book_length)) (lt-ltb most_file (length file) h))) refl

  pub book_wrong : length file ≤ most_file → (length book ≡ book_length → ⊥) → Done book file place (FileRefused 18) book
  unfolding file_refused too_long applies
  book_wrong h n =
      kept_by (FileRefused 18)
      (refused_by (ap (λ (b : Bool). b || not (eqb (length book) book_length)) (le-ltb most_file (length file) h) ∙ ap not (ne_eqb (length book) book_length n))) refl

  pub not_refused : length file ≤ most_file → length book ≡ book_length → file_refused book file ≡ false
  unfolding file_refused too_long
  not_refused h e = ap (λ (b : Bool). b || not (eqb (length book) book_length)) (le-ltb most_file (length file) h) ∙ ap not (eq-eqb (length book) book_length e)

  module _ (fine : file_refused book file ≡ false) where
    -- ── another version, the end ──

    pub version_other : other_version file ≡ true → Done book file place (Unreadable 0) book
    unfolding record_answer applies
    version_other e = kept_by (Unreadable 0) (sym (cond_no (FileRefused 18) _ fine ∙ cond_yes (Unreadable 0) _ e)) refl

    module _ (ours : other_version file ≡ false) where
      pub file_ends : past_end file place ≡ true → Done book file place Ended book
      unfolding record_answer applies
      file_ends e = kept_by Ended (sym (cond_no (FileRefused 18) _ fine ∙ cond_no (Unreadable 0) _ ours ∙ cond_yes Ended _ e)) refl

      module _ (there : past_end file place ≡ false) where
        -- ── what stands there ──

        abbrev pub next : ℕ
        next = place + 2 + length_of (drop place file)

        found_is : record_answer book file place ≡ answer_to book place next (record_at file place)
        unfolding record_answer
        found_is = cond_no (FileRefused 18) _ fine ∙ cond_no (Unreadable 0) _ ours ∙ cond_no Ended _ there

        pub none_there : record_at file place ≡ unreadable → Done book file place (Unreadable place) book
        unfolding answer_to applies
        none_there e = kept_by (Unreadable place) (sym (found_is ∙ ap (answer_to book place next) e)) refl

        applied_by : (r : RecordAnswer) → r ≡ record_answer book file place → applies r ≡ true → (new : List ℕ) → new ≡ bytes_after book (record_at file place)
            → Done book file place r new
        unfolding record_bytes
        applied_by r e a new f = (e, f ∙ sym (cond_yes (bytes_after book (record_at file place)) book (ap applies (sym e) ∙ a)))

        pub call_there : (c : Call) (n : ℕ) (q : Shares) (m : ℕ) (new : List ℕ) → record_at file place ≡ call c → n ≡ answer_bytes book c
            → q ≡ shares (pos (figure_bytes book c)) → m ≡ next → new ≡ after_bytes book c → Done book file place (Answered n q m) new
        unfolding answer_to applies bytes_after
        call_there c n q m new e en eq em f =
            applied_by (Answered n q m)
            (rw (en, eq, em) (sym (found_is ∙ ap (answer_to book place next) e))) refl new
            (f ∙ ap (bytes_after book) (sym e))

        pub create_there : (codes : List ℕ) (q : Shares) (m : ℕ) (new : List ℕ) → record_at file place ≡ create codes → q ≡ shares (pos 0) → m ≡ next
            → new ≡ bytes_of (empty_book codes) → Done book file place (Answered 0 q m) new
        unfolding answer_to applies bytes_after
        create_there codes q m new e eq em f =
            applied_by (Answered 0 q m)
            (rw (eq, em) (sym (found_is ∙ ap (answer_to book place next) e))) refl new
            (f ∙ ap (bytes_after book) (sym e))

-- ── as the code asks it ──

-- the file and the book are right, and a record is asked for
pub record Ready (book file : List ℕ) (place : ℕ) : Type 0 where
  pub short : length file ≤ most_file
  pub long : length book ≡ book_length
  pub ours : other_version file ≡ false
  pub there : past_end file place ≡ false

-- the answer of a run as the record's
unfoldable pub ran_as : Result Shares ℕ → ℕ → RecordAnswer
ran_as (Ok q) next = Answered 0 q next
ran_as (Err n) next = Answered n (shares (pos 0)) next

-- a place that is asked for is within the file, or is one of the first two
pub place_small : (book file : List ℕ) (place : ℕ) → Ready book file place → place ≤ most_file
unfolding past_end
place_small book file place r =
    by_test (ltb 1 place)
    (λ e. omega (arith, r.short, leb-false (length file) place (sym (ap (λ (b : Bool). b && leb (length file) place) e) ∙ r.there)))
    (λ e. omega (arith, ltb-false 1 place e))
