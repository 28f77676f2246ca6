-- The whole file as one call, by the ways that the code takes.
use Rattle.std.specs.Prelude.{◌≡◌, true, false, ℕ, ◌+◌, ◌*◌, ◌≤◌, ◌<◌, length, drop, refl, List, [], ◌++◌, Some, None}
use Rattle.std.proofs.Common.{ap, sym, subst, ◌∙◌, arith, length-append, eq-eqb, ne_eqb, lt-ltb, le-ltb}
use Rattle.fields.specs.Field.{Bytes, digits, stored}
use Rattle.fields.specs.FieldLaws.{after, stored_none, stored_eq}
use Rattle.rules.specs.Words.{each}
use Rattle.rules.specs.Bounds.{most_file}
use Rattle.rules.specs.Book.{empty_book}
use Rattle.rules.specs.Layout.{book_length, book_of, bytes_of}
use Rattle.rules.specs.LayoutLaws.{book_bytes}
use Rattle.rules.specs.Calls.{create_bytes, create_answer}
use Rattle.rules.specs.Records.{create, record_at, other_version, too_long, file_refused}
use Rattle.rules.specs.CallFile.{Contents, Played, contents_of, file_of, answers_of, bytes_left, whole_refused, whole_answer, whole_size, whole_answers, whole_bytes}
use Rattle.rules.specs.declared.Book.{Book}
use Rattle.laws.specs.Accepted.{may_create}
use Rattle.laws.specs.Fitting.{stored_empty, created_fits}
use Rattle.history.specs.Histories.{made}
use Rattle.history.specs.Lent.{AllFit}
use Rattle.history.specs.Steps.{empty_good}
use Rattle.history.specs.FileHistory.{file_well}
use Rattle.house.specs.Lent.{created}
use Rattle.playing_records.specs.Steps.{left_at}
use Rattle.playing_records.specs.Playing.{text_of, nine, nine_long, text_left, Ready, end_answers, end_book, Holds, holds_of}
use Rattle.playing_records.specs.First.{create_fits, create_first, unread, begun, text_long}

-- ── the records that were played, by the ways that the code takes ──

abbrev pub Left : List ℕ → List ℕ → List ℕ → List ℕ → List ℕ → Type 0
Left bs file answers bs' answers' = (answers' ≡ stored answers 0 (answers_of file)) × (bs' ≡ bytes_left bs (file_of file).book)

pub answers_size : (file : List ℕ) → length (answers_of file) ≡ 9 * length (file_of file).answers
unfolding answers_of text_of
answers_size file = text_long (file_of file).answers

-- nothing was read: the one answer is 19
module _ (file : List ℕ) (p : ℕ) (e : contents_of file ≡ record { codes = None; calls = []; place = Some p }) where
  pub one_room : 9 ≤ length (answers_of file)
  one_room = omega (arith, answers_size file, ap (λ (q : Played). length q.answers) (unread file p e))

  pub one_answer : (bs answers answers' : List ℕ) → answers' ≡ stored answers 0 (nine 19 p) → Left bs file answers bs answers'
  unfolding answers_of each bytes_left
  one_answer bs answers answers' w =
      let f = unread file p e in (
        after answers answers' answers' 0 9 (nine 19 p) [] w (stored_none answers' 9) (omega (arith, nine_long 19 p))
            ∙ ap (λ (q : Played). stored answers 0 (each (λ a. digits 1 a.number ++ digits 8 a.figure) q.answers)) (sym f),
        ap (λ (q : Played). bytes_left bs q.book) (sym f),
      )

-- a create was read
module _ (file codes : List ℕ) (ours : other_version file ≡ false) (first : record_at file 1 ≡ create codes) where
  says_first : contents_of file ≡ record { codes = Some codes; calls = (left_at file 36).calls; place = (left_at file 36).place }
  says_first = create_first file ours codes first

  text_begun : answers_of file ≡ nine 0 0 ++ text_left (empty_book codes) (left_at file 36)
  unfolding answers_of each text_left text_of
  text_begun = ap (λ (q : Played). each (λ a. digits 1 a.number ++ digits 8 a.figure) q.answers) (begun file codes says_first)

  text_fits : length (answers_of file) ≡ 9 + length (text_left (empty_book codes) (left_at file 36))
  text_fits = omega (arith, ap length text_begun, length-append (nine 0 0) (text_left (empty_book codes) (left_at file 36)), nine_long 0 0)

  pub first_room : 9 ≤ length (answers_of file)
  first_room = omega (arith, text_fits)

  module _ (bytes : Bytes file) (bs : List ℕ) (long : length bs ≡ book_length) (bs' : List ℕ) (made_by : bs' ≡ create_bytes bs codes) where
    taken : create_answer bs codes ≡ 0
    taken =
        let g = (file_well file bytes).codes codes (ap (λ (c : Contents). c.codes) says_first) in
        sym (created bs codes (bytes_of (empty_book codes)) long g.0 g.1 refl).0

    fresh : bs' ≡ bytes_of (empty_book codes)
    fresh = made_by ∙ stored_empty bs codes taken

    fresh_reads : book_of bs' ≡ empty_book codes
    fresh_reads = ap book_of fresh ∙ book_bytes (empty_book codes) (created_fits bs codes taken)

    pub ready : (answers answers' : List ℕ) → length answers' ≡ length answers → length (answers_of file) ≤ length answers → Ready bs' file answers'
    ready answers answers' l h =
        let g = may_create bs codes taken in
        record {
          holds = subst Holds (sym fresh) (holds_of (empty_book codes) (empty_good codes g.0 g.1) (created_fits bs codes taken));
          fit = subst (λ (c : Contents). AllFit c.calls) says_first (file_well file bytes).calls;
          within = create_fits file codes first;
          room = omega (arith, l, h, text_fits, ap (λ (k : Book). length (text_left k (left_at file 36))) fresh_reads);
        }

    pub all_played : (answers answers' answers'' bs'' : List ℕ) → answers' ≡ stored answers 0 (nine 0 0) → answers'' ≡ end_answers bs' file answers' → bs'' ≡ end_book bs' file
        → Left bs file answers bs'' answers''
    unfolding bytes_left
    all_played answers answers' answers'' bs'' w v u =
        let k = ap (λ (k : Book). text_left k (left_at file 36)) fresh_reads in (
          after answers answers' answers'' 0 9 (nine 0 0) (text_left (empty_book codes) (left_at file 36)) w (v ∙ ap (stored answers' 9) k) (omega (arith, nine_long 0 0))
              ∙ ap (stored answers 0) (sym text_begun),
          u ∙ ap (λ (k : Book). bytes_of (made k (left_at file 36).calls)) fresh_reads ∙ ap (λ (q : Played). bytes_left bs q.book) (sym (begun file codes says_first)),
        )

-- ── the whole call ──

abbrev pub Done : List ℕ → List ℕ → List ℕ → ℕ → ℕ → List ℕ → List ℕ → Type 0
Done bs file answers n size bs' answers' =
    (n ≡ whole_answer bs file answers) × (size ≡ whole_size bs file answers) × (answers' ≡ whole_answers bs file answers) × (bs' ≡ whole_bytes bs file answers)

module _ (bs file answers : List ℕ) (n size : ℕ) where
  refused_by : whole_refused bs file answers ≡ true → n ≡ 18 → size ≡ 0 → Done bs file answers n size bs answers
  unfolding whole_answer whole_size whole_answers whole_bytes
  refused_by e en es = rw (e, en, es) (refl, refl, refl, refl)

  pub too_long_lem : most_file < length file → n ≡ 18 → size ≡ 0 → Done bs file answers n size bs answers
  unfolding whole_refused file_refused too_long
  too_long_lem h = refused_by (rw (lt-ltb most_file (length file) h) refl)

  pub wrong_book : length file ≤ most_file → (length bs ≡ book_length → ⊥) → n ≡ 18 → size ≡ 0 → Done bs file answers n size bs answers
  unfolding whole_refused file_refused too_long
  wrong_book l h = refused_by (rw (le-ltb most_file (length file) l, ne_eqb (length bs) book_length h) refl)

  module _ (l : length file ≤ most_file) (b : length bs ≡ book_length) where
    pub no_room : length answers < length (answers_of file) → n ≡ 18 → size ≡ 0 → Done bs file answers n size bs answers
    unfolding whole_refused file_refused too_long
    no_room h = refused_by (rw (le-ltb most_file (length file) l, eq-eqb (length bs) book_length b, lt-ltb (length answers) (length (answers_of file)) h) refl)

    fine : length (answers_of file) ≤ length answers → whole_refused bs file answers ≡ false
    unfolding whole_refused file_refused too_long
    fine h = rw (le-ltb most_file (length file) l, eq-eqb (length bs) book_length b, le-ltb (length answers) (length (answers_of file)) h) refl

    written : length (answers_of file) ≤ length answers → stored answers 0 (answers_of file) ≡ answers_of file ++ drop (length (answers_of file)) answers
    written h =
        let z : 0 + length (answers_of file) ≡ length (answers_of file) = omega arith in
        stored_eq answers 0 (answers_of file) (omega (arith, h)) ∙ ap (λ (i : ℕ). answers_of file ++ drop i answers) z

    pub played_all : length (answers_of file) ≤ length answers → n ≡ 0 → size ≡ length (answers_of file) → (bs' answers' : List ℕ) → Left bs file answers bs' answers'
        → Done bs file answers n size bs' answers'
    unfolding whole_answer whole_size whole_answers whole_bytes
    played_all h en es bs' answers' d = rw (fine h) (en, es, d.0 ∙ written h, d.1)
