-- Answers as the exported functions hand them out: a number, and figures of their own. No figure of a run or of a record is below zero, so
-- that it is an unsigned number.
use Rattle.std.specs.Prelude.{◌≡◌, refl, Bool, true, false, cond, List, [], ◌∷◌, ℕ, ◌+◌, eqb, length, get_or, drop, map, ℤ, Result, Ok, Err}
use Rattle.std.proofs.Common.{sym, ◌∙◌, arith}
use Rattle.std.proofs.Math.Path.{ap}
use Rattle.std.proofs.Math.IntN.{pos, nat_abs}
use Rattle.units.specs.Units.{shares_of, mils_of, shares}
use Rattle.units.specs.declared.Shares.{Shares}
use Rattle.units.specs.declared.Mils.{Mils}
use Rattle.rules.specs.Calls.{run, answer_bytes, figure_bytes, run_answer, number_of_run, figure_of_run}
use Rattle.rules.specs.Marks.{number_of_marks, figures_of_marks}
use Rattle.rules.specs.Records.{Record, create, call, unreadable, length_of, record_at, other_version, file_refused, past_end, answer_to, record_answer, number_of_record, figure_of_record, next_of_record}
use Rattle.rules.specs.declared.Marks.{Marks}
use Rattle.rules.specs.declared.RecordAnswer.{RecordAnswer}
use Rattle.rules.specs.declared.RecordAnswer.TheVariants.{Answered, Unreadable, Ended, FileRefused}
use Rattle.rules.specs.Sound.{not_sound}
use Rattle.wickdamson.specs.Fields.{sound_answer}

-- ── not below zero ──

abbrev Unsigned : ℤ → Type 0
Unsigned z = pos (nat_abs z) ≡ z

either : {A : Type 0} (f : A → ℤ) (b : Bool) (x y : A) → Unsigned (f x) → Unsigned (f y) → Unsigned (f (cond b x y))
either f true x y h k = h
either f false x y h k = k

run_unsigned : (bs : List ℕ) (s : ℕ) → Unsigned (figure_of_run (run_answer bs s))
unfolding run_answer figure_of_run
run_unsigned bs s =
    either figure_of_run (eqb (answer_bytes bs (run s)) 0)
    (Ok (shares (pos (figure_bytes bs (run s))))) (Err (answer_bytes bs (run s))) refl refl

answer_unsigned : (book : List ℕ) (place next : ℕ) (r : Record) → Unsigned (figure_of_record (answer_to book place next r))
unfolding answer_to figure_of_record
answer_unsigned book place next (create codes) = refl
answer_unsigned book place next (call c) = refl
answer_unsigned book place next unreadable = refl

record_unsigned : (book file : List ℕ) (place : ℕ) → Unsigned (figure_of_record (record_answer book file place))
unfolding record_answer figure_of_record
record_unsigned book file place =
    let next = place + 2 + length_of (drop place file) in
    let found = answer_to book place next (record_at file place) in
    let there = cond (past_end file place) Ended found in
    let ours = cond (other_version file) (Unreadable 0) there in
    either figure_of_record (file_refused book file) (FileRefused 18) ours refl
    (either figure_of_record (other_version file) (Unreadable 0) there refl
    (either figure_of_record (past_end file place) Ended found refl (answer_unsigned book place next (record_at file place))))

-- ── whether bytes are a sound book, by the test's outcome ──

pub unsound_told : (bs : List ℕ) {b : Bool} → b ≡ not_sound bs → b ≡ true → 0 ≡ sound_answer bs
unfolding sound_answer
unsound_told bs e t = rw (sym e ∙ t)

pub sound_told : (bs : List ℕ) {b : Bool} → b ≡ not_sound bs → b ≡ false → 1 ≡ sound_answer bs
unfolding sound_answer
sound_told bs e t = rw (sym e ∙ t)

-- ── the answer of a run, by its cases ──

module _ (bs : List ℕ) (s : ℕ) where
  pub moved_told : (q : Shares) → Ok q ≡ run_answer bs s → (k : ℕ) → k ≡ nat_abs (shares_of q)
      → (0 ≡ number_of_run (run_answer bs s)) × (pos k ≡ figure_of_run (run_answer bs s))
  unfolding number_of_run figure_of_run
  moved_told q h k e =
      (ap number_of_run h, ap pos (e ∙ ap (λ (a : Result Shares ℕ). nat_abs (figure_of_run a)) h) ∙ run_unsigned bs s)

  pub refused_told : (r : ℕ) → Err r ≡ run_answer bs s
      → (r ≡ number_of_run (run_answer bs s)) × (pos 0 ≡ figure_of_run (run_answer bs s))
  unfolding number_of_run figure_of_run
  refused_told r h = (ap number_of_run h, ap figure_of_run h)

-- ── the answer of marks, by its cases ──

-- the four sums one by one
pub four_sums : (d : Mils) (sums : List Mils) → length sums ≡ 4
    → mils_of (get_or sums 0 d) ∷ mils_of (get_or sums 1 d) ∷ mils_of (get_or sums 2 d) ∷ mils_of (get_or sums 3 d) ∷ [] ≡ map mils_of sums
four_sums d [] h = absurd (omega arith)
four_sums d (x ∷ []) h = absurd (omega arith)
four_sums d (x ∷ y ∷ []) h = absurd (omega arith)
four_sums d (x ∷ y ∷ z ∷ []) h = absurd (omega arith)
four_sums d (x ∷ y ∷ z ∷ w ∷ []) h = refl
four_sums d (x ∷ y ∷ z ∷ w ∷ v ∷ l) h = absurd (omega arith)

module _ (all : Result Marks ℕ) where
  abbrev Marked : ℕ → List ℤ → Type 0
  Marked number figures = (number ≡ number_of_marks all) × (figures ≡ figures_of_marks all)

  pub due_told : (m : Marks) → Ok m ≡ all → (v w x y z : ℤ) → v ≡ mils_of m.due → w ∷ x ∷ y ∷ z ∷ [] ≡ map mils_of m.sums
      → Marked 0 (v ∷ w ∷ x ∷ y ∷ z ∷ [])
  unfolding number_of_marks figures_of_marks
  due_told m h v w x y z ev es = (ap number_of_marks h, rw (ev, es) (ap figures_of_marks h))

  pub marks_refused_told : (n : ℕ) → Err n ≡ all → Marked n (pos 0 ∷ pos 0 ∷ pos 0 ∷ pos 0 ∷ pos 0 ∷ [])
  unfolding number_of_marks figures_of_marks
  marks_refused_told n h = (ap number_of_marks h, ap figures_of_marks h)

-- ── the answer of a record, by its cases ──

module _ (book file : List ℕ) (place : ℕ) where
  abbrev Told : ℕ → ℕ → ℕ → Type 0
  Told number figure next =
      (number ≡ number_of_record (record_answer book file place))
      × (pos figure ≡ figure_of_record (record_answer book file place))
      × (next ≡ next_of_record (record_answer book file place))

  pub answered_told : (n : ℕ) (q : Shares) (x : ℕ) → Answered n q x ≡ record_answer book file place → (k : ℕ) → k ≡ nat_abs (shares_of q) → Told n k x
  unfolding number_of_record figure_of_record next_of_record
  answered_told n q x h k e =
      let f = ap pos (e ∙ ap (λ (a : RecordAnswer). nat_abs (figure_of_record a)) h) ∙ record_unsigned book file place in
      (ap number_of_record h, f, ap next_of_record h)

  pub unreadable_told : (at : ℕ) → Unreadable at ≡ record_answer book file place → Told 19 at 0
  unfolding number_of_record figure_of_record next_of_record
  unreadable_told at h = (ap number_of_record h, ap figure_of_record h, ap next_of_record h)

  pub ended_told : Ended ≡ record_answer book file place → Told 0 0 0
  unfolding number_of_record figure_of_record next_of_record
  ended_told h = (ap number_of_record h, ap figure_of_record h, ap next_of_record h)

  pub file_refused_told : (n : ℕ) → FileRefused n ≡ record_answer book file place → Told n 0 0
  unfolding number_of_record figure_of_record next_of_record
  file_refused_told n h = (ap number_of_record h, ap figure_of_record h, ap next_of_record h)
