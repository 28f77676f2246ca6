-- A roll behind a refused one is refused by the same number, whatever refused records and runs that move nothing stand between them: these leave the book
-- (laws/Refused, settling/Idle).
use Rattle.std.specs.Prelude.{◌≡◌, refl, Option, Some, None, List, Bool, true, false, cond, not, ◌&&◌, ◌||◌, ◌≢◌, ℕ, eqb}
use Rattle.std.proofs.Common.{sym, ap, subst, ◌∙◌, arith, eq-eqb, eqb-true}
use Rattle.std.proofs.lemmas.Bool.{eqb-false}
use Rattle.rules.specs.Refusals.{number_of}
use Rattle.rules.specs.declared.Refusal.{Refusal}
use Rattle.rules.specs.Layout.{book_of, bytes_of}
use Rattle.rules.specs.Trades.{bad_security}
use Rattle.rules.specs.Sound.{not_sound}
use Rattle.rules.specs.Run.{deliverable, shares_moved}
use Rattle.rules.specs.Calls.{Call, roll, run, after, figure, answer_bytes, after_bytes, figure_bytes}
use Rattle.laws.specs.Cases.{by_test, true_false, both_hold, cond_yes}
use Rattle.laws.specs.Refused.{call_keeps, call_zero}
use Rattle.laws.specs.SoundRun.{sound_moved}
use Rattle.settling.specs.Ends.{refused_3, security_below}
use Rattle.settling.specs.Idle.{idle_book}
use Rattle.laws.specs.SoundBytes.{shaped, is_sound, refused}
use Rattle.callfile_format.specs.declared.reading.Read.{Read}
use Rattle.callfile_format.specs.declared.reading.Read.TheVariants as read
use Rattle.playing_records.specs.declared.applying.Answer.{Answer}
use Rattle.playing_records.specs.declared.applying.Answer.TheVariants.{Refused}
use Rattle.laws.specs.RefusalNumbers.{number_some}
use Rattle.playing_records.specs.Answers.{number_in, figure_in, refusal_in}
use Rattle.playing_records.specs.Applying.{call_in, number_by, figure_by, bytes_by, Applied}

abbrev pub is_roll : Option Read → Bool
is_roll (Some read.Roll) = true
is_roll _ = false

roll_read : (r : Option Read) → is_roll r ≡ true → call_in r ≡ Some roll
unfolding call_in
roll_read (Some read.Roll) e = refl
roll_read _ e = true_false e refl

abbrev pub is_run : Option Read → Bool
is_run (Some (read.Run s)) = true
is_run _ = false

run_read : (r : Option Read) → is_run r ≡ true → (s : ℕ) × (call_in r ≡ Some (run s))
unfolding call_in
run_read (Some (read.Run s)) e = (s, refl)
run_read _ e = true_false e refl

-- a record that was answered so left the bytes: it was refused, or is a run that moved nothing
abbrev pub leaves : Option Read → ℕ → ℕ → Bool
leaves r number figure = not (eqb number 0) || (is_run r && eqb figure 0)

-- the bytes are known to refuse a roll so, or nothing is known
abbrev pub Refuses : List ℕ → Option Refusal → Type 0
Refuses bs None = Unit {0}
Refuses bs (Some r) = answer_bytes bs roll ≡ number_of r

module _ (bs : List ℕ) (place : ℕ) (found : Option Read) where
  -- the roll that is not made
  pub same_again : is_roll found ≡ true → (r : Refusal) → Refuses bs (Some r) → Applied bs place found (number_of r) 0 bs
  unfolding number_by figure_by bytes_by
  same_again e r known =
      let h = roll_read found e in
      let not_taken : answer_bytes bs roll ≢ 0 = λ z. number_some r (sym known ∙ z) in
      rw h (sym known, sym (call_zero bs roll not_taken), sym (call_keeps bs roll not_taken))

-- ── what is known behind a record ──

module _ (bs : List ℕ) (fine : not_sound bs ≡ false) (same : bytes_of (book_of bs) ≡ bs) where
  -- a run that moved nothing had nothing to give
  idle_keeps : (s : ℕ) → answer_bytes bs (run s) ≡ 0 → figure_bytes bs (run s) ≡ 0 → after_bytes bs (run s) ≡ bs
  unfolding after_bytes figure_bytes figure
  idle_keeps s a f =
      let k = book_of bs in
      let ok = is_sound bs fine in
      let yes = eq-eqb (answer_bytes bs (run s)) 0 a in
      by_test (bad_security k s)
      (λ e. absurd (omega (arith, (refused bs fine (run s) 3 (refused_3 k s e) (λ z. omega arith)).0, a)))
      (λ e.
      let below = security_below k s e in
      let none : deliverable k s ≡ 0 = sym (sound_moved k s below ok) ∙ sym (cond_yes (shares_moved k s) 0 yes) ∙ f in
      cond_yes (bytes_of (after k (run s))) bs yes ∙ ap bytes_of (sym (idle_book k ok (shaped bs) s below none)) ∙ same)

  -- a record that was refused leaves the bytes
  refused_keeps : (o : Option Call) → number_by bs o ≢ 0 → bytes_by bs o ≡ bs
  unfolding number_by bytes_by
  refused_keeps None there = refl
  refused_keeps (Some c) there = call_keeps bs c there

  -- a roll that was refused is refused again
  behind_roll : (place : ℕ) (found : Option Read) (answer : Answer) (new : List ℕ) → Applied bs place found (number_in answer) (figure_in answer) new
      → is_roll found ≡ true → Refuses new (refusal_in answer)
  unfolding number_by bytes_by
  behind_roll place found (Refused r) new a y =
      let e : number_of r ≡ answer_bytes bs roll = a.0 ∙ ap (number_by bs) (roll_read found y) in
      let kept : new ≡ bs = a.2 ∙ refused_keeps (call_in found) (λ z. number_some r (a.0 ∙ z)) in
      ap (λ (l : List ℕ). answer_bytes l roll) kept ∙ sym e
  behind_roll place found _ new a y = tt

  module _ (place : ℕ) (found : Option Read) (answer : Answer) (new : List ℕ) (a : Applied bs place found (number_in answer) (figure_in answer) new) where
    refused_kept : number_in answer ≢ 0 → new ≡ bs
    refused_kept there = a.2 ∙ refused_keeps (call_in found) (λ z. there (a.0 ∙ z))

    run_kept : number_in answer ≡ 0 → is_run found ≡ true → figure_in answer ≡ 0 → new ≡ bs
    unfolding number_by figure_by bytes_by
    run_kept en er ef =
        let r = run_read found er in
        a.2 ∙ ap (bytes_by bs) r.1 ∙ idle_keeps r.0 (sym (a.0 ∙ ap (number_by bs) r.1) ∙ en) (sym (a.1 ∙ ap (figure_by bs place) r.1) ∙ ef)

    kept : leaves found (number_in answer) (figure_in answer) ≡ true → new ≡ bs
    kept h =
        by_test (eqb (number_in answer) 0)
        (λ z.
        let idle = both_hold (is_run found) (eqb (figure_in answer) 0) (rw z at h) in
        run_kept (eqb-true (number_in answer) 0 z) idle.0 (eqb-true (figure_in answer) 0 idle.1))
        (λ z. refused_kept (eqb-false (number_in answer) 0 z))

    -- what is known of a roll stays known where the bytes do
    still : new ≡ bs → (refused : Option Refusal) → Refuses bs refused → Refuses new refused
    still e refused known = subst (λ (l : List ℕ). Refuses l refused) (sym e) known

    behind_other : (refused : Option Refusal) → Refuses bs refused → Refuses new (cond (leaves found (number_in answer) (figure_in answer)) refused None)
    behind_other refused known =
        by_test (leaves found (number_in answer) (figure_in answer))
        (λ y. rw y (still (kept y) refused known))
        (λ y. rw y tt)

    pub known_behind : (refused : Option Refusal) → Refuses bs refused
        → Refuses new (cond (is_roll found) (refusal_in answer) (cond (leaves found (number_in answer) (figure_in answer)) refused None))
    known_behind refused known =
        by_test (is_roll found)
        (λ y. rw y (behind_roll place found answer new a y))
        (λ y. rw y (behind_other refused known))
