-- The settlement run on a sound book: its answer, refused, accepted, and accepted with nothing to give.
use Rattle.std.specs.Prelude.{◌≡◌, true, false, List, ℕ, Ok, Err}
use Rattle.std.proofs.Math.Path.{sym, ap}
use Rattle.std.proofs.Common.{◌∙◌, arith}
use borrow.Author.Tests.{eq-eqb, ne_eqb}
use Rattle.std.proofs.Math.IntN.{pos}
use Rattle.fields.specs.Field.{Bytes}
use Rattle.units.specs.Units.{shares_of, shares}
use Rattle.units.specs.declared.Shares.{Shares}
use Rattle.rules.specs.Layout.{book_of, bytes_of}
use Rattle.rules.specs.LayoutLaws.{bytes_book}
use Rattle.rules.specs.Sound.{not_sound}
use Rattle.rules.specs.Trades.{bad_security}
use Rattle.rules.specs.Run.{deliverable}
use Rattle.rules.specs.Calls.{run, answer_sound, after, figure, answer_bytes, after_bytes, figure_bytes, run_answer}
use Rattle.laws.specs.Cases.{cond_yes, cond_no}
use Rattle.laws.specs.SoundRun.{sound_test_13}
use Rattle.settling.specs.Ends.{refused_3, security_below, accepted as answer-0}
use Rattle.settling.specs.Idle.{idle_book, idle_figure}
use Rattle.laws.specs.SoundBytes.{shaped, long, is_sound, refused, accepted}

module _ (bs : List ℕ) (fine : not_sound bs ≡ false) (s : ℕ) where
  pub run_refused : (n : ℕ) → n ≡ answer_sound (book_of bs) (run s) → (n ≡ 0 → ⊥) → (Err n ≡ run_answer bs s) × (bs ≡ after_bytes bs (run s))
  unfolding run_answer
  run_refused n e z =
      let r = refused bs fine (run s) n e z in
      (ap Err r.0 ∙ sym (cond_no (Ok (shares (pos (figure_bytes bs (run s))))) _ (ne_eqb (answer_bytes bs (run s)) 0 (λ g. z (r.0 ∙ g)))), r.1)

  pub run_accepted : (q : Shares) (new : List ℕ) → 0 ≡ answer_sound (book_of bs) (run s) → shares_of q ≡ pos (figure (book_of bs) (run s))
      → new ≡ bytes_of (after (book_of bs) (run s)) → (Ok q ≡ run_answer bs s) × (new ≡ after_bytes bs (run s))
  unfolding run_answer figure_bytes
  run_accepted q new e f g =
      let r = accepted bs fine (run s) new e g in
      let t = eq-eqb (answer_bytes bs (run s)) 0 (sym r.0) in
      let h : q ≡ shares (pos (figure_bytes bs (run s))) = ap shares (f ∙ ap pos (sym (cond_yes (figure (book_of bs) (run s)) 0 t))) in
      (ap Ok h ∙ sym (cond_yes (Ok (shares (pos (figure_bytes bs (run s))))) _ t), r.1)

  -- the security is unlisted
  pub run_unlisted : bad_security (book_of bs) s ≡ true → (Err 3 ≡ run_answer bs s) × (bs ≡ after_bytes bs (run s))
  run_unlisted e = run_refused 3 (refused_3 (book_of bs) s e) (λ z. omega arith)

  -- nothing can be given: the book keeps its bytes
  pub run_idle : (q : Shares) → Bytes bs → bad_security (book_of bs) s ≡ false → deliverable (book_of bs) s ≡ 0 → shares_of q ≡ pos 0
      → (Ok q ≡ run_answer bs s) × (bs ≡ after_bytes bs (run s))
  run_idle q h e z f =
      let k = book_of bs in
      let ok = is_sound bs fine in
      let hs = security_below k s e in
      run_accepted q bs (answer-0 k s e (sound_test_13 k s hs ok)) (f ∙ ap pos (idle_figure k ok (shaped bs) s hs z))
      (sym (bytes_book bs h (long bs fine)) ∙ ap bytes_of (idle_book k ok (shaped bs) s hs z))
