-- A call on a sound book that is refused: the refusal goes out as its number, which is not 0, and the bytes stay.
use Rattle.std.proofs.Common.{◌≡◌, List, ℕ, false, Result, Ok, Err, ap, ◌∙◌}
use Rattle.std.specs.Result.{IsErrAnd}
use Rattle.units.specs.declared.Shares.{Shares}
use Rattle.rules.specs.Layout.{book_of}
use Rattle.rules.specs.Refusals.{number_of, answered, numbered}
use Rattle.rules.specs.Sound.{not_sound}
use Rattle.rules.specs.Calls.{Call, run, answer_sound, answer_bytes, after_bytes, run_answer}
use Rattle.rules.specs.declared.Refusal.{Refusal}
use Rattle.laws.specs.RefusalNumbers.{number_some}
use Rattle.laws.specs.SoundBytes.{refused}
use Rattle.calls.specs.Runs.{run_refused}

-- r is what a test refuses with, and `answer` is what `?` hands on of it
pub handed_on : {A : Type 0} (answer : Result A Refusal) (r : Refusal) → IsErrAnd answer (λ e. e ≡ r) → answered answer ≡ number_of r
handed_on (Ok x) r h = absurd h
handed_on (Err q) r h = ap number_of h

module _ (bs : List ℕ) (fine : not_sound bs ≡ false) (r : Refusal) where
  pub call_refused : (c : Call) (answer : Result (Unit {0}) Refusal) → IsErrAnd answer (λ e. e ≡ r) → number_of r ≡ answer_sound (book_of bs) c
      → (answered answer ≡ answer_bytes bs c) × (bs ≡ after_bytes bs c)
  call_refused c answer h e =
      let f = refused bs fine c (number_of r) e (number_some r) in
      (handed_on answer r h ∙ f.0, f.1)

  pub run_is_refused : (s : ℕ) (answer : Result Shares Refusal) → IsErrAnd answer (λ e. e ≡ r) → number_of r ≡ answer_sound (book_of bs) (run s)
      → (numbered answer ≡ run_answer bs s) × (bs ≡ after_bytes bs (run s))
  run_is_refused s (Ok x) h e = absurd h
  run_is_refused s (Err q) h e = run_refused bs fine s (number_of q) (ap number_of h ∙ e) (number_some q)
