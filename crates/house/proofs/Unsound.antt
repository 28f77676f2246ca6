-- What a public call answers by `ok_or(r)?` where there is no value: that refusal; and where the bytes are no sound book, what the call answers of those.
use Rattle.std.proofs.Common.{◌≡◌, true, List, ℕ, Option, Some, None, Result, Ok, Err, ap, ◌∙◌}
use Rattle.std.specs.Option.{ok_or}
use Rattle.std.specs.Result.{IsErrAnd}
use Rattle.units.specs.declared.Shares.{Shares}
use Rattle.rules.specs.Refusals.{answered, numbered}
use Rattle.rules.specs.Sound.{not_sound}
use Rattle.rules.specs.Calls.{Call, run, answer_bytes, after_bytes, run_answer}
use Rattle.rules.specs.declared.Refusal.{Refusal}
use Rattle.rules.specs.declared.Refusal.TheVariants.{NotSound}
use Rattle.house.specs.Lent.{unsound, run_unsound}

-- the refusal q that `?` hands on is r
pub handed_on : {A B : Type 0} (o : Option A) (r q : Refusal) (answer : Result B Refusal) → o ≡ None → Err q ≡ ok_or o r → IsErrAnd answer (λ e. e ≡ q)
    → answer ≡ Err r
handed_on o r q (Ok x) n e h = absurd h
handed_on (Some y) r q (Err p) n e h = cc
handed_on None r q (Err p) n e h = let f : q ≡ r = cc in ap Err (h ∙ f)

module _ (bs : List ℕ) (no : not_sound bs ≡ true) {A : Type 0} (o : Option A) (q : Refusal) (none : o ≡ None) (is : Err q ≡ ok_or o NotSound) where
  pub call_unsound : (c : Call) (answer : Result (Unit {0}) Refusal) → IsErrAnd answer (λ e. e ≡ q) → (answered answer ≡ answer_bytes bs c) × (bs ≡ after_bytes bs c)
  call_unsound c answer h =
      let u = unsound bs no c in
      (ap answered (handed_on o NotSound q answer none is h) ∙ u.0, u.1)

  pub run_is_unsound : (s : ℕ) (answer : Result Shares Refusal) → IsErrAnd answer (λ e. e ≡ q) → (numbered answer ≡ run_answer bs s) × (bs ≡ after_bytes bs (run s))
  run_is_unsound s answer h =
      let u = run_unsound bs no s in
      (ap numbered (handed_on o NotSound q answer none is h) ∙ u.0, u.1)
