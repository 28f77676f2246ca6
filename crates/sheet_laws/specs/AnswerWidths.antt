-- The lines of the answers: at most one for each answer, and that of at most 11 bytes.
use Rattle.std.proofs.Common.{ap, ◌∙◌, arith, length-append, eqb-true}
use Rattle.std.specs.Prelude.{Bool, true, false, cond, List, [], ◌∷◌, ℕ, suc, ◌+◌, ◌*◌, ◌≤◌, ◌<◌, eqb, length}
use Rattle.rules.specs.Words.{each}
use Rattle.rules.specs.CallFile.{Answer}
use Rattle.rules.specs.Sheet.{text_of, answer_line, answer_lines}
use Rattle.rules.specs.declared.Line.{Line}
use Rattle.rules.specs.declared.Line.TheVariants.{Refusal, Place}
use Rattle.laws.specs.Cases.{by_test, cond_yes, cond_no}
use Rattle.sheet_laws.specs.AnswersFit.{Fits, AllFit, fit_none, fit_more}
use Rattle.sheet_laws.specs.Widths.{each_one, length_both, refusal_short, place_short}

-- ── how many ──

one_line : (i : ℕ) (a : Answer) → length (answer_line i a) ≤ 1
unfolding answer_line
one_line i a = go (eqb a.number 0) (eqb a.number 19)
  where
    go : (b c : Bool) → length (cond b [] (cond c (Place a.figure ∷ []) (Refusal i a.number ∷ []))) ≤ 1
    go true c = omega arith
    go false true = omega arith
    go false false = omega arith

pub few_answers : (i : ℕ) (l : List Answer) → length (answer_lines i l) ≤ length l
unfolding answer_lines
few_answers i [] = omega arith
few_answers i (a ∷ l) = omega (arith, one_line i a, few_answers (suc i) l, length-append (answer_line i a) (answer_lines (suc i) l))

-- ── how long ──

one_short : (i : ℕ) (a : Answer) → i < 100_000 → Fits a → length (each text_of (answer_line i a)) ≤ 11
unfolding answer_line each
one_short i a h f =
    let place = Place a.figure in
    let refusal = Refusal i a.number in
    let width : List Line → ℕ = λ ls. length (each text_of ls) in
    by_test (eqb a.number 0)
    (λ z. omega (arith, ap width (cond_yes [] (cond (eqb a.number 19) (place ∷ []) (refusal ∷ [])) z)))
    (λ z. let other = ap width (cond_no [] (cond (eqb a.number 19) (place ∷ []) (refusal ∷ [])) z) in
    by_test (eqb a.number 19)
    (λ n. omega (
      arith,
      other ∙ ap width (cond_yes (place ∷ []) (refusal ∷ []) n) ∙ ap length (each_one text_of place),
      place_short a.figure (omega (arith, f.place (eqb-true a.number 19 n))),
    ))
    (λ n. omega (
      arith,
      other ∙ ap width (cond_no (place ∷ []) (refusal ∷ []) n) ∙ ap length (each_one text_of refusal),
      refusal_short i a.number h f.number,
    )))

pub answers_short : (i : ℕ) (l : List Answer) → i + length l ≤ 100_000 → AllFit l → length (each text_of (answer_lines i l)) ≤ 11 * length l
unfolding answer_lines each
answers_short i l h fit_none = omega arith
answers_short i l h (fit_more {a = a} {rest = rest} f r) =
    omega (
      arith,
      length_both text_of (answer_line i a) (answer_lines (suc i) rest),
      one_short i a (omega arith) f,
      answers_short (suc i) rest (omega arith) r,
    )
