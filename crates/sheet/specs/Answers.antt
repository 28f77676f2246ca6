-- The answers of a file, read back from their bytes, 9 each: number 1, figure 8. And their lines as a loop over the bytes meets them.
use Rattle.std.specs.Prelude.{◌≡◌, refl, Bool, true, not, ◌||◌, List, [], ◌∷◌, ◌++◌, map, ℕ, suc, ◌+◌, ◌*◌, ◌-◌, ◌/◌, ◌^◌, ◌≤◌, ◌<◌, eqb, ltb, length}
use Rattle.std.proofs.Common.{sym, ap, ap₂, ◌∙◌, append_assoc, append-nil, arith, add-one, length-append, eq-eqb, ne_eqb, eqb-true, lt-ltb, ltb-true}
use Rattle.std.proofs.lemmas.List.{length-map}
use Rattle.fields.specs.Field.{field, digits}
use Rattle.fields.specs.FieldLaws.{length_digits, field_digits}
use Rattle.rules.specs.Words.{all, each, from}
use Rattle.rules.specs.CallFile.{Answer}
use Rattle.rules.specs.Sheet.{answer_line, answer_lines}
use Rattle.rules.specs.declared.Line.{Line}
use Rattle.rules.specs.declared.Line.TheVariants.{Refusal, Place}
use Rattle.laws.specs.Cases.{by_test, and_hold, cond_yes, cond_no}
use Rattle.laws.specs.All.{all_cons, from_length}
use Rattle.sheet_laws.specs.AnswersFit.{Fits, AllFit, fit_none, fit_more}
use Rattle.sheet_laws.specs.AnswerWidths.{few_answers}

-- ── definitions ──

abbrev pub answer : ℕ → ℕ → Answer
answer number figure = record { number = number; figure = figure }

-- as CallFile.answersOf writes it
abbrev pub code : Answer → List ℕ
code a = digits 1 a.number ++ digits 8 a.figure

-- entry i of the bytes, and all entries
abbrev pub answerAt : List ℕ → ℕ → Answer
answerAt bs i = answer (field 1 (i * 9) bs) (field 8 (i * 9 + 1) bs)

unfoldable pub answersIn : List ℕ → List Answer
answersIn bs = map (answerAt bs) (from 0 (length bs / 9))

-- the place of a 19 has 32 bits
unfoldable pub placeFits : Answer → Bool
placeFits a = not (eqb a.number 19) || ltb a.figure (2 ^ 32)

-- ── what is written is read back ──

read_one : (p q : List ℕ) (i : ℕ) (a : Answer) → length p ≡ i * 9 → Fits a → answerAt (p ++ (code a ++ q)) i ≡ a
read_one p q i a e h =
    let ds = digits 1 a.number in
    let fs = digits 8 a.figure in
    let one : field 1 (i * 9) (p ++ (code a ++ q)) ≡ a.number =
    ap (λ (m : List ℕ). field 1 (i * 9) (p ++ m)) (append_assoc ds fs q) ∙ field_digits 1 a.number p (fs ++ q) (i * 9) e (omega (arith, h.number)) in
    let long : length (p ++ ds) ≡ i * 9 + 1 = length-append p ds ∙ omega (arith, length_digits 1 a.number) in
    let two : field 8 (i * 9 + 1) (p ++ (code a ++ q)) ≡ a.figure =
    ap (field 8 (i * 9 + 1)) (ap (λ (m : List ℕ). p ++ m) (append_assoc ds fs q) ∙ sym (append_assoc p ds (fs ++ q)))
    ∙ field_digits 8 a.figure (p ++ ds) q (i * 9 + 1) long h.figure in
    ap₂ answer one two

pub length-code : (a : Answer) → length (code a) ≡ 9
length-code a =
    length-append (digits 1 a.number) (digits 8 a.figure)
    ∙ omega (arith, length_digits 1 a.number, length_digits 8 a.figure)

read_all : (p q : List ℕ) (i : ℕ) (l : List Answer) → length p ≡ i * 9 → AllFit l → map (answerAt (p ++ (each code l ++ q))) (from i (length l)) ≡ l
unfolding each from
read_all p q i l e fit_none = refl
read_all p q i l e (fit_more {a = a} {rest = rest} h r) =
    let bs : each code (a ∷ rest) ++ q ≡ code a ++ (each code rest ++ q) = append_assoc (code a) (each code rest) q in
    let one : answerAt (p ++ (each code (a ∷ rest) ++ q)) i ≡ a =
    ap (λ (m : List ℕ). answerAt (p ++ m) i) bs ∙ read_one p (each code rest ++ q) i a e h in
    let long : length (p ++ code a) ≡ suc i * 9 = length-append p (code a) ∙ omega (arith, length-code a) in
    let move : p ++ (each code (a ∷ rest) ++ q) ≡ (p ++ code a) ++ (each code rest ++ q) =
    ap (λ (m : List ℕ). p ++ m) bs ∙ sym (append_assoc p (code a) (each code rest ++ q)) in
    let two : map (answerAt (p ++ (each code (a ∷ rest) ++ q))) (from (suc i) (length rest)) ≡ rest =
    ap (λ (m : List ℕ). map (answerAt m) (from (suc i) (length rest))) move ∙ read_all (p ++ code a) q (suc i) rest long r in
    ap₂ (λ (x : Answer) (y : List Answer). x ∷ y) one two

pub length_codes : (l : List Answer) → length (each code l) ≡ length l * 9
unfolding each
length_codes [] = refl
length_codes (a ∷ l) = length-append (code a) (each code l) ∙ omega (arith, length-code a, length_codes l)

pub answers-back : (l : List Answer) → AllFit l → answersIn (each code l) ≡ l
unfolding answersIn
answers-back l h =
    let entries : length (each code l) / 9 ≡ length l = omega (arith, length_codes l) in
    ap₂ (λ (n : ℕ) (bs : List ℕ). map (answerAt bs) (from 0 n)) entries (sym (append-nil (each code l))) ∙ read_all [] [] 0 l refl h

-- ── the loop: what is left from entry i on ──

abbrev pub answers_left : List ℕ → ℕ → List Answer
answers_left bs i = map (answerAt bs) (from i (length bs / 9 - i))

abbrev pub linesLeft : List ℕ → ℕ → List Line
linesLeft bs i = answer_lines i (answers_left bs i)

pub left-first : (bs : List ℕ) → answersIn bs ≡ answers_left bs 0
unfolding answersIn
left-first bs = ap (λ (n : ℕ). map (answerAt bs) (from 0 n)) (omega arith)

answers-more : (bs : List ℕ) (i : ℕ) → i < length bs / 9 → answers_left bs i ≡ answerAt bs i ∷ answers_left bs (i + 1)
unfolding from
answers-more bs i h = let e : length bs / 9 - i ≡ suc (length bs / 9 - (i + 1)) = omega arith in rw (e, add-one i)

pub left-more : (bs : List ℕ) (i : ℕ) (a : Answer) → i < length bs / 9 → a ≡ answerAt bs i
    → linesLeft bs i ≡ answer_line i a ++ linesLeft bs (i + 1)
unfolding answer_lines
left-more bs i a h e =
    ap (answer_lines i) (answers-more bs i h)
    ∙ ap (λ (x : Answer). answer_line i x ++ answer_lines (suc i) (answers_left bs (i + 1))) (sym e)
    ∙ ap (λ (n : ℕ). answer_line i a ++ answer_lines n (answers_left bs (i + 1))) (sym (add-one i))

pub left-done : (bs : List ℕ) (i : ℕ) → length bs / 9 ≤ i → linesLeft bs i ≡ []
unfolding from answer_lines
left-done bs i h = let e : length bs / 9 - i ≡ 0 = omega arith in ap (λ (n : ℕ). answer_lines i (map (answerAt bs) (from i n))) e

-- the places fit
pub places-fit : (l : List Answer) → AllFit l → all placeFits l ≡ true
unfolding all placeFits
places-fit l fit_none = refl
places-fit l (fit_more {a = a} {rest = rest} h r) =
    let here : placeFits a ≡ true =
    by_test (eqb a.number 19)
    (λ e. rw e (lt-ltb a.figure (2 ^ 32) (omega (arith, h.place (eqb-true a.number 19 e)))))
    (λ e. rw e) in
    and_hold here (places-fit rest r)

pub fits_more : (bs : List ℕ) (i : ℕ) → i < length bs / 9 → all placeFits (answers_left bs i) ≡ true
    → (placeFits (answerAt bs i) ≡ true) × (all placeFits (answers_left bs (i + 1)) ≡ true)
fits_more bs i h e =
    all_cons placeFits (answerAt bs i) (answers_left bs (i + 1)) (ap (all placeFits) (sym (answers-more bs i h)) ∙ e)

pub place-fits : (number figure : ℕ) → placeFits (answer number figure) ≡ true → number ≡ 19 → figure < 2 ^ 32
unfolding placeFits
place-fits number figure e is =
    ltb-true figure (2 ^ 32) (sym (ap (λ (b : Bool). not b || ltb figure (2 ^ 32)) (eq-eqb number 19 is)) ∙ e)

-- ── the line of an answer ──

pub line-none : (i number figure : ℕ) → number ≡ 0 → answer_line i (answer number figure) ≡ []
unfolding answer_line
line-none i number figure e = cond_yes _ _ (eq-eqb number 0 e)

pub line-place : (i number figure : ℕ) → number ≡ 19 → answer_line i (answer number figure) ≡ Place figure ∷ []
unfolding answer_line
line-place i number figure e = cond_no _ _ (ne_eqb number 0 (λ z. omega arith)) ∙ cond_yes _ _ (eq-eqb number 19 e)

pub line-refusal : (i number figure : ℕ) → (number ≡ 0 → ⊥) → (number ≡ 19 → ⊥) → answer_line i (answer number figure) ≡ Refusal i number ∷ []
unfolding answer_line
line-refusal i number figure z n = cond_no _ _ (ne_eqb number 0 z) ∙ cond_no _ _ (ne_eqb number 19 n)

-- ── they are few ──

length-answers : (bs : List ℕ) → length (answersIn bs) ≡ length bs / 9
unfolding answersIn
length-answers bs = length-map (from 0 (length bs / 9)) (answerAt bs) ∙ from_length 0 (length bs / 9)

pub few-lines : (bs : List ℕ) → length (answer_lines 0 (answersIn bs)) ≤ length bs / 9
few-lines bs = omega (arith, few_answers 0 (answersIn bs), length-answers bs)
