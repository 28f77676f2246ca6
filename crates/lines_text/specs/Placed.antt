-- Heads, fields and lines in the steps of the code: how long they are, and what writing them one behind the other leaves.
use Rattle.std.specs.Prelude.{◌≡◌, refl, true, false, List, [], ◌∷◌, ◌++◌, ℕ, zero, suc, ◌+◌, ◌-◌, ◌<◌, ◌≤◌, pos, length, set, get_or}
use Rattle.std.proofs.Common.{sym, ap, ◌∙◌, zero-add, add-one, arith, length-append, eq-eqb, ne_eqb}
use Rattle.std.proofs.Math.Logic.{dite}
use Rattle.std.proofs.Math.Decide.{ℕ_discrete}
use Rattle.fields.specs.Field.{stored}
use Rattle.fields.specs.FieldLaws.{after}
use Rattle.rules.specs.Words.{text}
use Rattle.rules.specs.Sheet.{decimal, text_of}
use Rattle.rules.specs.declared.Line.{Line}
use Rattle.rules.specs.declared.Line.TheVariants.{Refusal, Place, Day, Open, Charge, End}
use Rattle.laws.specs.Cases.{cond_yes, cond_no}
use Rattle.lines_text.specs.declared.Figure.{Figure}
use Rattle.lines_text.specs.declared.Words.{Words}
use Rattle.lines_text.specs.Digits.{put_byte}
use Rattle.lines_text.specs.LineWords.{figure_of, figure_text, head_text, field, fields, words_of, words_text, words_text_lem}

-- ── bytes one behind the other ──

pub put_two : (l : List ℕ) (i x y : ℕ) → set (set l i x) (i + 1) y ≡ stored l i (x ∷ y ∷ [])
put_two l i x y =
    after l (set l i x) (set (set l i x) (i + 1) y) i (i + 1) (x ∷ []) (y ∷ [])
    (put_byte l i x) (put_byte (set l i x) (i + 1) y) (omega arith)

pub put_three : (l : List ℕ) (i x y z : ℕ) → set (set (set l i x) (i + 1) y) (i + 2) z ≡ stored l i (x ∷ y ∷ z ∷ [])
put_three l i x y z =
    let m = set (set l i x) (i + 1) y in
    after l m (set m (i + 2) z) i (i + 2) (x ∷ y ∷ []) (z ∷ []) (put_two l i x y) (put_byte m (i + 2) z) (omega arith)

-- ── a head ──

pub head_day : (h : ℕ) → h ≡ 68 → head_text h ≡ h ∷ 65 ∷ 89 ∷ []
unfolding head_text text
head_day h e = cond_yes (text "DAY") (h ∷ []) (eq-eqb h 68 e) ∙ ap (λ (x : ℕ). x ∷ 65 ∷ 89 ∷ []) (sym e)

pub head_other : (h : ℕ) → (h ≡ 68 → ⊥) → head_text h ≡ h ∷ []
unfolding head_text
head_other h e = cond_no (text "DAY") (h ∷ []) (ne_eqb h 68 e)

pub head_some : (h : ℕ) → 1 ≤ length (head_text h)
head_some h = dite (ℕ_discrete h 68) (λ e. omega (arith, ap length (head_day h e))) (λ e. omega (arith, ap length (head_other h e)))

-- ── a field ──

pub field_minus : (f : Figure) → f.minus ≡ true → field f ≡ 32 ∷ 45 ∷ decimal f.size
unfolding field figure_text text
field_minus f e = ap (λ (ds : List ℕ). 32 ∷ ds) (cond_yes (45 ∷ decimal f.size) (decimal f.size) e)

pub field_plain : (f : Figure) → f.minus ≡ false → field f ≡ 32 ∷ decimal f.size
unfolding field figure_text text
field_plain f e = ap (λ (ds : List ℕ). 32 ∷ ds) (cond_no (45 ∷ decimal f.size) (decimal f.size) e)

pub field_some : (f : Figure) → 1 ≤ length (field f)
unfolding field text
field_some f = omega arith

pub put_minus : (l n : List ℕ) (i : ℕ) (f : Figure) → f.minus ≡ true
    → n ≡ stored (set (set l i 32) (i + 1) 45) (i + 2) (decimal f.size) → n ≡ stored l i (field f)
put_minus l n i f h e =
    after l (set (set l i 32) (i + 1) 45) n i (i + 2) (32 ∷ 45 ∷ []) (decimal f.size) (put_two l i 32 45) e (omega arith)
    ∙ ap (stored l i) (sym (field_minus f h))

pub put_plain : (l n : List ℕ) (i : ℕ) (f : Figure) → f.minus ≡ false
    → n ≡ stored (set l i 32) (i + 1) (decimal f.size) → n ≡ stored l i (field f)
put_plain l n i f h e =
    after l (set l i 32) n i (i + 1) (32 ∷ []) (decimal f.size) (put_byte l i 32) e (omega arith)
    ∙ ap (stored l i) (sym (field_plain f h))

-- ── the fields of a line ──

-- the figure at i
abbrev pub figure_at : List Figure → ℕ → Figure
figure_at fs i = get_or fs i (figure_of (pos 0))

pub fields_none : (fs : List Figure) → fields 0 fs ≡ []
unfolding fields
fields_none fs = refl

pub fields_more : (i : ℕ) (fs : List Figure) → fields (i + 1) fs ≡ fields i fs ++ field (figure_at fs i)
unfolding fields
fields_more i fs = rw (add-one i)

pub length_fields : (i : ℕ) (fs : List Figure) → length (fields (i + 1) fs) ≡ length (fields i fs) + length (field (figure_at fs i))
length_fields i fs = ap length (fields_more i fs) ∙ length-append (fields i fs) (field (figure_at fs i))

-- more fields are not shorter
fields_grow : (k i : ℕ) (fs : List Figure) → length (fields i fs) ≤ length (fields (k + i) fs)
fields_grow zero i fs = rw (zero-add i) (omega arith)
fields_grow (suc k) i fs =
    let e : length (fields (suc k + i) fs) ≡ length (fields (k + i) fs) + length (field (figure_at fs (k + i))) =
    ap (λ (m : ℕ). length (fields m fs)) (omega arith) ∙ length_fields (k + i) fs in
    omega (arith, fields_grow k i fs)

pub fields_within : (i n : ℕ) (fs : List Figure) → i < n → length (fields i fs) + length (field (figure_at fs i)) ≤ length (fields n fs)
fields_within i n fs h =
    let e : length (fields n fs) ≡ length (fields (n - (i + 1) + (i + 1)) fs) = ap (λ (m : ℕ). length (fields m fs)) (omega arith) in
    omega (arith, fields_grow (n - (i + 1)) (i + 1) fs, length_fields i fs)

pub put_fields : (l m n : List ℕ) (at place i : ℕ) (fs : List Figure) → m ≡ stored l at (fields i fs) → place ≡ at + length (fields i fs)
    → n ≡ stored m place (field (figure_at fs i)) → n ≡ stored l at (fields (i + 1) fs)
put_fields l m n at place i fs e f g =
    after l m n at place (fields i fs) (field (figure_at fs i)) e g f ∙ ap (stored l at) (sym (fields_more i fs))

-- ── a line ──

-- a line has at most five figures
few : (l : Line) → (words_of l).count ≤ 5
unfolding words_of
few (Refusal i n) = omega arith
few (Place p) = omega arith
few (Day d) = omega arith
few (Open n a s q m) = omega arith
few (Charge a c m) = omega arith
few (End n) = omega arith

pub words_few : (w : Words) (l : Line) → w ≡ words_of l → w.count ≤ 5
words_few w l e = omega (arith, ap (λ (v : Words). v.count) e, few l)

words_are : (w : Words) (l : Line) → w ≡ words_of l → text_of l ≡ head_text w.head ++ (fields w.count w.figures ++ (10 ∷ []))
unfolding words_text text
words_are w l e = sym (words_text_lem l) ∙ ap words_text (sym e)

pub length_line : (w : Words) (l : Line) → w ≡ words_of l
    → length (text_of l) ≡ length (head_text w.head) + length (fields w.count w.figures) + 1
length_line w l e =
    let h = head_text w.head in
    let fs = fields w.count w.figures in
    ap length (words_are w l e) ∙ omega (arith, length-append h (fs ++ (10 ∷ [])), length-append fs (10 ∷ []))

pub put_whole : (l m n : List ℕ) (at behind end : ℕ) (w : Words) (x : Line) → w ≡ words_of x
    → m ≡ stored l at (head_text w.head) → behind ≡ at + length (head_text w.head)
    → n ≡ stored m behind (fields w.count w.figures) → end ≡ behind + length (fields w.count w.figures)
    → set n end 10 ≡ stored l at (text_of x)
put_whole l m n at behind end w x is e f g h =
    let fs = fields w.count w.figures in
    after l m (set n end 10) at behind (head_text w.head) (fs ++ (10 ∷ [])) e
    (after m n (set n end 10) behind end fs (10 ∷ []) g (put_byte n end 10) h) f
    ∙ ap (stored l at) (sym (words_are w x is))
