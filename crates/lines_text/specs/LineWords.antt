-- A line as the code has it: a head, and so many figures. Its text is the text of the line.
use Rattle.std.specs.Prelude.{◌≡◌, refl, cond, List, [], ◌∷◌, ◌++◌, ℕ, zero, suc, eqb, ℤ, pos, negsuc, nat_abs, get_or}
use Rattle.std.proofs.Common.{sym, ap, append_assoc}
use Rattle.integers.specs.Signs.{is_negative}
use Rattle.units.specs.Units.{shares_of, mils_of}
use Rattle.rules.specs.Words.{text}
use Rattle.rules.specs.Sheet.{decimal, signed_decimal, spaced, text_of}
use Rattle.rules.specs.declared.Line.{Line}
use Rattle.rules.specs.declared.Line.TheVariants.{Refusal, Place, Day, Open, Charge, End}
use Rattle.lines_text.specs.declared.Figure.{Figure}
use Rattle.lines_text.specs.declared.Words.{Words}

-- ── figures ──

abbrev pub figure_of : ℤ → Figure
figure_of z = record { minus = is_negative z; size = nat_abs z }

-- a minus for negatives, and the digits
unfoldable pub figure_text : Figure → List ℕ
figure_text f = cond f.minus (text "-" ++ decimal f.size) (decimal f.size)

pub figure_signed : (z : ℤ) → figure_text (figure_of z) ≡ signed_decimal z
unfolding figure_text signed_decimal
figure_signed (pos n) = refl
figure_signed (negsuc n) = refl

-- ── heads ──

-- D stands for DAY, every other letter for itself
unfoldable pub head_text : ℕ → List ℕ
head_text h = cond (eqb h 68) (text "DAY") (h ∷ [])

-- ── fields: a space and a figure each ──

unfoldable pub field : Figure → List ℕ
field f = text " " ++ figure_text f

-- the first n of them
unfoldable pub fields : ℕ → List Figure → List ℕ
fields zero fs = []
fields (suc n) fs = fields n fs ++ field (get_or fs n (figure_of (pos 0)))

-- ── lines ──

abbrev pub plain : ℕ → Figure
plain n = figure_of (pos n)

abbrev pub worded : ℕ → ℕ → List Figure → Words
worded h n fs = record { head = h; count = n; figures = fs }

unfoldable pub words_of : Line → Words
words_of (Refusal i n) = worded 82 2 (plain i ∷ plain n ∷ plain 0 ∷ plain 0 ∷ plain 0 ∷ [])
words_of (Place p) = worded 88 1 (plain p ∷ plain 0 ∷ plain 0 ∷ plain 0 ∷ plain 0 ∷ [])
words_of (Day d) = worded 68 1 (plain d ∷ plain 0 ∷ plain 0 ∷ plain 0 ∷ plain 0 ∷ [])
words_of (Open n a s q m) = worded 80 5 (plain n ∷ plain a ∷ plain s ∷ figure_of (shares_of q) ∷ figure_of (mils_of m) ∷ [])
words_of (Charge a c m) = worded 67 3 (plain a ∷ plain c ∷ figure_of (mils_of m) ∷ plain 0 ∷ plain 0 ∷ [])
words_of (End n) = worded 69 1 (plain n ∷ plain 0 ∷ plain 0 ∷ plain 0 ∷ plain 0 ∷ [])

unfoldable pub words_text : Words → List ℕ
words_text w = head_text w.head ++ (fields w.count w.figures ++ text "\n")

-- fields one behind the other, and the newline
three : (a b c : List ℕ) → ((32 ∷ a) ++ (32 ∷ b) ++ (32 ∷ c)) ++ (10 ∷ []) ≡ 32 ∷ (a ++ (32 ∷ (b ++ (32 ∷ (c ++ (10 ∷ []))))))
three a b c = simp append_assoc

five : (a b c d e : List ℕ) → ((32 ∷ a) ++ (32 ∷ b) ++ (32 ∷ c) ++ (32 ∷ d) ++ (32 ∷ e)) ++ (10 ∷ [])
    ≡ 32 ∷ (a ++ (32 ∷ (b ++ (32 ∷ (c ++ (32 ∷ (d ++ (32 ∷ (e ++ (10 ∷ []))))))))))
five a b c d e = simp append_assoc

pub words_text_lem : (l : Line) → words_text (words_of l) ≡ text_of l
unfolding words_of words_text text_of head_text fields field spaced figure_text text
words_text_lem (Refusal i n) = simp append_assoc
words_text_lem (Place p) = refl
words_text_lem (Day d) = refl
words_text_lem (Open n a s q m) =
    rw (sym (figure_signed (shares_of q)), sym (figure_signed (mils_of m)))
    (ap (λ (ds : List ℕ). 80 ∷ ds) (five (decimal n) (decimal a) (decimal s) (figure_text (figure_of (shares_of q))) (figure_text (figure_of (mils_of m)))))
words_text_lem (Charge a c m) =
    rw (sym (figure_signed (mils_of m)))
    (ap (λ (ds : List ℕ). 67 ∷ ds) (three (decimal a) (decimal c) (figure_text (figure_of (mils_of m)))))
words_text_lem (End n) = refl
