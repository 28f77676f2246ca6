-- The two outcomes of a line: it is written and the tally moves on, or it is refused by 18 and nothing is altered.
use Rattle.std.specs.Prelude.{◌≡◌, Bool, true, false, ◌&&◌, List, [], ◌++◌, ℕ, ◌+◌, ◌≤◌, leb, length, drop, take}
use Rattle.std.proofs.Common.{sym, ap, ◌∙◌, zero-add, arith, length-append, le-leb, leb-true, eq-eqb, ne_eqb}
use Rattle.std.proofs.Math.Logic.{dite}
use Rattle.std.proofs.Math.Decide.{ℕ_discrete}
use Rattle.std.proofs.Math.Seq.{take-append_seam}
use Rattle.fields.specs.Field.{stored}
use Rattle.fields.specs.FieldLaws.{stored_eq}
use Rattle.rules.specs.Bounds.{most_tally}
use Rattle.rules.specs.Sheet.{text_of, line_answer, line_part, line_bytes, line_tally}
use Rattle.rules.specs.declared.Line.{Line}
use Rattle.rules.specs.declared.Tally.{Tally}
use Rattle.laws.specs.Cases.{cond_yes, cond_no, both_hold, and_hold, by_test}

-- a line of so many bytes fits, and neither lines nor bytes pass 1,000,000
unfoldable pub passes : ℕ → ℕ → Tally → Bool
passes room size t = leb size room && (leb (t.lines + 1) most_tally && leb (t.bytes + size) most_tally)

-- the tally moved on by one line of so many bytes
abbrev pub moved : ℕ → Tally → Tally
moved size t = record { lines = t.lines + 1; bytes = t.bytes + size }

pub passes_by : (room size : ℕ) (t : Tally) → size ≤ room → t.lines + 1 ≤ most_tally → t.bytes + size ≤ most_tally → passes room size t ≡ true
unfolding passes
passes_by room size t h k m = and_hold (le-leb size room h) (and_hold (le-leb (t.lines + 1) most_tally k) (le-leb (t.bytes + size) most_tally m))

-- so the tally stays within 1,000,000
pub passes_below : (room size : ℕ) (t : Tally) → passes room size t ≡ true → (t.lines + 1 ≤ most_tally) × (t.bytes + size ≤ most_tally)
unfolding passes
passes_below room size t e =
    let behind = (both_hold (leb size room) (leb (t.lines + 1) most_tally && leb (t.bytes + size) most_tally) e).1 in
    let both = both_hold (leb (t.lines + 1) most_tally) (leb (t.bytes + size) most_tally) behind in
    (leb-true (t.lines + 1) most_tally both.0, leb-true (t.bytes + size) most_tally both.1)

-- ── the answer ──

pub answer_yes : (room : ℕ) (l : Line) (t : Tally) → passes room (length (text_of l)) t ≡ true → line_answer room l t ≡ 0
unfolding passes line_answer
answer_yes room l t e = cond_yes 0 18 e

pub answer_no : (room : ℕ) (l : Line) (t : Tally) → passes room (length (text_of l)) t ≡ false → line_answer room l t ≡ 18
unfolding passes line_answer
answer_no room l t e = cond_no 0 18 e

-- what is not refused fits
pub answer_fits : (room : ℕ) (l : Line) (t : Tally) → line_answer room l t ≡ 0 → length (text_of l) ≤ room
unfolding passes
answer_fits room l t e =
    let size = length (text_of l) in
    by_test (passes room size t)
    (λ y. leb-true size room (both_hold (leb size room) (leb (t.lines + 1) most_tally && leb (t.bytes + size) most_tally) y).0)
    (λ n. absurd (omega (arith, answer_no room l t n)))

-- ── the tally ──

pub tally_yes : (room : ℕ) (l : Line) (t : Tally) → line_answer room l t ≡ 0 → line_tally room l t ≡ moved (length (text_of l)) t
unfolding line_tally
tally_yes room l t e = cond_yes (moved (length (text_of l)) t) t (eq-eqb (line_answer room l t) 0 e)

pub tally_no : (room : ℕ) (l : Line) (t : Tally) → (line_answer room l t ≡ 0 → ⊥) → line_tally room l t ≡ t
unfolding line_tally
tally_no room l t e = cond_no (moved (length (text_of l)) t) t (ne_eqb (line_answer room l t) 0 e)

-- ── the bytes ──

pub part_yes : (b : List ℕ) (l : Line) (t : Tally) → line_answer (length b) l t ≡ 0 → line_part b l t ≡ text_of l
unfolding line_part
part_yes b l t e = cond_yes (text_of l) [] (eq-eqb (line_answer (length b) l t) 0 e)

pub part_no : (b : List ℕ) (l : Line) (t : Tally) → (line_answer (length b) l t ≡ 0 → ⊥) → line_part b l t ≡ []
unfolding line_part
part_no b l t e = cond_no (text_of l) [] (ne_eqb (line_answer (length b) l t) 0 e)

abbrev fronted : List ℕ → List ℕ → List ℕ
fronted b part = part ++ drop (length part) b

pub bytes_yes : (b : List ℕ) (l : Line) (t : Tally) → line_answer (length b) l t ≡ 0 → stored b 0 (text_of l) ≡ line_bytes b l t
unfolding line_bytes
bytes_yes b l t e =
    stored_eq b 0 (text_of l) (rw zero-add (answer_fits (length b) l t e))
    ∙ ap (λ (n : ℕ). text_of l ++ drop n b) (zero-add (length (text_of l)))
    ∙ ap (fronted b) (sym (part_yes b l t e))

pub bytes_no : (b : List ℕ) (l : Line) (t : Tally) → (line_answer (length b) l t ≡ 0 → ⊥) → b ≡ line_bytes b l t
unfolding line_bytes
bytes_no b l t e = ap (fronted b) (sym (part_no b l t e))

-- ── the part ──

-- the tally's bytes are moved on by those of the part
pub tally_part : (b : List ℕ) (l : Line) (t : Tally) → (line_tally (length b) l t).bytes ≡ t.bytes + length (line_part b l t)
tally_part b l t =
    dite (ℕ_discrete (line_answer (length b) l t) 0)
    (λ y. omega (arith, ap (λ (s : Tally). s.bytes) (tally_yes (length b) l t y), ap length (part_yes b l t y)))
    (λ n. omega (arith, ap (λ (s : Tally). s.bytes) (tally_no (length b) l t n), ap length (part_no b l t n)))

-- so many bytes at the front are the part
pub part_front : (b : List ℕ) (l : Line) (t : Tally) (m : List ℕ) (n : ℕ)
    → m ≡ line_bytes b l t → n ≡ length (line_part b l t) → take n m ≡ line_part b l t
unfolding line_bytes
part_front b l t m n e f = rw (e, f) (take-append_seam (line_part b l t) (drop (length (line_part b l t)) b))

pub part_within : (b : List ℕ) (l : Line) (t : Tally) (m : List ℕ) (n : ℕ)
    → m ≡ line_bytes b l t → n ≡ length (line_part b l t) → n ≤ length m
unfolding line_bytes
part_within b l t m n e f = rw (e, f, length-append) (omega arith)
