-- Records that ascend, one more at a time.
use Rattle.std.specs.Prelude.{◌≡◌, refl, true, false, List, [], ◌∷◌, ℕ, zero, suc, ◌+◌, ◌<◌, ◌≤◌, ltb, length, get_or, take}
use Rattle.std.proofs.Common.{sym, add-one, le_of_suc-le-suc, arith, lt-ltb, le-ltb}
use Rattle.std.proofs.Math.Bool.{and-false}
use Rattle.rules.specs.Book.{no_position}
use Rattle.rules.specs.Sound.{ascends, ascends_from}
use Rattle.rules.specs.declared.Position.{Position}
use Rattle.laws.specs.Cases.{both_hold, and_hold}

abbrev pub number_at : List Position → ℕ → ℕ
number_at l i = (get_or l i no_position).number

-- at most one record ascends
pub ascends_few : (n : ℕ) (l : List Position) → n ≤ 1 → ascends (take n l) ≡ true
unfolding ascends ascends_from
ascends_few zero l h = refl
ascends_few (suc zero) [] h = refl
ascends_few (suc zero) (p ∷ l) h = refl
ascends_few (suc (suc n)) l h = absurd (omega arith)

more : (l : List Position) (i : ℕ) → suc i < length l → ascends (take (suc i) l) ≡ true
    → number_at l i < number_at l (suc i) → ascends (take (suc (suc i)) l) ≡ true
unfolding ascends ascends_from
more [] i h a e = absurd (omega arith)
more (p ∷ []) i h a e = absurd (omega arith)
more (p ∷ q ∷ l) zero h a e = and_hold (lt-ltb p.number q.number e) refl
more (p ∷ q ∷ l) (suc i) h a e =
    let b = both_hold (ltb p.number q.number) (ascends (take (suc i) (q ∷ l))) a in
    and_hold b.0 (more (q ∷ l) i (le_of_suc-le-suc h) b.1 e)

fails : (l : List Position) (n i : ℕ) → n ≤ length l → suc i < n → number_at l (suc i) ≤ number_at l i
    → false ≡ ascends (take n l)
unfolding ascends ascends_from
fails l zero i w h e = absurd (omega arith)
fails l (suc zero) i w h e = absurd (omega arith)
fails [] (suc (suc n)) i w h e = absurd (omega arith)
fails (p ∷ []) (suc (suc n)) i w h e = absurd (omega arith)
fails (p ∷ q ∷ l) (suc (suc n)) zero w h e = rw (le-ltb p.number q.number e)
fails (p ∷ q ∷ l) (suc (suc n)) (suc i) w h e =
    rw (← fails (q ∷ l) (suc n) i (le_of_suc-le-suc w) (le_of_suc-le-suc h) e) (sym (and-false (ltb p.number q.number)))

-- ── the loop ──

-- the least number that the record at i may have
unfoldable pub least_at : List Position → ℕ → ℕ
least_at l zero = 0
least_at l (suc i) = number_at l i + 1

pub least_first : (l : List Position) → 0 ≡ least_at l 0
unfolding least_at
least_first l = refl

pub least_next : (l : List Position) (i : ℕ) → number_at l i + 1 ≡ least_at l (i + 1)
unfolding least_at
least_next l i = rw (add-one i)

pub ascends_more : (l : List Position) (i : ℕ) → i < length l → ascends (take i l) ≡ true → least_at l i ≤ number_at l i
    → ascends (take (i + 1) l) ≡ true
unfolding least_at
ascends_more l zero h a e = ascends_few 1 l (omega arith)
ascends_more l (suc i) h a e = rw add-one (more l i h a (omega arith))

pub ascends_fails : (l : List Position) (n i : ℕ) → n ≤ length l → i < n → number_at l i < least_at l i → false ≡ ascends (take n l)
unfolding least_at
ascends_fails l n zero w h e = absurd (omega arith)
ascends_fails l n (suc i) w h e = fails l n i w h (omega arith)
