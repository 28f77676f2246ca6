-- How much is moved: the smaller of what can be given and what is wanted. A book whose due quantities total zero wants at least what can be given,
-- so refusal 13 is never given, and all that can be given is.
use Rattle.std.specs.Prelude.{◌≡◌, refl, Bool, true, false, List, [], ◌∷◌, ◌++◌, map, ℕ, zero, suc, ◌+◌, ◌-◌, min, ◌≤◌, ◌<◌, get_or, set, ℤ, pos, negsuc, ◌-ℤ◌}
use Rattle.std.proofs.Common.{sym, ap, ◌∙◌, arith, eqb-true, ltb-false, le-ltb}
use Rattle.std.proofs.Math.Decide.{ℕ_discrete}
use Rattle.std.proofs.Math.Dec.{eqb}
use Rattle.integers.specs.Linear.{zlin}
use Rattle.integers.specs.Sums.{sum_by}
use Rattle.rules.specs.Words.{all, keep, total, from, above}
use Rattle.rules.specs.Bounds.{every_security}
use Rattle.rules.specs.Book.{quantity_of, account_of, security_of, open_of, is_zero, holding_at}
use Rattle.rules.specs.Sound.{is_due, balanced}
use Rattle.rules.specs.Run.{Side, side, Meeting, Filled, short_of, long_of, due_in, givers_of, givers, receivers, deliverable, wanted, leaving, filled, meetings_of, meetings, shares_moved}
use Rattle.rules.specs.declared.Position.{Position}
use Rattle.rules.specs.declared.Book.{Book}
use Rattle.laws.specs.Cases.{by_test, both_hold, is_zero_lem}
use Rattle.laws.specs.Keeping.{keep_yes, keep_no, keep_none, keep_both, keep_swap}
use Rattle.laws.specs.Merging.{leaving_none, leaving_some}
use Rattle.laws.specs.Spare.{some}

-- the shares of sides, and of meetings, added up
abbrev pub held : List Side → ℕ
held l = total (λ (x : Side). x.shares) l

abbrev pub exchanged : List Meeting → ℕ
exchanged ms = total (λ (m : Meeting). m.shares) ms

-- ── the shares of the meetings ──

pub leaving_total : (g : Side) (k : ℕ) (l : List Side) → k ≤ g.shares → held (leaving g k l) + k ≡ g.shares + held l
unfolding total
leaving_total g k l h = go (ℕ_discrete g.shares k)
  where
    go : Dec (g.shares ≡ k) → held (leaving g k l) + k ≡ g.shares + held l
    go (yes e) = omega (arith, ap held (leaving_none g k l e))
    go (no e) = omega (arith, ap held (leaving_some g k l (omega arith)))

-- one receiver, who wants w, is given that or all there is; the rest is left
filled_total : (r : Side) (w : ℕ) (gs : List Side)
    → (exchanged (filled r w gs).meetings ≡ min w (held gs)) × (held (filled r w gs).left + exchanged (filled r w gs).meetings ≡ held gs)
unfolding filled total
filled_total r w [] = (omega arith, omega arith)
filled_total r w (g ∷ gs) =
    let k : ℕ = min g.shares w in
    let ih = filled_total r (w - k) gs in
    by_test (eqb w 0)
    (λ e. let z : w ≡ 0 = eqb-true w 0 e in rw e (omega arith, omega arith))
    (λ e. let z = leaving_total g k (filled r (w - k) gs).left (omega arith) in rw e (omega (arith, ih.0), omega (arith, ih.1)))

exchanged_append : (l m : List Meeting) → exchanged (l ++ m) ≡ exchanged l + exchanged m
unfolding total
exchanged_append [] m = omega arith
exchanged_append (x ∷ l) m = omega (arith, exchanged_append l m)

pub meetings_total : (rs gs : List Side) → exchanged (meetings_of rs gs) ≡ min (held rs) (held gs)
unfolding meetings_of total
meetings_total [] gs = omega arith
meetings_total (r ∷ rs) gs =
    let f : Filled = filled r r.shares gs in
    let e = filled_total r r.shares gs in
    omega (arith, exchanged_append f.meetings (meetings_of rs f.left), meetings_total rs f.left, e.0, e.1)

pub moved_is : (b : Book) (s : ℕ) → shares_moved b s ≡ min (wanted b s) (deliverable b s)
unfolding shares_moved meetings wanted deliverable
moved_is b s = meetings_total (receivers b s) (givers b s)

-- ── what can be given is owed ──

abbrev short : List Position → ℕ
short ps = total (λ (p : Position). short_of (quantity_of p)) ps

abbrev long : List Position → ℕ
long ps = total (λ (p : Position). long_of (quantity_of p)) ps

givers_most : (s : ℕ) (ps : List Position) (hs : List ℕ) → held (givers_of s ps hs) ≤ short ps
unfolding givers_of total
givers_most s [] hs = omega arith
givers_most s (p ∷ ps) hs =
    let at : ℕ = holding_at (account_of p) s in
    let k : ℕ = min (short_of (quantity_of p)) (get_or hs at 0) in
    let i = givers_most s ps hs in
    let j = givers_most s ps (set hs at (get_or hs at 0 - k)) in
    by_test (eqb k 0) (λ e. rw e (omega arith)) (λ e. rw e (omega arith))

receivers_all : (ps : List Position) → held (keep some (map (λ p. side p (long_of (quantity_of p))) ps)) ≡ long ps
unfolding total
receivers_all [] = ap held (keep_none some)
receivers_all (p ∷ ps) =
    let f : Position → Side = λ p. side p (long_of (quantity_of p)) in
    let ih = receivers_all ps in
    by_test (some (f p))
    (λ e. ap held (keep_yes some (f p) (map f ps) e) ∙ omega arith)
    (λ e. ap held (keep_no some (f p) (map f ps) e) ∙ omega (arith, ltb-false 0 (long_of (quantity_of p)) e))

-- ── what is owed is wanted, where quantities total zero ──

sides_of : (q : ℤ) → q ≡ pos (long_of q) -ℤ pos (short_of q)
unfolding long_of short_of
sides_of (pos n) = simp zlin (omega arith)
sides_of (negsuc n) = simp zlin (omega arith)

sum_sides : (ps : List Position) → sum_by quantity_of ps ≡ pos (long ps) -ℤ pos (short ps)
unfolding total
sum_sides [] = refl
sum_sides (p ∷ ps) =
    let e = sides_of (quantity_of p) in
    let f = sum_sides ps in
    simp zlin (omega (arith, simp zlin at e, simp zlin at f))

zero_sides : (m n : ℕ) → pos m -ℤ pos n ≡ pos 0 → m ≡ n
zero_sides m n e = omega (arith, simp zlin at e)

pub all_from : (t : ℕ → Bool) (i n j : ℕ) → all t (from i n) ≡ true → i ≤ j → j < i + n → t j ≡ true
unfolding all from
all_from t i zero j a l h = absurd (omega arith)
all_from t i (suc n) j a l h =
    let q = both_hold (t i) (all t (from (suc i) n)) a in
    go q.0 (λ m. all_from t (suc i) n j q.1 m (omega arith)) (ℕ_discrete i j)
  where
    go : t i ≡ true → (i < j → t j ≡ true) → Dec (i ≡ j) → t j ≡ true
    go y rest (yes e) = ap t (sym e) ∙ y
    go y rest (no e) = rest (omega arith)

module _ (b : Book) (s : ℕ) (hs : s < 32) (zero_sum : balanced (keep (is_due b.day) (open_of b)) ≡ true) where
  due_sum : is_zero (sum_by quantity_of (keep (λ p. eqb (security_of p) s) (keep (is_due b.day) (open_of b)))) ≡ true
  unfolding balanced every_security
  due_sum = all_from (λ s. is_zero (sum_by quantity_of (keep (λ p. eqb (security_of p) s) (keep (is_due b.day) (open_of b))))) 0 32 s zero_sum (omega arith) (omega arith)

  due_is : keep (λ p. eqb (security_of p) s) (keep (is_due b.day) (open_of b)) ≡ due_in b s
  unfolding due_in
  due_is =
      keep_swap (λ p. eqb (security_of p) s) (is_due b.day) (open_of b) ∙ keep_both (is_due b.day) (λ p. eqb (security_of p) s) (open_of b)

  owed_is_wanted : long (due_in b s) ≡ short (due_in b s)
  owed_is_wanted =
      zero_sides (long (due_in b s)) (short (due_in b s))
      (sym (sum_sides (due_in b s)) ∙ ap (sum_by quantity_of) (sym due_is) ∙ is_zero_lem (sum_by quantity_of (keep (λ p. eqb (security_of p) s) (keep (is_due b.day) (open_of b)))) due_sum)

  -- refusal 13, deliverable shares exceed the receivers' total, is never given
  pub never_13 : deliverable b s ≤ wanted b s
  unfolding deliverable wanted givers receivers
  never_13 = omega (arith, givers_most s (due_in b s) b.holdings, receivers_all (due_in b s), owed_is_wanted)

  -- all that can be given is given
  pub all_given : shares_moved b s ≡ deliverable b s
  all_given = omega (arith, moved_is b s, never_13)

  pub test_13 : above (wanted b s) (deliverable b s) ≡ false
  test_13 = le-ltb (wanted b s) (deliverable b s) never_13
