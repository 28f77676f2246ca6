-- Sums that are zero for each security say that the quantities are balanced; and a record that is not due by the day is due on day + 1, where no due day is beyond it.
use Rattle.std.specs.Prelude.{◌≡◌, refl, Bool, true, not, ◌&&◌, List, [], ◌∷◌, ℕ, ◌+◌, eqb, ltb}
use Rattle.std.proofs.Common.{sym, ap, ◌∙◌, arith, eq-eqb, ne_eqb, leb-true, leb-false, ltb-true}
use Rattle.units.specs.declared.Shares.{Shares}
use Rattle.rules.specs.Words.{all, keep}
use Rattle.rules.specs.Bounds.{securities, every_security}
use Rattle.rules.specs.Book.{due_of, is_zero, open_of}
use Rattle.rules.specs.Sound.{balanced, is_due, due_fits, due_balanced}
use Rattle.rules.specs.declared.Position.{Position}
use Rattle.rules.specs.declared.Book.{Book}
use Rattle.laws.specs.Cases.{by_test}
use Rattle.laws.specs.All.{all_cons, securities_below}
use Rattle.laws.specs.Keeping.{keep_none, keep_yes, keep_no}
use Rattle.sound_positions.specs.Summing.{sum_at, sum_of, Summed}

-- ── behind the pass ──

-- the sum of a security is zero
abbrev pub zero_at : List Shares → ℕ → Bool
zero_at sums s = is_zero (sum_at sums s)

zeros : (ps : List Position) (sums : List Shares) (l : List ℕ) → Summed ps sums → all (λ s. ltb s securities) l ≡ true
    → all (zero_at sums) l ≡ all (λ s. is_zero (sum_of s ps)) l
unfolding all
zeros ps sums [] h a = refl
zeros ps sums (s ∷ l) h a =
    let b = all_cons (λ s. ltb s securities) s l a in
    rw (h.sum s (ltb-true s securities b.0), zeros ps sums l h b.1)

pub balanced_sums : (ps : List Position) (sums : List Shares) → Summed ps sums → all (zero_at sums) every_security ≡ balanced ps
unfolding balanced
balanced_sums ps sums h = zeros ps sums every_security h securities_below

-- ── the two groups of due days ──

-- not due by the day
abbrev pub is_later : ℕ → Position → Bool
is_later day p = not (is_due day p)

later_is : (day : ℕ) (p : Position) → due_fits day p ≡ true → is_later day p ≡ eqb (due_of p) (day + 1)
unfolding is_due due_fits
later_is day p f =
    by_test (is_due day p)
    (λ e. ap not e ∙ sym (ne_eqb (due_of p) (day + 1) (λ g. omega (arith, leb-true (due_of p) day e))))
    (λ e. ap not e ∙ sym (eq-eqb (due_of p) (day + 1) (omega (arith, leb-false (due_of p) day e, leb-true (due_of p) (day + 1) f))))

keep_later : (day : ℕ) (ps : List Position) → all (due_fits day) ps ≡ true → keep (is_later day) ps ≡ keep (λ p. eqb (due_of p) (day + 1)) ps
keep_later day [] a = keep_none (is_later day) ∙ sym (keep_none (λ p. eqb (due_of p) (day + 1)))
keep_later day (p ∷ ps) a =
    let b = all_cons (due_fits day) p ps a in
    let t : Position → Bool = λ p. eqb (due_of p) (day + 1) in
    by_test (t p)
    (λ e. keep_yes (is_later day) p ps (later_is day p b.0 ∙ e) ∙ ap (λ (r : List Position). p ∷ r) (keep_later day ps b.1) ∙ sym (keep_yes t p ps e))
    (λ e. keep_no (is_later day) p ps (later_is day p b.0 ∙ e) ∙ keep_later day ps b.1 ∙ sym (keep_no t p ps e))

-- so the two tests of the code are the rule's
pub due_by : (k : Book) → all (due_fits k.day) (open_of k) ≡ true
    → balanced (keep (is_due k.day) (open_of k)) && balanced (keep (is_later k.day) (open_of k)) ≡ due_balanced k
unfolding due_balanced
due_by k a = ap (λ (ps : List Position). balanced (keep (is_due k.day) (open_of k)) && balanced ps) (keep_later k.day (open_of k) a)
