-- Small words for the laws: a case by the outcome of a test, and what a conjunction or a disjunction of tests, a choice, a test for zero or for equality says.
use Rattle.std.specs.Prelude.{◌≡◌, refl, Bool, true, false, cond, ◌&&◌, ◌||◌, ℕ, eqb, ℤ, pos, nat_abs}
use Rattle.std.proofs.Common.{sym, ◌∙◌, arith, eq-eqb, ne_eqb, eqb-true}
use Rattle.std.proofs.Math.Bool.{and-false}
use Rattle.std.proofs.lemmas.Bool.{eqb-false}
use Rattle.integers.specs.Sizes.{nat_abs_zero}
use Rattle.rules.specs.Book.{is_zero}

-- a test holds or fails, and not both
pub by_test : {P : Type 0} (b : Bool) → (b ≡ true → P) → (b ≡ false → P) → P
by_test true f g = f refl
by_test false f g = g refl

pub true_false : {P : Type 0} {b : Bool} → b ≡ true → b ≡ false → P
true_false e f = let y : ◌≡◌ {A = Bool} true false = cc in let z : ◌≡◌ {A = ℕ} 0 1 = cc in absurd (omega arith)

-- a conjunction holds exactly if both tests do
pub both_hold : (a b : Bool) → a && b ≡ true → (a ≡ true) × (b ≡ true)
both_hold true b e = (refl, e)
both_hold false b e = true_false e refl

pub and_hold : {a b : Bool} → a ≡ true → b ≡ true → a && b ≡ true
and_hold e f = rw (e, f)

-- two conjunctions, paired the other way; one test more in front of a conjunction
pub and_mix : (a b c d : Bool) → (a && b) && (c && d) ≡ (a && c) && (b && d)
and_mix true true c d = refl
and_mix true false c d = sym (and-false c)
and_mix false b c d = refl

pub and_step : (b p q r : Bool) → p ≡ q && r → b && p ≡ (b && q) && r
and_step true p q r e = e
and_step false p q r e = refl

-- a disjunction holds if one of the tests does, and fails exactly if both do
pub or_left : {a : Bool} (b : Bool) → a ≡ true → a || b ≡ true
or_left b e = rw e

pub or_right : (a : Bool) {b : Bool} → b ≡ true → a || b ≡ true
or_right true e = refl
or_right false e = e

pub neither : (a b : Bool) → a || b ≡ false → (a ≡ false) × (b ≡ false)
neither true b e = true_false refl e
neither false b e = (refl, e)

-- one test more in front of a disjunction
pub or_step : (b p q r : Bool) → p ≡ q || r → b || p ≡ (b || q) || r
or_step true p q r e = refl
or_step false p q r e = e

-- a choice by a test that was made
pub cond_yes : {A : Type 0} {b : Bool} (x y : A) → b ≡ true → cond b x y ≡ x
cond_yes x y e = rw e

pub cond_no : {A : Type 0} {b : Bool} (x y : A) → b ≡ false → cond b x y ≡ y
cond_no x y e = rw e

pub cond_none : (b : Bool) (m : ℕ) → m ≡ 0 → cond b m 0 ≡ 0
cond_none true m e = e
cond_none false m e = refl

-- the test for zero
pub is_zero_lem : (z : ℤ) → is_zero z ≡ true → z ≡ pos 0
unfolding is_zero
is_zero_lem z e = nat_abs_zero z (eqb-true (nat_abs z) 0 e)

pub zero_is : (z : ℤ) → z ≡ pos 0 → is_zero z ≡ true
unfolding is_zero
zero_is z e = rw e

-- two numbers are compared in either order
pub eqb_swap : (m n : ℕ) → eqb m n ≡ eqb n m
eqb_swap m n =
    by_test (eqb m n)
    (λ e. e ∙ sym (eq-eqb n m (sym (eqb-true m n e))))
    (λ e. e ∙ sym (ne_eqb n m (λ f. eqb-false m n e (sym f))))
