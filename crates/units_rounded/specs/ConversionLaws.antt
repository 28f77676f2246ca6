-- How a conversion is computed: by the sum's size and the product of rate and haircut factor.
use Rattle.std.specs.Prelude.{◌≡◌, refl, true, false, ℕ, suc, ◌+◌, ◌*◌, ◌-◌, ◌≤◌, ℤ, pos, negsuc, nat_abs}
use Rattle.std.proofs.Common.{sym, ap, ◌∙◌, le_trans, mul-le-mul, mul_assoc, mul_comm, arith, lit≤}
use Rattle.integers.specs.Signs.{is_negative, neg_yes, neg_no}
use Rattle.exact.specs.Rounding.{round_down, round_up}
use Rattle.units.specs.Units.{top_rate, whole_haircut}
use Rattle.units_rounded.specs.Conversion.{favourable_of, unfavourable_of}

-- what conversion asks, as refusal 15 has it
pub record Terms (r h : ℕ) : Type 0 where
  pub rate : r ≤ top_rate
  pub haircut : h ≤ whole_haircut

-- the factor is small
pub factor_le : (g r : ℕ) → g ≤ 20000 → r ≤ top_rate → g * r ≤ 2000000000000
factor_le g r h j = le_trans (mul-le-mul h j) (lit≤ tt)

factors : (n g r : ℕ) → n * (g * r) ≡ n * r * g
factors n g r = ap (λ (x : ℕ). n * x) (mul_comm g r) ∙ sym (mul_assoc n r g)

-- ---- a favourable sum, and another

pub favourable_none : (sum : ℤ) (r h : ℕ) → is_negative sum ≡ true → favourable_of sum r h ≡ 0
unfolding favourable_of
favourable_none (pos n) r h e = absurd (omega (arith, neg_yes (pos n) e))
favourable_none (negsuc n) r h e = refl

pub favourable_is : (sum : ℤ) (r h : ℕ) → is_negative sum ≡ false → round_down (nat_abs sum * ((10000 - h) * r)) 10000000000 ≡ favourable_of sum r h
unfolding favourable_of
favourable_is (pos n) r h e = ap (λ (x : ℕ). round_down x 10000000000) (factors n (10000 - h) r)
favourable_is (negsuc n) r h e = absurd (omega (arith, neg_no (negsuc n) e))

-- ---- an unfavourable sum, and another

pub unfavourable_none : (sum : ℤ) (r h : ℕ) → is_negative sum ≡ false → unfavourable_of sum r h ≡ 0
unfolding unfavourable_of
unfavourable_none (pos n) r h e = refl
unfavourable_none (negsuc n) r h e = absurd (omega (arith, neg_no (negsuc n) e))

pub unfavourable_is : (sum : ℤ) (r h : ℕ) → is_negative sum ≡ true → round_up (nat_abs sum * ((10000 + h) * r)) 10000000000 ≡ unfavourable_of sum r h
unfolding unfavourable_of
unfavourable_is (pos n) r h e = absurd (omega (arith, neg_yes (pos n) e))
unfavourable_is (negsuc n) r h e = ap (λ (x : ℕ). round_up x 10000000000) (factors (suc n) (10000 + h) r)
