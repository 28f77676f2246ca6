-- Two's complement: the 64 bits of a signed number, as an unsigned one, and back. Each undoes the other.
-- `mag x`, of the library, is n both for n and for −(n + 1): x has 64 bits exactly if it is below 2^63.
use Rattle.std.specs.Prelude.{◌≡◌, refl, Bool, true, false, cond, ℕ, suc, ◌-◌, ◌≤◌, ◌<◌, ◌^◌, ℤ, pos, negsuc, nat_abs, ltb}
use Rattle.std.proofs.Common.{ap, ◌∙◌, arith, lt-ltb, le-ltb, ltb-true, ltb-false}
use Rattle.std.specs.Int.Signed.{mag}
use Rattle.integers.specs.Signs.{is_negative, neg_yes, neg_no}

unfoldable pub bits_of : ℤ → ℕ
bits_of (pos n) = n
bits_of (negsuc n) = 2 ^ 64 - suc n

unfoldable pub value_of : ℕ → ℤ
value_of b = cond (ltb b (2 ^ 63)) (pos b) (negsuc (2 ^ 64 - suc b))

pub value_low : (b : ℕ) → b < 2 ^ 63 → value_of b ≡ pos b
unfolding value_of
value_low b h = rw (lt-ltb b (2 ^ 63) h)

pub value_high : (b : ℕ) → 2 ^ 63 ≤ b → value_of b ≡ negsuc (2 ^ 64 - suc b)
unfolding value_of
value_high b h = rw (le-ltb b (2 ^ 63) h)

-- ---- each undoes the other

pub bits_below : (x : ℤ) → mag x < 2 ^ 63 → bits_of x < 2 ^ 64
unfolding bits_of
bits_below (pos n) h = omega arith
bits_below (negsuc n) h = omega arith

pub value_bits : (x : ℤ) → mag x < 2 ^ 63 → value_of (bits_of x) ≡ x
unfolding bits_of
value_bits (pos n) h = value_low n h
value_bits (negsuc n) h = value_high (2 ^ 64 - suc n) (omega arith) ∙ ap negsuc (omega arith)

pub bits_value : (b : ℕ) → b < 2 ^ 64 → bits_of (value_of b) ≡ b
unfolding bits_of value_of
bits_value b h = go (ltb b (2 ^ 63)) refl
  where
    go : (t : Bool) → ltb b (2 ^ 63) ≡ t → bits_of (cond t (pos b) (negsuc (2 ^ 64 - suc b))) ≡ b
    go true u = refl
    go false u = omega (arith, ltb-false b (2 ^ 63) u)

pub value_fits : (b : ℕ) → b < 2 ^ 64 → mag (value_of b) < 2 ^ 63
unfolding value_of
value_fits b h = go (ltb b (2 ^ 63)) refl
  where
    go : (t : Bool) → ltb b (2 ^ 63) ≡ t → mag (cond t (pos b) (negsuc (2 ^ 64 - suc b))) < 2 ^ 63
    go true u = ltb-true b (2 ^ 63) u
    go false u = omega (arith, ltb-false b (2 ^ 63) u)

-- ---- by sign and size

pub neg_some : (x : ℤ) → is_negative x ≡ true → 0 < nat_abs x
neg_some (pos n) e = absurd (omega (arith, neg_yes (pos n) e))
neg_some (negsuc n) e = omega arith

pub bits_neg : (x : ℤ) → is_negative x ≡ true → mag x < 2 ^ 63 → 18446744073709551615 - (nat_abs x - 1) ≡ bits_of x
unfolding bits_of
bits_neg (pos n) e h = absurd (omega (arith, neg_yes (pos n) e))
bits_neg (negsuc n) e h = omega arith

pub bits_pos : (x : ℤ) → is_negative x ≡ false → nat_abs x ≡ bits_of x
unfolding bits_of
bits_pos (pos n) e = refl
bits_pos (negsuc n) e = absurd (omega (arith, neg_no (negsuc n) e))
