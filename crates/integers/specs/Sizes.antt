-- Sizes of integers: `nat_abs` of a sum, a difference, a product.
use Rattle.std.specs.Prelude.{◌≡◌, refl, suc, ◌+◌, ◌*◌, ◌≤◌, ℤ, pos, negsuc, neg_ℤ, nat_abs, ◌+ℤ◌, ◌-ℤ◌, ◌*ℤ◌}
use Rattle.std.proofs.Common.{arith}
use Rattle.integers.specs.Sides.{v, nat, neg, ◌⊕◌, ◌⊝◌, lin, sides, abs_le, abs_is}

pub nat_abs_neg : (x : ℤ) → nat_abs (neg_ℤ x) ≡ nat_abs x
nat_abs_neg x = omega (arith, abs_is (neg (v x)), abs_is (v x))

pub nat_abs_sum : (x y : ℤ) → nat_abs (x +ℤ y) ≤ nat_abs x + nat_abs y
nat_abs_sum x y = abs_le (v x ⊕ v y) (nat_abs x + nat_abs y) (omega (arith, sides x, sides y)) (omega (arith, sides x, sides y))

pub nat_abs_diff : (x y : ℤ) → nat_abs (x -ℤ y) ≤ nat_abs x + nat_abs y
nat_abs_diff x y = abs_le (v x ⊝ v y) (nat_abs x + nat_abs y) (omega (arith, sides x, sides y)) (omega (arith, sides x, sides y))

pub nat_abs_zero : (x : ℤ) → nat_abs x ≡ 0 → x ≡ pos 0
nat_abs_zero x h = lin (v x) (nat 0) (omega (arith, sides x))

pub nat_abs_mul : (x y : ℤ) → nat_abs (x *ℤ y) ≡ nat_abs x * nat_abs y
nat_abs_mul (pos a) (pos b) = refl
nat_abs_mul (pos a) (negsuc b) = nat_abs_neg (pos (a * suc b))
nat_abs_mul (negsuc a) (pos b) = nat_abs_neg (pos (suc a * b))
nat_abs_mul (negsuc a) (negsuc b) = refl
