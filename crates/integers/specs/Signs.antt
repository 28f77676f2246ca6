-- Signs: an integer is its sign and its size; what a test of the sign tells; toward zero by k units.
use Rattle.std.specs.Prelude.{◌≡◌, refl, Bool, true, false, not, ℕ, zero, suc, ◌-◌, ◌≤◌, ◌<◌, T, ℤ, pos, negsuc, neg_ℤ, nat_abs, ◌+ℤ◌, ◌-ℤ◌}
use Rattle.std.proofs.Common.{ap, ◌∙◌, subst, arith}
use Rattle.integers.specs.Sides.{up, dn}
use Rattle.integers.specs.Linear.{zlin}
use Rattle.integers.specs.Sizes.{nat_abs_neg}

-- ---- the sign
abbrev pub is_negative : ℤ → Bool
is_negative (pos n) = false
is_negative (negsuc n) = true

-- rules for omega, of a test that was made
pub neg_yes : (x : ℤ) → is_negative x ≡ true → up x < dn x
neg_yes (pos n) e = absurd (subst (λ (b : Bool). T (not b)) e tt)
neg_yes (negsuc n) e = omega arith

pub neg_no : (x : ℤ) → is_negative x ≡ false → dn x ≤ up x
neg_no (pos n) e = omega arith
neg_no (negsuc n) e = absurd (subst T e tt)

-- the integer with a sign and a size
abbrev pub signed : Bool → ℕ → ℤ
signed true n = neg_ℤ (pos n)
signed false n = pos n

pub nat_abs_signed : (b : Bool) (n : ℕ) → nat_abs (signed b n) ≡ n
nat_abs_signed true n = nat_abs_neg (pos n)
nat_abs_signed false n = refl

pub signed_abs : (x : ℤ) → signed (is_negative x) (nat_abs x) ≡ x
signed_abs (pos a) = refl
signed_abs (negsuc a) = refl

pub signed_zero : (b : Bool) → signed b 0 ≡ pos 0
signed_zero true = refl
signed_zero false = refl

pub signed_diff : (b : Bool) (n k : ℕ) → k ≤ n → signed b (n - k) ≡ signed b n -ℤ signed b k
signed_diff true n k h = simp zlin (omega arith)
signed_diff false n k h = simp zlin (omega arith)

pub signed_not : (b : Bool) (n : ℕ) → signed (not b) n ≡ neg_ℤ (signed b n)
signed_not true n = simp zlin (omega arith)
signed_not false n = refl

-- the sign of what is not 0
pub is_negative_signed : (b : Bool) (n : ℕ) → 0 < n → is_negative (signed b n) ≡ b
is_negative_signed true zero h = absurd (omega arith)
is_negative_signed true (suc n) h = refl
is_negative_signed false n h = refl

-- ---- toward 0 by k units
abbrev pub toward_zero : ℤ → ℕ → ℤ
toward_zero x k = signed (is_negative x) (nat_abs x - k)

pub toward_zero_size : (x : ℤ) (k : ℕ) → nat_abs (toward_zero x k) ≡ nat_abs x - k
toward_zero_size x k = nat_abs_signed (is_negative x) (nat_abs x - k)

pub toward_zero_all : (x : ℤ) (k : ℕ) → nat_abs x ≤ k → toward_zero x k ≡ pos 0
toward_zero_all x k h = let e : nat_abs x - k ≡ 0 = omega arith in rw e (signed_zero (is_negative x))

pub toward_zero_diff : (x : ℤ) (k : ℕ) → k ≤ nat_abs x → toward_zero x k ≡ x -ℤ signed (is_negative x) k
toward_zero_diff x k h = signed_diff (is_negative x) (nat_abs x) k h ∙ ap (λ (z : ℤ). z -ℤ signed (is_negative x) k) (signed_abs x)

pub toward_zero_sign : (x : ℤ) (k : ℕ) → k < nat_abs x → is_negative (toward_zero x k) ≡ is_negative x
toward_zero_sign x k h = is_negative_signed (is_negative x) (nat_abs x - k) (omega arith)

-- two integers of opposite signs, each taken toward 0 by k: their sum stays
pub toward_zero_pair : (x y : ℤ) (k : ℕ) → is_negative y ≡ not (is_negative x) → k ≤ nat_abs x → k ≤ nat_abs y → toward_zero x k +ℤ toward_zero y k ≡ x +ℤ y
toward_zero_pair x y k o h j =
    let e = toward_zero_diff x k h in
    let f = toward_zero_diff y k j in
    let g : signed (is_negative y) k ≡ neg_ℤ (signed (is_negative x) k) = ap (λ (b : Bool). signed b k) o ∙ signed_not (is_negative x) k in
    simp zlin (omega (arith, simp zlin at e, simp zlin at f, simp zlin at g))
