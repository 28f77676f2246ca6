-- A quotient rounded down or up, said once for any divisor, and the same up to the limit.
use Rattle.std.specs.Prelude.{◌≡◌, refl, cond, Option, Some, None, ℕ, zero, suc, ◌+◌, ◌*◌, ◌-◌, ◌/◌, ◌%◌, ◌≤◌, ◌<◌, leb}
use Rattle.std.proofs.Common.{sym, ap, ◌∙◌, div-add-mod', mod-lt, le_trans, lt_of_lt_of_le, div-mul-le_self, le-div_iff_mul-le, arith, le-leb}
use Rattle.std.proofs.Math.Arith.{digits_div}
use Rattle.std.proofs.lemmas.Bool.{lt-leb}
use Rattle.exact.specs.MulDiv.{limit, mul_div, big_is, done_is}

abbrev pub round_down : ℕ → ℕ → ℕ
round_down n d = n / d

abbrev pub round_up : ℕ → ℕ → ℕ
round_up n d = (n + (d - 1)) / d

-- a number up to the limit, or that it is past it
unfoldable pub capped : ℕ → Option ℕ
capped n = cond (leb n limit) (Some n) None

pub capped_whole : (n : ℕ) → n ≤ limit → capped n ≡ Some n
unfolding capped
capped_whole n h = rw (le-leb n limit h)

pub capped_past : (n : ℕ) → limit < n → capped n ≡ None
unfolding capped
capped_past n h = rw (lt-leb n limit h)

-- a quotient rounded up, by its remainder
module _ (n d : ℕ) (p : 0 < d) where
  pub up_exact : n % d ≡ 0 → round_up n d ≡ n / d
  up_exact h = ap (λ (x : ℕ). x / d) eq ∙ digits_div (n / d) {m = d} {r = d - 1} (omega arith)
    where
      eq : n + (d - 1) ≡ n / d * d + (d - 1)
      eq = omega (arith, div-add-mod' n d)

  pub up_more : 0 < n % d → round_up n d ≡ n / d + 1
  up_more h = ap (λ (x : ℕ). x / d) eq ∙ digits_div (n / d + 1) {m = d} {r = n % d - 1} (omega (arith, mod-lt n p))
    where
      eq : n + (d - 1) ≡ (n / d + 1) * d + (n % d - 1)
      eq = omega (arith, div-add-mod' n d)

  pub up_least : n / d ≤ round_up n d
  up_least = div_mono (omega arith)
    where
      div_mono : {a b : ℕ} → a ≤ b → a / d ≤ b / d
      div_mono {a} {b} k = (le-div_iff_mul-le p).1 (le_trans (div-mul-le_self a d) k)

-- one more where the remainder is not 0
abbrev pub raised : ℕ → ℕ → ℕ
raised q zero = q
raised q (suc r) = q + 1

pub raised_is : (n d : ℕ) → 0 < d → (q r : ℕ) → q ≡ n / d → r ≡ n % d → raised q r ≡ round_up n d
raised_is n d p q zero e f = e ∙ sym (up_exact n d p (sym f))
raised_is n d p q (suc r) e f = ap (λ (x : ℕ). x + 1) e ∙ sym (up_more n d p (omega arith))

pub raised_more : (q r : ℕ) → 0 < r → raised q r ≡ q + 1
raised_more q zero h = absurd (omega arith)
raised_more q (suc r) h = refl

-- ---- from the quotient and the remainder of a product
pub down_past : (a b d : ℕ) → None ≡ mul_div a b d → None ≡ capped (round_down (a * b) d)
down_past a b d e = sym (capped_past (a * b / d) (big_is a b d e))

pub down_whole : (a b d q r : ℕ) → Some (q, r) ≡ mul_div a b d → Some q ≡ capped (round_down (a * b) d)
down_whole a b d q r e =
    let k = done_is a b d q r e in
    rw (← k.quotient) (sym (capped_whole q k.within))

pub up_past : (a b d : ℕ) → 0 < d → None ≡ mul_div a b d → None ≡ capped (round_up (a * b) d)
up_past a b d p e = sym (capped_past (round_up (a * b) d) (lt_of_lt_of_le (big_is a b d e) (up_least (a * b) d p)))

pub up_whole : (a b d q r : ℕ) → 0 < d → Some (q, r) ≡ mul_div a b d → capped (raised q r) ≡ capped (round_up (a * b) d)
up_whole a b d q r p e =
    let k = done_is a b d q r e in
    ap capped (raised_is (a * b) d p q r k.quotient k.rest)
