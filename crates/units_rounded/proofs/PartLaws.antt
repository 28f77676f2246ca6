-- Laws of the part, which everything above uses in the place of its text: the part for all shares is the whole money; a part
-- has the money's sign and at most its size; what stays and what goes add up, in size too.
use Rattle.std.specs.Prelude.{◌≡◌, refl, ℕ, zero, suc, ◌+◌, ◌*◌, ◌-◌, ◌/◌, ◌%◌, ◌≤◌, ◌<◌, ℤ, pos, negsuc, neg_ℤ, nat_abs, ◌+ℤ◌, ◌-ℤ◌}
use Rattle.std.proofs.Common.{sym, ap, ◌∙◌, mul-div_cancel, div-mul-le_self, mul-le-mul_left, mul-le-mul, mul_comm, div-add-mod', mod-lt, le_trans, arith, lit≤}
use Rattle.std.proofs.Math.Nat.{zero-div, div-le_of_le-mul, mul-add-div_right}
use Rattle.std.specs.Int.Signed.{quot_z}
use Rattle.integers.specs.Linear.{zlin}
use Rattle.integers.specs.Signs.{is_negative, signed, nat_abs_signed, signed_abs, signed_diff}
use Rattle.units_rounded.specs.Part.{part_of}
use Rattle.units_rounded.specs.PartLaws.{PortionAsks}

-- ---- by sign and size: the only laws that look into the definition

quot_neg : (n d : ℕ) → quot_z (neg_ℤ (pos n)) (pos d) ≡ neg_ℤ (pos (n / d))
quot_neg zero d = rw zero-div
quot_neg (suc n) d = refl

pub part_signed : (m q : ℤ) (k : ℕ) → part_of m q k ≡ signed (is_negative m) (nat_abs m * k / nat_abs q)
unfolding part_of
part_signed (pos a) q k = refl
part_signed (negsuc a) q k = quot_neg (suc a * k) (nat_abs q)

pub part_size : (m q : ℤ) (k : ℕ) → nat_abs (part_of m q k) ≡ nat_abs m * k / nat_abs q
part_size m q k = ap nat_abs (part_signed m q k) ∙ nat_abs_signed (is_negative m) (nat_abs m * k / nat_abs q)

-- ---- what callers use

-- the part for all shares carries the money exactly
pub part_all : (m q : ℤ) → 0 < nat_abs q → part_of m q (nat_abs q) ≡ m
part_all m q h = part_signed m q (nat_abs q) ∙ ap (signed (is_negative m)) (mul-div_cancel (nat_abs m) h) ∙ signed_abs m

-- a part has the sign of the money that it comes from
pub part_sign : (m q : ℤ) (k : ℕ) → part_of m q k ≡ signed (is_negative m) (nat_abs (part_of m q k))
part_sign m q k = part_signed m q k ∙ ap (signed (is_negative m)) (sym (part_size m q k))

-- and at most its size
pub part_le : (m q : ℤ) (k : ℕ) → k ≤ nat_abs q → nat_abs (part_of m q k) ≤ nat_abs m
part_le m q k h = rw part_size (div-le_of_le-mul (nat_abs q) (rw (mul_comm (nat_abs q) (nat_abs m)) (mul-le-mul_left (nat_abs m) h)))

-- what stays and what goes add up
pub part_split : (m q : ℤ) (k : ℕ) → (m -ℤ part_of m q k) +ℤ part_of m q k ≡ m
part_split m q k = simp zlin (omega arith)

-- and their sizes add up: no money appears on either side of zero
pub part_rest : (m q : ℤ) (k : ℕ) → k ≤ nat_abs q → nat_abs (m -ℤ part_of m q k) + nat_abs (part_of m q k) ≡ nat_abs m
part_rest m q k h =
    let n = nat_abs (part_of m q k) in
    let le : n ≤ nat_abs m = part_le m q k h in
    let rest : m -ℤ part_of m q k ≡ signed (is_negative m) (nat_abs m - n) =
    (ap (λ (x : ℤ). m -ℤ x) (part_sign m q k) ∙ ap (λ (x : ℤ). x -ℤ signed (is_negative m) n) (sym (signed_abs m)) ∙ sym (signed_diff (is_negative m) (nat_abs m) n le)) in
    omega (arith, ap nat_abs rest ∙ nat_abs_signed (is_negative m) (nat_abs m - n))

-- ---- how it is computed in 64 bits

pub portion_is : (n d k : ℕ) → 0 < d → n / d * k + n % d * k / d ≡ n * k / d
portion_is n d k h =
    sym (mul-add-div_right h (n / d * k) (n % d * k))
    ∙ ap (λ (x : ℕ). x / d) (omega (arith, ap (λ (x : ℕ). x * k) (div-add-mod' n d)))

module _ (n d k : ℕ) (h : PortionAsks n d k) where
  pub portion_le : n * k / d ≤ n
  portion_le = div-le_of_le-mul d (rw (mul_comm d n) (mul-le-mul_left n h.within))

  pub quotient_le : n / d * k ≤ n
  quotient_le = le_trans (mul-le-mul_left (n / d) h.within) (div-mul-le_self n d)

  pub rest_le : n % d * k ≤ 16000000000000000000
  rest_le = le_trans (mul-le-mul {n₁ = n % d} {m₁ = k} {n₂ = 4000000000} {m₂ = 4000000000} (omega (arith, mod-lt n h.some)) (omega arith)) (lit≤ tt)
