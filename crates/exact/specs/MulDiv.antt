-- The quotient and the remainder of a * b by d, or that the quotient passes the limit.
use Rattle.std.specs.Prelude.{◌≡◌, refl, Bool, true, false, cond, Option, Some, None, ℕ, ◌+◌, ◌*◌, ◌/◌, ◌%◌, ◌≤◌, ◌<◌, leb, ltb}
use Rattle.std.proofs.Common.{sym, ap, ◌∙◌, div-add-mod', mod-lt, mul-le-mul_left, mul-le-mul_right, le_trans, lt_of_lt_of_le, div-mul-le_self, le-div_iff_mul-le, div-lt_iff_lt-mul, arith, le-leb, leb-true, leb-false, lt-ltb, le-ltb, ltb-true, ltb-false}
use Rattle.std.proofs.Math.Nat.{lt-mul-div-succ, mul-div-le}
use Rattle.std.proofs.Math.Arith.{digits_div, digits_mod}
use Rattle.std.proofs.lemmas.Bool.{lt-leb, cond-true, cond-false}
use Rattle.std.proofs.lemmas.Option.{none-some, some_pair_parts}

-- the house's limit on converted totals, 9*10^18 (document 01, refusal 16); below 2^63
abbrev pub limit : ℕ
limit = 9000000000000000000

unfoldable pub mul_div : ℕ → ℕ → ℕ → Option (ℕ × ℕ)
mul_div a b d = cond (leb (a * b / d) limit) (Some (a * b / d, a * b % d)) None

pub record Divisor (d : ℕ) : Type 0 where
  pub some : 0 < d
  pub small : d ≤ 140737488355328

-- ---- to make one
pub is_big : (a b d : ℕ) → limit < a * b / d → None ≡ mul_div a b d
unfolding mul_div
is_big a b d h = rw (lt-leb (a * b / d) limit h)

pub is_done : (a b d q r : ℕ) → 0 < d → q * d + r ≡ a * b → r < d → q ≤ limit → Some (q, r) ≡ mul_div a b d
unfolding mul_div
is_done a b d q r p e h k =
    let f : a * b / d ≡ q = ap (λ (n : ℕ). n / d) (sym e) ∙ digits_div q h in
    let g : a * b % d ≡ r = ap (λ (n : ℕ). n % d) (sym e) ∙ digits_mod q h in
    rw (f, g, le-leb q limit k)

-- ---- to use one
pub record IsDone (a b d q r : ℕ) : Type 0 where
  pub quotient : q ≡ a * b / d
  pub rest : r ≡ a * b % d
  pub within : q ≤ limit

pub done_is : (a b d q r : ℕ) → Some (q, r) ≡ mul_div a b d → IsDone a b d q r
unfolding mul_div
done_is a b d q r e = go (leb (a * b / d) limit) refl
  where
    go : (t : Bool) → leb (a * b / d) limit ≡ t → IsDone a b d q r
    go true u =
        let parts = some_pair_parts q (a * b / d) r (a * b % d) (e ∙ cond-true _ (Some (a * b / d, a * b % d)) None u) in
        record { quotient = parts.0; rest = parts.1; within = omega (arith, parts.0, leb-true (a * b / d) limit u) }
    go false u =
        absurd (none-some (q, r) (sym (e ∙ cond-false _ (Some (a * b / d, a * b % d)) None u)))

pub big_is : (a b d : ℕ) → None ≡ mul_div a b d → limit < a * b / d
unfolding mul_div
big_is a b d e = go (leb (a * b / d) limit) refl
  where
    go : (t : Bool) → leb (a * b / d) limit ≡ t → limit < a * b / d
    go false u = leb-false (a * b / d) limit u
    go true u =
        absurd (none-some (a * b / d, a * b % d) (e ∙ cond-true _ (Some (a * b / d, a * b % d)) None u))

-- ---- one digit more
pub record Digits (a d w q r : ℕ) : Type 0 where
  pub some : 0 < d
  pub small : d ≤ 140737488355328
  pub whole : q * d + r ≡ a * (w / 65536)
  pub rest : r < d

module _ (a d w q r : ℕ) (h : Digits a d w q r) where
  abbrev pub low : ℕ
  low = 65536 * r + w % 65536 * (a % d)

  abbrev pub next : ℕ
  next = 65536 * q + w % 65536 * (a / d) + low / d

  low_rest : w % 65536 * (a % d) ≤ 65535 * (a % d)
  low_rest = mul-le-mul_right (a % d) (omega arith)

  pub low_small : low < 131072 * d
  low_small = omega (arith, low_rest, mod-lt a h.some)

  pub carry_small : low / d < 131072
  carry_small = (div-lt_iff_lt-mul h.some).1 low_small

  pub next_is : next * d + low % d ≡ a * w
  next_is =
      omega (arith, div-add-mod' low d, h.whole, ap (λ (n : ℕ). w % 65536 * n) (div-add-mod' a d), ap (λ (n : ℕ). a * n) (div-add-mod' w 65536))

  pub next_quot : next ≡ a * w / d
  next_quot = sym (ap (λ (n : ℕ). n / d) (sym next_is) ∙ digits_div next (mod-lt low h.some))

pub past : (n g x : ℕ) → 0 < g → n / g < x → n < g * x
past n g x p h = lt_of_lt_of_le (lt-mul-div-succ n p) (mul-le-mul_left g (omega arith))

pub not_past : (n g x : ℕ) → x ≤ n / g → g * x ≤ n
not_past n g x h = le_trans (mul-le-mul_left g h) (mul-div-le n g)

-- a digit more makes the quotient no smaller
pub big_more : (a w d : ℕ) → 0 < d → limit < a * (w / 65536) / d → limit < a * w / d
big_more a w d p h =
    lt_of_lt_of_le h ((le-div_iff_mul-le p).1 (le_trans (div-mul-le_self (a * (w / 65536)) d) (mul-le-mul_left a (omega arith))))

pub over_is : (n g x : ℕ) → 0 < g → ltb (n / g) x ≡ ltb n (g * x)
over_is n g x p = go (ltb (n / g) x) refl
  where
    go : (t : Bool) → ltb (n / g) x ≡ t → t ≡ ltb n (g * x)
    go true u = sym (lt-ltb n (g * x) (past n g x p (ltb-true (n / g) x u)))
    go false u = sym (le-ltb n (g * x) (not_past n g x (ltb-false (n / g) x u)))

pub zero_is : (a d : ℕ) → 0 < d → Some (0, 0) ≡ mul_div a 0 d
zero_is a d p = is_done a 0 d 0 0 p (omega arith) p (omega arith)

pub digits_of : (a d w q r : ℕ) → Divisor d → Some (q, r) ≡ mul_div a (w / 65536) d → Digits a d w q r
digits_of a d w q r h e =
    let k = done_is a (w / 65536) d q r e in
    record {
      some = h.some;
      small = h.small;
      whole = rw (k.quotient, k.rest) (div-add-mod' (a * (w / 65536)) d);
      rest = rw k.rest (mod-lt (a * (w / 65536)) h.some);
    }
