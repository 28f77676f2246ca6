-- Linear facts over ℤ as facts over ℕ: the ground of `Linear`, where the everyday form is.
-- An integer x has two sides, `up x` and `dn x`: x is up x − dn x, and one of them is 0.
-- A `Lin` is an integer that is known to be a difference p − n of two naturals.
--     lin e f (omega arith)     proves `e.z ≡ f.z`, where e and f are written with `v x`, `nat k`, `⊕`, `⊝`, `neg`, `⊛ k`; `lin≤`, `lin<` an order; `abs_le e k` a bound on a size
--     fact e f h                such an equation h, for omega's list; `fact≤`, `fact<`
--     zarith                    rules for omega's list, by which it reads and proves flat facts: `r ≡ a +ℤ b`, `r ≡ a -ℤ b`, `r ≡ neg_ℤ a`, `a ≡ b`, `a ≤ℤ b`, `a <ℤ b`
--     sides x, one_side x       nat_abs x ≡ up x + dn x; min (up x) (dn x) ≡ 0
-- `◌≤ℤ◌` binds tighter than `◌+ℤ◌`: write `(a +ℤ b) ≤ℤ c`.
use Rattle.std.specs.Prelude.{◌≡◌, refl, ℕ, suc, ◌+◌, ◌*◌, ◌-◌, ◌≤◌, ◌<◌, min, ℤ, pos, negsuc, neg_ℤ, nat_abs, ◌+ℤ◌, ◌-ℤ◌, ◌*ℤ◌, T, ◌≤ℤ◌, ◌<ℤ◌}
use Rattle.std.proofs.Common.{sym, ap, ◌∙◌, add-zero, zero-add, arith, leb→le, le→leb, ltb→lt, lt→ltb}
use Rattle.std.proofs.Math.IntN.{+ℤ_assoc, +ℤ_comm, +ℤ_invl, +ℤ-neg_ℤ_cancel}
use Rattle.std.specs.Int.Signed.{le_z, lt_z}

-- the positive part and the negative part
abbrev pub up : ℤ → ℕ
up (pos n) = n
up (negsuc n) = 0

abbrev pub dn : ℤ → ℕ
dn (pos n) = 0
dn (negsuc n) = suc n

pub pos_inj : {a b : ℕ} → pos a ≡ pos b → a ≡ b
pos_inj e = ap nat_abs e

pub +ℤ-cancel : {a b : ℤ} (c : ℤ) → a +ℤ c ≡ b +ℤ c → a ≡ b
+ℤ-cancel {a} {b} c e = sym (+ℤ-neg_ℤ_cancel a c) ∙ ap (λ (x : ℤ). x +ℤ neg_ℤ c) e ∙ +ℤ-neg_ℤ_cancel b c

+ℤ-swap : (a b c d : ℤ) → (a +ℤ b) +ℤ (c +ℤ d) ≡ (a +ℤ c) +ℤ (b +ℤ d)
+ℤ-swap a b c d =
    +ℤ_assoc a b (c +ℤ d)
    ∙ ap (λ (x : ℤ). a +ℤ x) (sym (+ℤ_assoc b c d) ∙ ap (λ (x : ℤ). x +ℤ d) (+ℤ_comm b c) ∙ +ℤ_assoc c b d)
    ∙ sym (+ℤ_assoc a c (b +ℤ d))

-- ---- z is p − n
pub record Lin : Type 0 where
  pub z : ℤ
  pub p : ℕ
  pub n : ℕ
  pub ok : z +ℤ pos n ≡ pos p

pub part_ok : (z : ℤ) → z +ℤ pos (dn z) ≡ pos (up z)
part_ok (pos n) = ap pos (add-zero n)
part_ok (negsuc n) = +ℤ_invl (pos (suc n))

pub add_ok : (x y : ℤ) (p n q m : ℕ) → x +ℤ pos n ≡ pos p → y +ℤ pos m ≡ pos q → (x +ℤ y) +ℤ pos (n + m) ≡ pos (p + q)
add_ok x y p n q m e f =
    +ℤ-swap x y (pos n) (pos m) ∙ ap (λ (t : ℤ). t +ℤ (y +ℤ pos m)) e ∙ ap (λ (t : ℤ). pos p +ℤ t) f

pub neg_ok : (x : ℤ) (p n : ℕ) → x +ℤ pos n ≡ pos p → neg_ℤ x +ℤ pos p ≡ pos n
neg_ok x p n e =
    ap (λ (t : ℤ). neg_ℤ x +ℤ t) (sym e) ∙ sym (+ℤ_assoc (neg_ℤ x) x (pos n)) ∙ ap (λ (t : ℤ). t +ℤ pos n) (+ℤ_invl x) ∙ ap pos (zero-add n)

-- any integer, as an unknown of its own
abbrev pub v : ℤ → Lin
v x = record { z = x; p = up x; n = dn x; ok = part_ok x }

-- a natural number
abbrev pub nat : ℕ → Lin
nat k = record { z = pos k; p = k; n = 0; ok = ap pos (add-zero k) }

infixl 60 ◌⊕◌ ◌⊝◌
abbrev pub ◌⊕◌ : Lin → Lin → Lin
e ⊕ f = record { z = e.z +ℤ f.z; p = e.p + f.p; n = e.n + f.n; ok = add_ok e.z f.z e.p e.n f.p f.n e.ok f.ok }

abbrev pub neg : Lin → Lin
neg e = record { z = neg_ℤ e.z; p = e.n; n = e.p; ok = neg_ok e.z e.p e.n e.ok }

abbrev pub ◌⊝◌ : Lin → Lin → Lin
e ⊝ f = e ⊕ neg f

-- ---- equations
-- to prove one: lin e f (omega arith)
pub lin : (e f : Lin) → e.p + f.n ≡ f.p + e.n → e.z ≡ f.z
lin e f h = +ℤ-cancel (pos (e.n + f.n))
    (sym (+ℤ_assoc e.z (pos e.n) (pos f.n)) ∙ ap (λ (t : ℤ). t +ℤ pos f.n) e.ok ∙ ap pos h
    ∙ sym (ap (λ (t : ℤ). t +ℤ pos e.n) f.ok) ∙ +ℤ_assoc f.z (pos f.n) (pos e.n) ∙ ap (λ (t : ℤ). f.z +ℤ t) (+ℤ_comm (pos f.n) (pos e.n)))

-- to use one: omega (arith, fact e f h)
pub fact : (e f : Lin) → e.z ≡ f.z → e.p + f.n ≡ f.p + e.n
fact e f h = pos_inj
    (ap (λ (t : ℤ). t +ℤ pos f.n) (sym e.ok) ∙ +ℤ_assoc e.z (pos e.n) (pos f.n) ∙ ap (λ (t : ℤ). e.z +ℤ t) (+ℤ_comm (pos e.n) (pos f.n))
    ∙ ap (λ (t : ℤ). t +ℤ (pos f.n +ℤ pos e.n)) h ∙ sym (+ℤ_assoc f.z (pos f.n) (pos e.n)) ∙ ap (λ (t : ℤ). t +ℤ pos e.n) f.ok)

-- ---- the sides of an integer: its size is their sum, and one of them is 0
pub sides : (x : ℤ) → nat_abs x ≡ up x + dn x
sides (pos n) = omega arith
sides (negsuc n) = omega arith

pub one_side : (x : ℤ) → min (up x) (dn x) ≡ 0
one_side (pos n) = omega arith
one_side (negsuc n) = omega arith

-- to prove a bound on a size
pub abs_le : (e : Lin) (k : ℕ) → e.p ≤ e.n + k → e.n ≤ e.p + k → nat_abs e.z ≤ k
abs_le e k h j = omega (arith, sides e.z, one_side e.z, fact e (v e.z) refl)

-- the size itself
pub abs_is : (e : Lin) → nat_abs e.z ≡ (e.p - e.n) + (e.n - e.p)
abs_is e = omega (arith, sides e.z, one_side e.z, fact e (v e.z) refl)

-- ---- the order
le_nat : (x y : ℤ) → T (le_z x y) → up x + dn y ≤ up y + dn x
le_nat (pos a) (pos b) t = omega (arith, leb→le a b t)
le_nat (pos a) (negsuc b) t = absurd t
le_nat (negsuc a) (pos b) t = omega arith
le_nat (negsuc a) (negsuc b) t = omega (arith, leb→le b a t)

nat_le : (x y : ℤ) → up x + dn y ≤ up y + dn x → T (le_z x y)
nat_le (pos a) (pos b) h = le→leb a b (omega arith)
nat_le (pos a) (negsuc b) h = absurd (omega arith)
nat_le (negsuc a) (pos b) h = tt
nat_le (negsuc a) (negsuc b) h = le→leb b a (omega arith)

lt_nat : (x y : ℤ) → T (lt_z x y) → up x + dn y < up y + dn x
lt_nat (pos a) (pos b) t = omega (arith, ltb→lt a b t)
lt_nat (pos a) (negsuc b) t = absurd t
lt_nat (negsuc a) (pos b) t = omega arith
lt_nat (negsuc a) (negsuc b) t = omega (arith, ltb→lt b a t)

nat_lt : (x y : ℤ) → up x + dn y < up y + dn x → T (lt_z x y)
nat_lt (pos a) (pos b) h = lt→ltb a b (omega arith)
nat_lt (pos a) (negsuc b) h = absurd (omega arith)
nat_lt (negsuc a) (pos b) h = tt
nat_lt (negsuc a) (negsuc b) h = lt→ltb b a (omega arith)

-- to prove an order: lin≤ e f (omega arith)
pub lin≤ : (e f : Lin) → e.p + f.n ≤ f.p + e.n → e.z ≤ℤ f.z
lin≤ e f h = record { le = nat_le e.z f.z (omega (arith, fact e (v e.z) refl, fact f (v f.z) refl)) }

pub lin< : (e f : Lin) → e.p + f.n < f.p + e.n → e.z <ℤ f.z
lin< e f h = record { lt = nat_lt e.z f.z (omega (arith, fact e (v e.z) refl, fact f (v f.z) refl)) }

-- to use one: omega (arith, fact≤ e f h)
pub fact≤ : (e f : Lin) → e.z ≤ℤ f.z → e.p + f.n ≤ f.p + e.n
fact≤ e f h = omega (arith, le_nat e.z f.z h.le, fact e (v e.z) refl, fact f (v f.z) refl)

pub fact< : (e f : Lin) → e.z <ℤ f.z → e.p + f.n < f.p + e.n
fact< e f h = omega (arith, lt_nat e.z f.z h.lt, fact e (v e.z) refl, fact f (v f.z) refl)

-- ---- rules for omega: with `zarith` beside `arith` in its list it reads equations and orders of single integers
-- (each integer by its two sides), and proves them
pub eq_nat : (x y : ℤ) → x ≡ y → up x + dn y ≡ up y + dn x
eq_nat x y h = fact (v x) (v y) h

pub nat_eq : (x y : ℤ) → up x + dn y ≡ up y + dn x → x ≡ y
nat_eq x y h = lin (v x) (v y) h

pub le_sides : (x y : ℤ) → x ≤ℤ y → up x + dn y ≤ up y + dn x
le_sides x y h = fact≤ (v x) (v y) h

pub sides_le : (x y : ℤ) → up x + dn y ≤ up y + dn x → x ≤ℤ y
sides_le x y h = lin≤ (v x) (v y) h

pub lt_sides : (x y : ℤ) → x <ℤ y → up x + dn y < up y + dn x
lt_sides x y h = fact< (v x) (v y) h

pub sides_lt : (x y : ℤ) → up x + dn y < up y + dn x → x <ℤ y
sides_lt x y h = lin< (v x) (v y) h

-- a sum, a difference, a negation, by the sides
pub sum : (x y : ℤ) → up (x +ℤ y) + (dn x + dn y) ≡ up x + up y + dn (x +ℤ y)
sum x y = fact (v (x +ℤ y)) (v x ⊕ v y) refl

pub sum_nat : (r x y : ℤ) → r ≡ x +ℤ y → up r + (dn x + dn y) ≡ up x + up y + dn r
sum_nat r x y h = fact (v r) (v x ⊕ v y) h

pub diff_nat : (r x y : ℤ) → r ≡ x -ℤ y → up r + (dn x + up y) ≡ up x + dn y + dn r
diff_nat r x y h = fact (v r) (v x ⊝ v y) h

pub neg_nat : (r x : ℤ) → r ≡ neg_ℤ x → up r + up x ≡ dn x + dn r
neg_nat r x h = fact (v r) (neg (v x)) h

pub nat_sum : (r x y : ℤ) → up r + (dn x + dn y) ≡ up x + up y + dn r → r ≡ x +ℤ y
nat_sum r x y h = lin (v r) (v x ⊕ v y) h

pub nat_diff : (r x y : ℤ) → up r + (dn x + up y) ≡ up x + dn y + dn r → r ≡ x -ℤ y
nat_diff r x y h = lin (v r) (v x ⊝ v y) h

-- antt applies the first rule that fits, so a difference stands before a sum, and an equation of any two last
pub ruleset zarith = (diff_nat, sum_nat, neg_nat, eq_nat, le_sides, lt_sides, nat_diff, nat_sum, nat_eq, sides_le, sides_lt)

-- ---- a multiple by a natural number
pub scale_ok : (x : ℤ) (p n k : ℕ) → x +ℤ pos n ≡ pos p → x *ℤ pos k +ℤ pos (n * k) ≡ pos (p * k)
scale_ok (pos a) p n k e = ap pos (rw (← pos_inj e) (omega arith))
scale_ok (negsuc a) p n k e =
    let h : n ≡ p + suc a = omega (arith, fact (neg (nat (suc a)) ⊕ nat n) (nat p) e) in
    lin (neg (nat (suc a * k)) ⊕ nat (n * k)) (nat (p * k)) (rw h (omega arith))

infixl 70 ◌⊛◌
abbrev pub ◌⊛◌ : Lin → ℕ → Lin
e ⊛ k = record { z = e.z *ℤ pos k; p = e.p * k; n = e.n * k; ok = scale_ok e.z e.p e.n k e.ok }
