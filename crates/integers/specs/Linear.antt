-- Linear facts over ℤ, as facts over ℕ that `omega` reads. No expression is written a second time:
--     simp zlin (omega (arith, zarith))      proves an equation or an order between sums, differences, negations and multiples of integers.
--                                            `zarith` (`Sides`) lets omega read the hypotheses that are flat: `r ≡ a +ℤ b`, `r ≡ a -ℤ b`, `r ≡ neg_ℤ a`, `a ≡ b`, `a ≤ℤ b`, `a <ℤ b`
--     simp zlin at h                         a hypothesis of any depth, for omega's list: omega (arith, zarith, simp zlin at h)
--     simp zabs (omega (arith, zarith))      the same with goals `nat_abs e ≤ k` and `nat_abs e < k`; list `sides x` for each x of which a bound `nat_abs x ≤ k` is known
-- An integer x that is no sum, difference, negation or multiple stands in the result by its two sides, `up x` and `dn x`.
-- `simp` takes the first rule of a list that fits, so `any` stands last of its kind.
use Rattle.std.specs.Prelude.{◌≡◌, refl, ◌↔◌, List, [], ◌∷◌, ℕ, ◌+◌, ◌*◌, ◌≤◌, ◌<◌, ℤ, pos, neg_ℤ, nat_abs, ◌+ℤ◌, ◌-ℤ◌, ◌*ℤ◌, ◌≤ℤ◌, ◌<ℤ◌}
use Rattle.std.proofs.Common.{sym, arith}
use Rattle.integers.specs.Sides.{v, neg, ◌⊕◌, ◌⊛◌, fact, up, dn, eq_nat, nat_eq, le_sides, sides_le, lt_sides, sides_lt, sides, one_side, zarith}

pub data Kind : Type 0 where
  eq le lt : Kind

abbrev pub Relates : Kind → ℕ → ℕ → Type 0
Relates eq a b = a ≡ b
Relates le a b = a ≤ b
Relates lt a b = a < b

shift : (k : Kind) (a b c d : ℕ) → a + d ≡ c + b → Relates k a b → Relates k c d
shift eq a b c d e h = omega arith
shift le a b c d e h = omega arith
shift lt a b c d e h = omega arith

-- what the integers of a list have on each side
abbrev pub ups : List ℤ → ℕ
ups [] = 0
ups (x ∷ l) = up x + ups l

abbrev pub dns : List ℤ → ℕ
dns [] = 0
dns (x ∷ l) = dn x + dns l

-- p and the list's sum is equal to n, is at most n, or is below n
pub record Bal (k : Kind) (l : List ℤ) (p n : ℕ) : Type 0 where
  pub bal : Relates k (p + ups l) (n + dns l)

moved : (k : Kind) (l m : List ℤ) (p n p' n' : ℕ) → (p + ups l) + (n' + dns m) ≡ (p' + ups m) + (n + dns l) → Bal k l p n ↔ Bal k m p' n'
moved k l m p n p' n' e = (
  (λ h. record { bal = shift k (p + ups l) (n + dns l) (p' + ups m) (n' + dns m) e h.bal }),
  (λ h. record { bal = shift k (p' + ups m) (n' + dns m) (p + ups l) (n + dns l) (sym e) h.bal }),
)

-- ---- in
pub in_eq : (x y : ℤ) → (x ≡ y) ↔ Bal eq (x ∷ neg_ℤ y ∷ []) 0 0
in_eq x y = (
  (λ h. record { bal = omega (arith, eq_nat x y h, fact (neg (v y)) (v (neg_ℤ y)) refl) }),
  (λ h. nat_eq x y (omega (arith, h.bal, fact (neg (v y)) (v (neg_ℤ y)) refl))),
)

pub in_le : (x y : ℤ) → (x ≤ℤ y) ↔ Bal le (x ∷ neg_ℤ y ∷ []) 0 0
in_le x y = (
  (λ h. record { bal = omega (arith, le_sides x y h, fact (neg (v y)) (v (neg_ℤ y)) refl) }),
  (λ h. sides_le x y (omega (arith, h.bal, fact (neg (v y)) (v (neg_ℤ y)) refl))),
)

pub in_lt : (x y : ℤ) → (x <ℤ y) ↔ Bal lt (x ∷ neg_ℤ y ∷ []) 0 0
in_lt x y = (
  (λ h. record { bal = omega (arith, lt_sides x y h, fact (neg (v y)) (v (neg_ℤ y)) refl) }),
  (λ h. sides_lt x y (omega (arith, h.bal, fact (neg (v y)) (v (neg_ℤ y)) refl))),
)

-- ---- through
module _ (k : Kind) (l : List ℤ) (p n : ℕ) where
  pub on_sum : (x y : ℤ) → Bal k ((x +ℤ y) ∷ l) p n ↔ Bal k (x ∷ y ∷ l) p n
  on_sum x y = moved k ((x +ℤ y) ∷ l) (x ∷ y ∷ l) p n p n (omega (arith, fact (v x ⊕ v y) (v (x +ℤ y)) refl))

  pub on_neg_sum : (x y : ℤ) → Bal k (neg_ℤ (x +ℤ y) ∷ l) p n ↔ Bal k (neg_ℤ x ∷ neg_ℤ y ∷ l) p n
  on_neg_sum x y =
      moved k (neg_ℤ (x +ℤ y) ∷ l) (neg_ℤ x ∷ neg_ℤ y ∷ l) p n p n
      (omega (arith, fact (neg (v x ⊕ v y)) (v (neg_ℤ (x +ℤ y))) refl, fact (neg (v x)) (v (neg_ℤ x)) refl, fact (neg (v y)) (v (neg_ℤ y)) refl))

  pub on_neg_neg : (x : ℤ) → Bal k (neg_ℤ (neg_ℤ x) ∷ l) p n ↔ Bal k (x ∷ l) p n
  on_neg_neg x = moved k (neg_ℤ (neg_ℤ x) ∷ l) (x ∷ l) p n p n (omega (arith, fact (neg (neg (v x))) (v (neg_ℤ (neg_ℤ x))) refl))

  -- multiples
  pub on_scaled_sum : (x y : ℤ) (j : ℕ) → Bal k (((x +ℤ y) *ℤ pos j) ∷ l) p n ↔ Bal k ((x *ℤ pos j) ∷ (y *ℤ pos j) ∷ l) p n
  on_scaled_sum x y j =
      moved k (((x +ℤ y) *ℤ pos j) ∷ l) ((x *ℤ pos j) ∷ (y *ℤ pos j) ∷ l) p n p n
      (omega (arith, fact ((v x ⊕ v y) ⊛ j) (v ((x +ℤ y) *ℤ pos j)) refl, fact (v x ⊛ j) (v (x *ℤ pos j)) refl, fact (v y ⊛ j) (v (y *ℤ pos j)) refl))

  pub on_neg_scaled_sum : (x y : ℤ) (j : ℕ) → Bal k (neg_ℤ ((x +ℤ y) *ℤ pos j) ∷ l) p n ↔ Bal k (neg_ℤ (x *ℤ pos j) ∷ neg_ℤ (y *ℤ pos j) ∷ l) p n
  on_neg_scaled_sum x y j =
      moved k (neg_ℤ ((x +ℤ y) *ℤ pos j) ∷ l) (neg_ℤ (x *ℤ pos j) ∷ neg_ℤ (y *ℤ pos j) ∷ l) p n p n
      (omega (arith, fact (neg ((v x ⊕ v y) ⊛ j)) (v (neg_ℤ ((x +ℤ y) *ℤ pos j))) refl, fact (neg (v x ⊛ j)) (v (neg_ℤ (x *ℤ pos j))) refl, fact (neg (v y ⊛ j)) (v (neg_ℤ (y *ℤ pos j))) refl))

  pub on_scaled_neg : (x : ℤ) (j : ℕ) → Bal k ((neg_ℤ x *ℤ pos j) ∷ l) p n ↔ Bal k (neg_ℤ (x *ℤ pos j) ∷ l) p n
  on_scaled_neg x j =
      moved k ((neg_ℤ x *ℤ pos j) ∷ l) (neg_ℤ (x *ℤ pos j) ∷ l) p n p n
      (omega (arith, fact (neg (v x) ⊛ j) (v (neg_ℤ x *ℤ pos j)) refl, fact (neg (v x ⊛ j)) (v (neg_ℤ (x *ℤ pos j))) refl))

  pub on_neg_scaled_neg : (x : ℤ) (j : ℕ) → Bal k (neg_ℤ (neg_ℤ x *ℤ pos j) ∷ l) p n ↔ Bal k ((x *ℤ pos j) ∷ l) p n
  on_neg_scaled_neg x j =
      moved k (neg_ℤ (neg_ℤ x *ℤ pos j) ∷ l) ((x *ℤ pos j) ∷ l) p n p n
      (omega (arith, fact (neg (neg (v x) ⊛ j)) (v (neg_ℤ (neg_ℤ x *ℤ pos j))) refl, fact (v x ⊛ j) (v (x *ℤ pos j)) refl))

  pub on_scaled : (x : ℤ) (j : ℕ) → Bal k ((x *ℤ pos j) ∷ l) p n ↔ Bal k l (p + up x * j) (n + dn x * j)
  on_scaled x j = moved k ((x *ℤ pos j) ∷ l) l p n (p + up x * j) (n + dn x * j) (omega (arith, fact (v x ⊛ j) (v (x *ℤ pos j)) refl))

  pub on_neg_scaled : (x : ℤ) (j : ℕ) → Bal k (neg_ℤ (x *ℤ pos j) ∷ l) p n ↔ Bal k l (p + dn x * j) (n + up x * j)
  on_neg_scaled x j =
      moved k (neg_ℤ (x *ℤ pos j) ∷ l) l p n (p + dn x * j) (n + up x * j) (omega (arith, fact (neg (v x ⊛ j)) (v (neg_ℤ (x *ℤ pos j))) refl))

  -- any other
  pub on_neg : (x : ℤ) → Bal k (neg_ℤ x ∷ l) p n ↔ Bal k l (p + dn x) (n + up x)
  on_neg x = moved k (neg_ℤ x ∷ l) l p n (p + dn x) (n + up x) (omega (arith, fact (neg (v x)) (v (neg_ℤ x)) refl))

  pub any : (x : ℤ) → Bal k (x ∷ l) p n ↔ Bal k l (p + up x) (n + dn x)
  any x = moved k (x ∷ l) l p n (p + up x) (n + dn x) (omega arith)

-- ---- out
pub out : (k : Kind) (p n : ℕ) → Bal k [] p n ↔ Relates k p n
out k p n = (
  (λ h. shift k (p + 0) (n + 0) p n (omega arith) h.bal),
  (λ h. record { bal = shift k p n (p + 0) (n + 0) (omega arith) h }),
)

pub ruleset zlin = (in_eq, in_le, in_lt, on_sum, on_neg_sum, on_neg_neg, on_scaled_sum, on_neg_scaled_sum, on_scaled_neg, on_neg_scaled_neg, on_scaled, on_neg_scaled, on_neg, any, out)

-- ---- sizes
pub abs_le_iff : (x : ℤ) (m : ℕ) → (nat_abs x ≤ m) ↔ (Bal le (x ∷ []) 0 m × Bal le (neg_ℤ x ∷ []) 0 m)
abs_le_iff x m = (
  (λ h. (record { bal = omega (arith, sides x) }, record { bal = omega (arith, sides x, fact (neg (v x)) (v (neg_ℤ x)) refl) })),
  (λ h. omega (arith, sides x, one_side x, h.0.bal, h.1.bal, fact (neg (v x)) (v (neg_ℤ x)) refl)),
)

pub abs_lt_iff : (x : ℤ) (m : ℕ) → (nat_abs x < m) ↔ (Bal lt (x ∷ []) 0 m × Bal lt (neg_ℤ x ∷ []) 0 m)
abs_lt_iff x m = (
  (λ h. (record { bal = omega (arith, sides x) }, record { bal = omega (arith, sides x, fact (neg (v x)) (v (neg_ℤ x)) refl) })),
  (λ h. omega (arith, sides x, one_side x, h.0.bal, h.1.bal, fact (neg (v x)) (v (neg_ℤ x)) refl)),
)

pub ruleset zabs = (abs_lt_iff, abs_le_iff, zlin)

-- ---- the forms, each checked: an identity, hypotheses flat and deep, multiples, an order, a size
identity : (a b c : ℤ) → (a +ℤ b) -ℤ c ≡ (b -ℤ c) +ℤ a
identity a b c = simp zlin (omega arith)

telescope : (a b c d e f g h : ℤ) → ((a +ℤ b) -ℤ (c -ℤ d)) +ℤ ((e +ℤ f) -ℤ (g +ℤ h)) ≡ (neg_ℤ (g -ℤ (a +ℤ d)) +ℤ (b +ℤ f)) -ℤ ((c +ℤ h) -ℤ e)
telescope a b c d e f g h = simp zlin (omega arith)

from_flat : (a b c d : ℤ) → c ≡ a +ℤ b → a ≡ c -ℤ d → d ≡ b
from_flat a b c d h k = simp zlin (omega (arith, zarith))

from_deep : (a b c d : ℤ) → c +ℤ d ≡ a +ℤ (b -ℤ pos 7) → (a +ℤ b) -ℤ (c +ℤ d) ≡ pos 7
from_deep a b c d h = simp zlin (omega (arith, simp zlin at h))

multiples : (a b c : ℤ) (k : ℕ) → (a +ℤ b -ℤ c) *ℤ pos k +ℤ c *ℤ pos k ≡ b *ℤ pos k +ℤ a *ℤ pos k
multiples a b c k = simp zlin (omega arith)

ordered : (a b c : ℤ) → a ≤ℤ b → (a +ℤ c) <ℤ ((b +ℤ c) +ℤ pos 1)
ordered a b c h = simp zlin (omega (arith, zarith))

sized : (a b : ℤ) → nat_abs a ≤ 100 → nat_abs b ≤ 50 → nat_abs ((a -ℤ b) +ℤ a *ℤ pos 3) ≤ 450
sized a b h k = simp zabs (omega (arith, sides a, sides b))
