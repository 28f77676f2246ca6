-- A list in another order: it is as long, what holds of all its elements holds of all, and distinct numbers stay distinct.
use Rattle.std.specs.Prelude.{◌≡◌, refl, Bool, true, false, not, ◌&&◌, ℕ, suc, eqb, length}
use Rattle.std.proofs.Common.{sym, ap, ap₂, ◌∙◌}
use Rattle.std.proofs.Math.Bool.{Bool-set}
use Rattle.std.proofs.Math.Logic.{∥∥₁_elim}
use mathlib.Core.List.{List, Perm, Permᴰ}
use Rattle.std.proofs.Math.Nat.{ℕ_set}
use Rattle.std.specs.Prelude.{◌∷◌}
use Rattle.rules.specs.Words.{all}
use Rattle.rules.specs.Sound.{distinct}
use Rattle.laws.specs.Cases.{eqb_swap, and_mix}

-- ── its length ──

length_orderᴰ : {A : Type 0} {l m : List A} → Permᴰ l m → length l ≡ length m
length_orderᴰ Permᴰ.nil = refl
length_orderᴰ (Permᴰ.cons e q) = ap suc (length_orderᴰ q)
length_orderᴰ (Permᴰ.swap e f) = refl
length_orderᴰ (Permᴰ.trans q r) = length_orderᴰ q ∙ length_orderᴰ r

pub length_order : {A : Type 0} (l m : List A) → Perm l m → length l ≡ length m
length_order l m p = ∥∥₁_elim p (ℕ_set (length l) (length m)) (λ q. length_orderᴰ q)

-- ── all ──

and_swap : (a b r : Bool) → a && (b && r) ≡ b && (a && r)
and_swap true b r = refl
and_swap false true r = refl
and_swap false false r = refl

all_orderᴰ : {A : Type 0} (t : A → Bool) {l m : List A} → Permᴰ l m → all t l ≡ all t m
unfolding all
all_orderᴰ t Permᴰ.nil = refl
all_orderᴰ t (Permᴰ.cons e q) = rw (e, all_orderᴰ t q)
all_orderᴰ t (Permᴰ.swap {a = a} {b = b} {l = l} e f) = rw (sym e, sym f) (and_swap (t a) (t b) (all t l))
all_orderᴰ t (Permᴰ.trans q r) = all_orderᴰ t q ∙ all_orderᴰ t r

pub all_order : {A : Type 0} (t : A → Bool) (l m : List A) → Perm l m → all t l ≡ all t m
all_order t l m p = ∥∥₁_elim p (Bool-set (all t l) (all t m)) (λ q. all_orderᴰ t q)

-- ── distinct numbers ──

distinct_swapped : (a b : ℕ) (l : List ℕ) → distinct (a ∷ b ∷ l) ≡ distinct (b ∷ a ∷ l)
unfolding distinct all
distinct_swapped a b l =
    rw (eqb_swap b a) (and_mix (not (eqb a b)) (all (λ m. not (eqb a m)) l) (all (λ m. not (eqb b m)) l) (distinct l))

distinct_orderᴰ : {l m : List ℕ} → Permᴰ l m → distinct l ≡ distinct m
unfolding distinct all
distinct_orderᴰ Permᴰ.nil = refl
distinct_orderᴰ (Permᴰ.cons {a = a} e q) = rw (sym e) (ap₂ ◌&&◌ (all_orderᴰ (λ m. not (eqb a m)) q) (distinct_orderᴰ q))
distinct_orderᴰ (Permᴰ.swap {a = a} {b = b} {l = l} e f) = distinct_swapped a b l ∙ ap₂ (λ (x y : ℕ). distinct (x ∷ y ∷ l)) f e
distinct_orderᴰ (Permᴰ.trans q r) = distinct_orderᴰ q ∙ distinct_orderᴰ r

pub distinct_order : (l m : List ℕ) → Perm l m → distinct l ≡ distinct m
distinct_order l m p = ∥∥₁_elim p (Bool-set (distinct l) (distinct m)) (λ q. distinct_orderᴰ q)
