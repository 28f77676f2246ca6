-- A bit for each number, 64 to a word: which flags are up after one more is raised.
use Rattle.std.specs.Prelude.{◌≡◌, Bool, true, false, List, ℕ, zero, suc, ◌+◌, ◌*◌, ◌-◌, ◌/◌, ◌%◌, ◌^◌, ◌<◌, length, get_or, set, replicate}
use Rattle.std.proofs.Common.{sym, ◌∙◌, one-mul, mod-eq_of_lt, mul-div_cancel, arith, pow_pos, pow-add, get_or-set_same, get_or-set_other}
use Rattle.std.proofs.Math.Path.{ap}
use Rattle.std.proofs.Math.Logic.{dite}
use Rattle.std.proofs.Math.Decide.{ℕ_discrete, dec_lt}
use Rattle.std.proofs.Math.Nat.{div-eq_of_lt, zero-div, div_self}
use Rattle.std.specs.Int.Bits.{bit_or, or_zero_l, or_zero_r, or_self, shifted_even}
use Rattle.std.proofs.lemmas.Nat.{or_shr, or_mod}
use Rattle.std.proofs.Math.Dec.{eqb}
use Rattle.std.proofs.Math.ListN.{length-set}
use Rattle.std.proofs.lemmas.List.{get_or-replicate}
use Rattle.std.proofs.Math.Pow.{pow-lt}

-- ── the bits of a word ──

abbrev bit : ℕ → ℕ → ℕ
bit w j = w / 2 ^ j % 2

bit_or_lem : (w v j : ℕ) → bit (bit_or w v) j ≡ bit_or (bit w j) (bit v j)
bit_or_lem w v j = ap (λ (x : ℕ). x % 2) (or_shr w v j) ∙ or_mod (w / 2 ^ j) (v / 2 ^ j) 1

-- a power of two has one bit
bit_there : (k : ℕ) → bit (2 ^ k) k ≡ 1
bit_there k = ap (λ (x : ℕ). x % 2) (div_self (pow_pos k))

bit_below : (m j : ℕ) → bit (2 ^ (suc m + j)) j ≡ 0
bit_below m j =
    ap (λ (x : ℕ). x % 2) (ap (λ (x : ℕ). x / 2 ^ j) (pow-add 2 (suc m) j) ∙ mul-div_cancel (2 ^ suc m) (pow_pos j))
    ∙ ap (λ (x : ℕ). x % 2) (sym (one-mul (2 ^ suc m))) ∙ shifted_even 1 m

bit_elsewhere : (k j : ℕ) → (j ≡ k → ⊥) → bit (2 ^ k) j ≡ 0
bit_elsewhere k j d = dite (dec_lt j k)
    (λ h. let e : suc (k - suc j) + j ≡ k = omega arith in
    ap (λ (i : ℕ). bit (2 ^ i) j) (sym e) ∙ bit_below (k - suc j) j)
    (λ h. ap (λ (x : ℕ). x % 2) (div-eq_of_lt (pow-lt {i = k} {j = j} (omega arith))))

-- so it raises that bit, and no other
up : (x : ℕ) → x < 2 → bit_or x 1 ≡ 1
up zero h = or_zero_l 1
up (suc zero) h = or_self 1
up (suc (suc x)) h = absurd (omega arith)

bit_raised : (w k : ℕ) → bit (bit_or w (2 ^ k)) k ≡ 1
bit_raised w k = bit_or_lem w (2 ^ k) k ∙ ap (bit_or (bit w k)) (bit_there k) ∙ up (bit w k) (omega arith)

bit_kept : (w k j : ℕ) → (j ≡ k → ⊥) → bit (bit_or w (2 ^ k)) j ≡ bit w j
bit_kept w k j d = bit_or_lem w (2 ^ k) j ∙ ap (bit_or (bit w j)) (bit_elsewhere k j d) ∙ or_zero_r (bit w j)

-- the code shifts a 1 to its place
pub shifted_one : (k : ℕ) → k < 64 → 1 * 2 ^ k % 2 ^ 64 ≡ 2 ^ k
shifted_one k h = ap (λ (x : ℕ). x % 2 ^ 64) (one-mul (2 ^ k)) ∙ mod-eq_of_lt (pow-lt {i = k} {j = 64} h)

-- ── the flags of the numbers ──

unfoldable pub flag_at : List ℕ → ℕ → Bool
flag_at words n = eqb (bit (get_or words (n / 64) 0) (n % 64)) 1

unfoldable pub raised : List ℕ → ℕ → List ℕ
raised words n = set words (n / 64) (bit_or (get_or words (n / 64) 0) (2 ^ (n % 64)))

pub all_down : (n : ℕ) → n < 65536 → flag_at (replicate 1024 0) n ≡ false
unfolding flag_at
all_down n h =
    ap (λ (w : ℕ). eqb (bit w (n % 64)) 1) (get_or-replicate 1024 (n / 64) 0 0 (omega arith))
    ∙ ap (λ (x : ℕ). eqb (x % 2) 1) (zero-div (2 ^ (n % 64)))

module _ (words : List ℕ) (long : length words ≡ 1024) (n : ℕ) (small : n < 65536) where
  abbrev word : ℕ
  word = bit_or (get_or words (n / 64) 0) (2 ^ (n % 64))

  pub raised_long : length (raised words n) ≡ 1024
  unfolding raised
  raised_long = length-set words (n / 64) word ∙ long

  here : get_or (set words (n / 64) word) (n / 64) 0 ≡ word
  here = get_or-set_same words (n / 64) word 0 (omega arith)

  pub raised_up : flag_at (raised words n) n ≡ true
  unfolding flag_at raised
  raised_up = ap (λ (w : ℕ). eqb (bit w (n % 64)) 1) here ∙ ap (λ (x : ℕ). eqb x 1) (bit_raised (get_or words (n / 64) 0) (n % 64))

  pub raised_other : (m : ℕ) → (m ≡ n → ⊥) → flag_at (raised words n) m ≡ flag_at words m
  unfolding flag_at raised
  raised_other m d = dite (ℕ_discrete (m / 64) (n / 64))
      (λ e. ap (λ (i : ℕ). eqb (bit (get_or (set words (n / 64) word) i 0) (m % 64)) 1) e
      ∙ ap (λ (w : ℕ). eqb (bit w (m % 64)) 1) here
      ∙ ap (λ (x : ℕ). eqb x 1) (bit_kept (get_or words (n / 64) 0) (n % 64) (m % 64) (λ f. d (omega arith)))
      ∙ ap (λ (i : ℕ). eqb (bit (get_or words i 0) (m % 64)) 1) (sym e))
      (λ u. ap (λ (w : ℕ). eqb (bit w (m % 64)) 1) (get_or-set_other words (n / 64) (m / 64) word 0 u))
