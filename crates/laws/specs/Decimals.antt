-- The bound by which decimal digits are defined is enough, so it can be forgotten: the digits of a number have equations without it.
use Rattle.std.specs.Prelude.{◌≡◌, refl, List, [], ◌∷◌, ◌++◌, ℕ, zero, suc, ◌+◌, ◌/◌, ◌%◌, ◌^◌, ◌<◌, ◌≤◌, length}
use Rattle.std.proofs.Common.{sym, ap, ◌∙◌, div-lt_iff_lt-mul, pow-suc, arith, length-append, lt-ltb, le-ltb}
use Rattle.std.proofs.Math.Logic.{dite}
use Rattle.std.proofs.Math.Decide.{dec_lt}
use Rattle.rules.specs.Sheet.{digits_by, decimal}
use Rattle.laws.specs.Cases.{cond_yes, cond_no}

small_by : (f n : ℕ) → n < 10 → digits_by f n ≡ (48 + n) ∷ []
unfolding digits_by
small_by zero n h = refl
small_by (suc f) n h = cond_yes ((48 + n) ∷ []) (digits_by f (n / 10) ++ ((48 + n % 10) ∷ [])) (lt-ltb n 10 h)

more_by : (f n : ℕ) → 10 ≤ n → digits_by (suc f) n ≡ digits_by f (n / 10) ++ ((48 + n % 10) ∷ [])
unfolding digits_by
more_by f n h = cond_no ((48 + n) ∷ []) (digits_by f (n / 10) ++ ((48 + n % 10) ∷ [])) (le-ltb n 10 h)

-- any two bounds that are no less than the number give the same
pub digits_by_lem : (f g n : ℕ) → n ≤ f → n ≤ g → digits_by f n ≡ digits_by g n
digits_by_lem zero g n h l = small_by zero n (omega arith) ∙ sym (small_by g n (omega arith))
digits_by_lem (suc f) zero n h l = small_by (suc f) n (omega arith) ∙ sym (small_by zero n (omega arith))
digits_by_lem (suc f) (suc g) n h l =
    let step : 10 ≤ n → digits_by f (n / 10) ≡ digits_by g (n / 10) = λ t. digits_by_lem f g (n / 10) (omega arith) (omega arith) in
    dite (dec_lt n 10)
    (λ s. small_by (suc f) n s ∙ sym (small_by (suc g) n s))
    (λ s. let t : 10 ≤ n = omega arith in
    more_by f n t ∙ ap (λ (ds : List ℕ). ds ++ ((48 + n % 10) ∷ [])) (step t) ∙ sym (more_by g n t))

-- so all of them give what the number gives
pub digits_enough : (f n : ℕ) → n ≤ f → digits_by f n ≡ digits_by n n
digits_enough f n h = digits_by_lem f n n h (omega arith)

-- a number below ten is one digit,
pub decimal_small : (n : ℕ) → n < 10 → decimal n ≡ (48 + n) ∷ []
unfolding decimal
decimal_small n h = small_by n n h

-- any other is that of n / 10 and then n % 10
pub decimal_more : (n : ℕ) → 10 ≤ n → decimal n ≡ decimal (n / 10) ++ ((48 + n % 10) ∷ [])
unfolding decimal
decimal_more n h =
    digits_by_lem n (suc n) n (omega arith) (omega arith)
    ∙ more_by n n h
    ∙ ap (λ (ds : List ℕ). ds ++ ((48 + n % 10) ∷ [])) (digits_by_lem n (n / 10) (n / 10) (omega arith) (omega arith))

-- a number below a power of ten has at most so many digits
pub decimal_short : (k n : ℕ) → n < 10 ^ suc k → length (decimal n) ≤ suc k
decimal_short zero n h = rw (decimal_small n h) (omega arith)
decimal_short (suc k) n h =
    let less : n / 10 < 10 ^ suc k = (div-lt_iff_lt-mul {k = 10} (omega arith)).1 (rw (pow-suc 10 (suc k)) at h) in
    dite (dec_lt n 10)
    (λ s. rw (decimal_small n s) (omega arith))
    (λ s. rw (decimal_more n (omega arith), length-append) (omega (arith, decimal_short k (n / 10) less)))
