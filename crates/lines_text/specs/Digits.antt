-- Decimal digits in the steps of the code: how many there are, and what writing the last of them behind the others leaves.
use Rattle.std.specs.Prelude.{◌≡◌, refl, List, [], ◌∷◌, ℕ, ◌+◌, ◌/◌, ◌%◌, ◌^◌, ◌<◌, ◌≤◌, length, set}
use Rattle.std.proofs.Common.{sym, ap, ◌∙◌, arith, length-append}
use Rattle.fields.specs.Field.{stored}
use Rattle.fields.specs.FieldLaws.{after}
use Rattle.rules.specs.Sheet.{decimal}
use Rattle.laws.specs.Decimals.{decimal_small, decimal_more, decimal_short}

-- ── how many ──

pub length_small : (n : ℕ) → n < 10 → length (decimal n) ≡ 1
length_small n h = ap length (decimal_small n h)

pub length_more : (n : ℕ) → 10 ≤ n → length (decimal n) ≡ length (decimal (n / 10)) + 1
length_more n h = ap length (decimal_more n h) ∙ length-append (decimal (n / 10)) ((48 + n % 10) ∷ [])

pub length_u64 : (n : ℕ) → n < 2 ^ 64 → length (decimal n) ≤ 20
length_u64 n h = decimal_short 19 n (omega arith)

-- ── written ──

-- one byte
pub put_byte : (l : List ℕ) (i x : ℕ) → set l i x ≡ stored l i (x ∷ [])
unfolding stored
put_byte l i x = refl

pub put_small : (l : List ℕ) (i n : ℕ) → n < 10 → set l i (48 + n) ≡ stored l i (decimal n)
put_small l i n h = put_byte l i (48 + n) ∙ ap (stored l i) (sym (decimal_small n h))

pub put_more : (l m : List ℕ) (i k n : ℕ) → 10 ≤ n → m ≡ stored l i (decimal (n / 10)) → k ≡ i + length (decimal (n / 10))
    → set m k (48 + n % 10) ≡ stored l i (decimal n)
put_more l m i k n h e f =
    after l m (set m k (48 + n % 10)) i k (decimal (n / 10)) ((48 + n % 10) ∷ []) e (put_byte m k (48 + n % 10)) f
    ∙ ap (stored l i) (sym (decimal_more n h))
