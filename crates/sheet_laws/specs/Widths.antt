-- How many bytes a line has at most, by the sizes of its figures; and texts one behind the other.
use Rattle.std.specs.Prelude.{◌≡◌, true, ℕ, suc, ◌+◌, ◌*◌, ◌^◌, ◌≤◌, ◌<◌, ℤ, pos, negsuc, nat_abs, length}
use Rattle.std.proofs.Math.Path.{refl}
use Rattle.std.proofs.Common.{sym, ap, ◌∙◌, mul-suc}
use mathlib.Core.List.{List, [], ◌∷◌, ◌++◌, append_assoc, append-nil}
use native.Mathlib.Omega.{arith}
use Rattle.std.proofs.Math.Dec.{leb}
use Rattle.std.proofs.Math.ListN.{length-append}
use borrow.Author.Tests.{leb-true}
use Rattle.units.specs.Units.{shares_of, mils_of, most_shares, most_mils}
use Rattle.units.specs.declared.Shares.{Shares}
use Rattle.units.specs.declared.Mils.{Mils}
use Rattle.rules.specs.Words.{all, each, total, text}
use Rattle.rules.specs.Sheet.{decimal, signed_decimal, spaced, text_of}
use Rattle.rules.specs.declared.Line.TheVariants.{Refusal, Place, Day, Open, Charge, End}
use Rattle.laws.specs.All.{all_cons}
use Rattle.laws.specs.Decimals.{decimal_short}

-- ── texts one behind the other ──

module _ {A B : Type 0} (f : A → List B) where
  pub each_append : (l m : List A) → each f (l ++ m) ≡ each f l ++ each f m
  unfolding each
  each_append [] m = refl
  each_append (x ∷ l) m = rw (each_append l m) (sym (append_assoc (f x) (each f l) (each f m)))

  pub each_one : (x : A) → each f (x ∷ []) ≡ f x
  unfolding each
  each_one x = append-nil (f x)

  pub length_both : (l m : List A) → length (each f (l ++ m)) ≡ length (each f l) + length (each f m)
  length_both l m = ap length (each_append l m) ∙ length-append (each f l) (each f m)

  -- where each has at most n
  pub length_each : (n : ℕ) (l : List A) → all (λ x. leb (length (f x)) n) l ≡ true → length (each f l) ≤ n * length l
  unfolding each
  length_each n [] h = omega arith
  length_each n (x ∷ l) h =
      let b = all_cons (λ (y : A). leb (length (f y)) n) x l h in
      rw (mul-suc n (length l)) (omega (arith, length-append (f x) (each f l), leb-true (length (f x)) n b.0, length_each n l b.1))

-- ── figures ──

signed_short : (k : ℕ) (z : ℤ) → nat_abs z < 10 ^ suc k → length (signed_decimal z) ≤ k + 2
unfolding signed_decimal text
signed_short k (pos n) h = omega (arith, decimal_short k n h)
signed_short k (negsuc n) h = omega (arith, decimal_short k (suc n) h)

length_spaced : (ws : List (List ℕ)) → length (spaced ws) ≡ 1 + total (λ w. 1 + length w) ws
unfolding spaced text total
length_spaced [] = refl
length_spaced (w ∷ ws) = omega (arith, length-append w (spaced ws), length_spaced ws)

-- ── lines ──

pub refusal_short : (i n : ℕ) → i < 100_000 → n < 100 → length (text_of (Refusal i n)) ≤ 11
unfolding text_of text total
refusal_short i n h k = omega (arith, length_spaced (decimal i ∷ decimal n ∷ []), decimal_short 4 i h, decimal_short 1 n k)

pub place_short : (place : ℕ) → place < 100_000 → length (text_of (Place place)) ≤ 8
unfolding text_of text total
place_short place h = omega (arith, length_spaced (decimal place ∷ []), decimal_short 4 place h)

pub day_short : (d : ℕ) → d < 100_000 → length (text_of (Day d)) ≤ 10
unfolding text_of text total
day_short d h = omega (arith, length_spaced (decimal d ∷ []), decimal_short 4 d h)

pub open_short : (n a s : ℕ) (q : Shares) (m : Mils) → n < 1_000_000_000 → a < 100 → s < 100 → nat_abs (shares_of q) ≤ most_shares → nat_abs (mils_of m) ≤ most_mils
    → length (text_of (Open n a s q m)) ≤ 47
unfolding text_of text total
open_short n a s q m hn ha hs hq hm =
    omega (
      arith,
      length_spaced (decimal n ∷ decimal a ∷ decimal s ∷ signed_decimal (shares_of q) ∷ signed_decimal (mils_of m) ∷ []),
      decimal_short 8 n hn,
      decimal_short 1 a ha,
      decimal_short 1 s hs,
      signed_short 8 (shares_of q) (omega arith),
      signed_short 15 (mils_of m) (omega arith),
    )

pub charge_short : (a c : ℕ) (m : Mils) → a < 100 → c < 10 → nat_abs (mils_of m) < 10 ^ 19 → length (text_of (Charge a c m)) ≤ 28
unfolding text_of text total
charge_short a c m ha hc hm =
    omega (
      arith,
      length_spaced (decimal a ∷ decimal c ∷ signed_decimal (mils_of m) ∷ []),
      decimal_short 1 a ha,
      decimal_short 0 c hc,
      signed_short 18 (mils_of m) hm,
    )

pub end_short : (n : ℕ) → n < 100_000 → length (text_of (End n)) ≤ 8
unfolding text_of text total
end_short n h = omega (arith, length_spaced (decimal n ∷ []), decimal_short 4 n h)
