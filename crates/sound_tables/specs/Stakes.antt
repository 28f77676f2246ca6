-- Money at stake in one pass: each record's money is added at account * 4 + currency, where the charge stands. That this is the rules' test.
use Rattle.std.specs.Prelude.{◌≡◌, Bool, true, cond, ◌&&◌, eqb, leb, length, get_or, take, drop, nat_abs}
use Rattle.std.proofs.Math.Path.{refl, sym, ap}
use Rattle.std.proofs.Common.{◌∙◌, eq-eqb, ne_eqb, eqb-true, leb-true}
use Rattle.std.proofs.Math.Bool.{not}
use mathlib.Core.List.{List, [], ◌∷◌}
use Prim.Native.Nat.{ℕ, zero, suc, ◌+◌, ◌*◌, ◌<◌, ◌≤◌}
use native.Mathlib.Omega.{arith}
use Rattle.std.proofs.Math.ListN.{length-take, length-drop}
use Rattle.std.proofs.lemmas.Bool.{eqb-false, not-true}
use Rattle.units.specs.Units.{mils_of, most_shares, most_mils}
use Rattle.units.specs.declared.Mils.{Mils}
use Rattle.units.specs.declared.Amount.{Amount}
use Rattle.rules.specs.Words.{all, total, from}
use Rattle.rules.specs.Bounds.{most_records, most_at_stake, every_currency}
use Rattle.rules.specs.Book.{quantity_of, money_of, account_of, security_of, open_of, currency_of, unlisted}
use Rattle.rules.specs.Sound.{is_code, codes_fit, is_position, sizes_fit, by_account, unlisted_empty, records_of, open_money, money_fits_of, money_fits_from, money_fits}
use Rattle.rules.specs.declared.Position.{Position}
use Rattle.rules.specs.declared.Book.{Book}
use Rattle.laws.specs.Cases.{by_test, both_hold, true_false}
use Rattle.laws.specs.Walks.{all_at}
use Rattle.laws.specs.All.{all_so}
use Rattle.laws.specs.Keeping.{keep_both}
use Rattle.laws.specs.Adding.{total_keep}
use Rattle.laws.specs.Numbers.{security_below}
use Rattle.sound_tables.specs.Placed.{all_from, from_split, amounts_at, sum_at}

-- what the sentences before have shown
pub record MoneyAsks (k : Book) : Type 0 where
  pub records : k.records ≤ most_records
  pub sizes : all sizes_fit (open_of k) ≡ true
  pub codes : codes_fit k ≡ true
  pub listed : unlisted_empty k ≡ true

-- ── the place of a record's money ──

abbrev pub place_of : Book → Position → ℕ
place_of k p = account_of p * 4 + currency_of k (security_of p)

-- the same whatever the record's place in the table
abbrev pub place_at : Book → ℕ → Position → ℕ
place_at k j p = place_of k p

abbrev pub size_of : Position → ℕ
size_of p = nat_abs (money_of p)

abbrev has_currency : Book → Position → Bool
has_currency k p = leb (currency_of k (security_of p)) 3

code_small : (c : ℕ) → is_code c ≡ true → not (eqb c 255) ≡ true → leb c 3 ≡ true
unfolding is_code
code_small c e f = by_test (leb c 3) (λ y. y) (λ z. true_false (rw z at e) (not-true (eqb c 255) f))

module _ (k : Book) (long : length k.currency ≡ 32) (asks : MoneyAsks k) where
  listed_records : all (λ p. not (unlisted k (security_of p))) (open_of k) ≡ true
  unfolding unlisted_empty
  listed_records = (both_hold (all (λ p. not (unlisted k (security_of p))) (open_of k)) _ asks.listed).0

  has_currency_lem : (p : Position) → not (unlisted k (security_of p)) ≡ true → has_currency k p ≡ true
  unfolding unlisted currency_of codes_fit
  has_currency_lem p e =
      code_small (get_or k.currency (security_of p) 0)
      (all_at is_code k.currency (security_of p) 0 asks.codes (omega (arith, long, security_below p))) e

  have_currencies : all (has_currency k) (open_of k) ≡ true
  have_currencies = all_so (λ p. not (unlisted k (security_of p))) (has_currency k) (open_of k) has_currency_lem listed_records

  pub currency_below : (i : ℕ) (d : Position) → i < length (open_of k) → currency_of k (security_of (get_or (open_of k) i d)) < 4
  currency_below i d h = omega (arith, leb-true (currency_of k (security_of (get_or (open_of k) i d))) 3 (all_at (has_currency k) (open_of k) i d have_currencies h))

-- ── open money ──

money_small : (p : Position) → sizes_fit p ≡ true → leb (size_of p) most_mils ≡ true
unfolding sizes_fit
money_small p e =
    let q = both_hold (leb (nat_abs (quantity_of p)) most_shares) (leb (size_of p) most_mils && is_position p) e in
    (both_hold (leb (size_of p) most_mils) (is_position p) q.1).0

pub size_small : (k : Book) (i : ℕ) (d : Position) → MoneyAsks k → i < length (open_of k) → size_of (get_or (open_of k) i d) ≤ most_mils
size_small k i d asks h =
    leb-true (size_of (get_or (open_of k) i d)) most_mils (money_small (get_or (open_of k) i d) (all_at sizes_fit (open_of k) i d asks.sizes h))

same_place : (a b c d : ℕ) → b < 4 → d < 4 → eqb (a * 4 + b) (c * 4 + d) ≡ eqb a c && eqb b d
same_place a b c d h l =
    by_test (eqb a c)
    (λ e. rw e (by_test (eqb b d)
    (λ f. eq-eqb (a * 4 + b) (c * 4 + d) (omega (arith, eqb-true a c e, eqb-true b d f)) ∙ sym f)
    (λ f. ne_eqb (a * 4 + b) (c * 4 + d) (λ q. eqb-false b d f (omega arith)) ∙ sym f)))
    (λ e. rw e (ne_eqb (a * 4 + b) (c * 4 + d) (λ q. eqb-false a c e (omega arith))))

abbrev is_of : Book → ℕ → ℕ → Position → Bool
is_of k a c p = eqb (account_of p) a && eqb (currency_of k (security_of p)) c

amounts_total : (k : Book) (a c j : ℕ) (ps : List Position) → c < 4 → all (has_currency k) ps ≡ true
    → amounts_at (place_at k) size_of (a * 4 + c) j ps ≡ total (λ p. cond (is_of k a c p) (size_of p) 0) ps
unfolding amounts_at total all
amounts_total k a c j [] h e = refl
amounts_total k a c j (p ∷ ps) h e =
    let q = both_hold (has_currency k p) (all (has_currency k) ps) e in
    let here : eqb (place_at k j p) (a * 4 + c) ≡ is_of k a c p
    = same_place (account_of p) (currency_of k (security_of p)) a c (omega (arith, leb-true (currency_of k (security_of p)) 3 q.0)) h in
    rw (here, amounts_total k a c (suc j) ps h q.1)

pub open_money_lem : (k : Book) (a c : ℕ) → length k.currency ≡ 32 → MoneyAsks k → c < 4
    → amounts_at (place_at k) size_of (a * 4 + c) 0 (open_of k) ≡ open_money k (records_of a (open_of k)) c
unfolding open_money records_of
open_money_lem k a c long asks h =
    amounts_total k a c 0 (open_of k) h (have_currencies k long asks)
    ∙ sym (ap (total size_of) (keep_both (λ p. eqb (currency_of k (security_of p)) c) (λ p. eqb (account_of p) a) (open_of k))
    ∙ total_keep size_of (is_of k a c) (open_of k))

-- ── the charges ──

-- the charge at a place, with the open money there
abbrev pub stake_fits : List Amount → ℕ → Mils → Bool
stake_fits sums place m = leb (nat_abs (mils_of m) + sum_at sums place) most_at_stake

-- the sums are the open money of each account and currency
abbrev pub Sums : Book → List Amount → Type 0
Sums k sums = (a c : ℕ) → a < 64 → c < 4 → sum_at sums (a * 4 + c) ≡ open_money k (records_of a (open_of k)) c

module _ (k : Book) (sums : List Amount) (are : Sums k sums) where
  row_fits : (a : ℕ) (cs : List Mils) → a < 64 → length cs ≡ 4 → money_fits_of k (records_of a (open_of k)) cs ≡ all_from (stake_fits sums) (a * 4) cs
  unfolding money_fits_of all every_currency from all_from
  row_fits a [] h e = absurd (omega arith)
  row_fits a (m₀ ∷ []) h e = absurd (omega arith)
  row_fits a (m₀ ∷ m₁ ∷ []) h e = absurd (omega arith)
  row_fits a (m₀ ∷ m₁ ∷ m₂ ∷ []) h e = absurd (omega arith)
  row_fits a (m₀ ∷ m₁ ∷ m₂ ∷ m₃ ∷ []) h e =
      let at : (c : ℕ) → c < 4 → (x : ℕ) → x ≡ a * 4 + c → sum_at sums x ≡ open_money k (records_of a (open_of k)) c
      = λ c l x f. ap (λ (y : ℕ). sum_at sums y) f ∙ are a c h l in
      rw (
        at 0 (omega arith) (a * 4) (omega arith),
        at 1 (omega arith) (suc (a * 4)) (omega arith),
        at 2 (omega arith) (suc (suc (a * 4))) (omega arith),
        at 3 (omega arith) (suc (suc (suc (a * 4)))) (omega arith),
      )
  row_fits a (m₀ ∷ m₁ ∷ m₂ ∷ m₃ ∷ m₄ ∷ cs) h e = absurd (omega arith)

  rows_fit : (n a : ℕ) (l : List Mils) → a + n ≤ 64 → length l ≡ n * 4 → money_fits_from k a (by_account 4 n l) ≡ all_from (stake_fits sums) (a * 4) l
  unfolding money_fits_from by_account all_from
  rows_fit zero a [] h e = refl
  rows_fit zero a (m ∷ l) h e = absurd (omega arith)
  rows_fit (suc n) a l h e =
      let more : a * 4 + 4 ≡ suc a * 4 = omega arith in
      let rest : money_fits_from k (suc a) (by_account 4 n (drop 4 l)) ≡ all_from (stake_fits sums) (suc a * 4) (drop 4 l)
      = rows_fit n (suc a) (drop 4 l) (omega arith) (omega (arith, length-drop 4 l)) in
      let row : money_fits_of k (records_of a (open_of k)) (take 4 l) ≡ all_from (stake_fits sums) (a * 4) (take 4 l)
      = row_fits a (take 4 l) (omega arith) (omega (arith, length-take 4 l)) in
      rw (row, rest, ← more) (sym (from_split (stake_fits sums) (a * 4) 4 l))

  pub stakes_fit : length k.charges ≡ 256 → all_from (stake_fits sums) 0 k.charges ≡ money_fits k
  unfolding money_fits
  stakes_fit e = sym (rows_fit 64 0 k.charges (omega arith) e)
