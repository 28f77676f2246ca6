-- The money at stake by account and currency: the clause of a sound book says of each pair that its charge and open money are within the bound.
use Rattle.std.specs.Prelude.{◌≡◌, refl, List, [], ◌∷◌, ℕ, zero, suc, ◌+◌, ◌<◌, ◌≤◌, leb, ltb, length, get_or, pos}
use Rattle.std.proofs.Math.Path.{ap}
use Rattle.std.proofs.Common.{◌∙◌, suc-le-suc, zero-le, le_of_suc-le-suc, leb-true, le-leb, ltb-true}
use Rattle.std.proofs.Math.Bool.{true}
use native.Mathlib.Omega.{arith}
use Rattle.std.proofs.Math.IntN.{nat_abs}
use Rattle.units.specs.Units.{mils_of, mils}
use Rattle.units.specs.declared.Mils.{Mils}
use Rattle.rules.specs.Bounds.{accounts, currencies, every_currency, most_at_stake}
use Rattle.rules.specs.Book.{open_of, charge_at}
use Rattle.rules.specs.Sound.{by_account, records_of, open_money, money_fits_of, money_fits_from, money_fits}
use Rattle.rules.specs.declared.Position.{Position}
use Rattle.rules.specs.declared.Book.{Book}
use Rattle.laws.specs.Cases.{both_hold, and_hold}
use Rattle.laws.specs.All.{all_so, currencies_below}
use Rattle.laws.specs.Tables.{group, groups_length, groups_at}
use Rattle.laws.specs.Charging.{amount_at, charge_in}
use Rattle.laws.specs.Deliveries.{all_from}

-- the size of an account's charge plus the sizes of its open money, in a currency
abbrev pub stake : Book → ℕ → ℕ → ℕ
stake k a c = nat_abs (charge_in k.charges a c) + open_money k (records_of a (open_of k)) c

-- ── account by account ──

from_fits : (k : Book) (a : ℕ) (css : List (List Mils)) (i : ℕ) → money_fits_from k a css ≡ true → i < length css
    → money_fits_of k (records_of (a + i) (open_of k)) (get_or css i []) ≡ true
unfolding money_fits_from
from_fits k a [] i e h = absurd (omega arith)
from_fits k a (cs ∷ css) zero e h =
    let p = both_hold (money_fits_of k (records_of a (open_of k)) cs) (money_fits_from k (suc a) css) e in
    ap (λ (j : ℕ). money_fits_of k (records_of j (open_of k)) cs) (omega arith) ∙ p.0
from_fits k a (cs ∷ css) (suc i) e h =
    let p = both_hold (money_fits_of k (records_of a (open_of k)) cs) (money_fits_from k (suc a) css) e in
    ap (λ (j : ℕ). money_fits_of k (records_of j (open_of k)) (get_or css i [])) (omega arith) ∙ from_fits k (suc a) css i p.1 (le_of_suc-le-suc h)

fits_from : (k : Book) (a : ℕ) (css : List (List Mils))
    → ((i : ℕ) → i < length css → money_fits_of k (records_of (a + i) (open_of k)) (get_or css i []) ≡ true) → money_fits_from k a css ≡ true
unfolding money_fits_from
fits_from k a [] h = refl
fits_from k a (cs ∷ css) h =
    and_hold (ap (λ (j : ℕ). money_fits_of k (records_of j (open_of k)) cs) (omega arith) ∙ h zero (suc-le-suc zero-le))
    (fits_from k (suc a) css
    (λ i l. ap (λ (j : ℕ). money_fits_of k (records_of j (open_of k)) (get_or css i [])) (omega arith) ∙ h (suc i) (suc-le-suc l)))

-- ── currency by currency ──

of_fits : (k : Book) (ps : List Position) (cs : List Mils) (c : ℕ) → money_fits_of k ps cs ≡ true → c < currencies
    → nat_abs (amount_at cs c) + open_money k ps c ≤ most_at_stake
unfolding money_fits_of every_currency
of_fits k ps cs c e h =
    leb-true (nat_abs (amount_at cs c) + open_money k ps c) most_at_stake
    (all_from (λ c. leb (nat_abs (amount_at cs c) + open_money k ps c) most_at_stake) 0 currencies c e (omega arith) (omega arith))

fits_of : (k : Book) (ps : List Position) (cs : List Mils) → ((c : ℕ) → c < currencies → nat_abs (amount_at cs c) + open_money k ps c ≤ most_at_stake)
    → money_fits_of k ps cs ≡ true
unfolding money_fits_of
fits_of k ps cs h =
    all_so (λ c. ltb c currencies) (λ c. leb (nat_abs (amount_at cs c) + open_money k ps c) most_at_stake) every_currency
    (λ c e. le-leb (nat_abs (amount_at cs c) + open_money k ps c) most_at_stake (h c (ltb-true c currencies e)))
    currencies_below

-- ── both ──

module _ (k : Book) where
  abbrev rows : List (List Mils)
  rows = by_account currencies accounts k.charges

  row_amount : (a c : ℕ) → a < accounts → c < currencies → amount_at (group currencies accounts k.charges a) c ≡ charge_in k.charges a c
  unfolding charge_at
  row_amount a c ha hc = ap mils_of (groups_at currencies accounts k.charges a c (mils (pos 0)) ha hc)

  pub stake_within : money_fits k ≡ true → (a c : ℕ) → a < accounts → c < currencies → stake k a c ≤ most_at_stake
  unfolding money_fits
  stake_within e a c ha hc =
      let f = from_fits k 0 rows a e (omega (arith, groups_length currencies accounts k.charges)) in
      let g : money_fits_of k (records_of a (open_of k)) (get_or rows a []) ≡ true = ap (λ (j : ℕ). money_fits_of k (records_of j (open_of k)) (get_or rows a [])) (omega arith) ∙ f in
      omega (arith, of_fits k (records_of a (open_of k)) (get_or rows a []) c g hc, ap nat_abs (row_amount a c ha hc))

  pub within_stake : ((a c : ℕ) → a < accounts → c < currencies → stake k a c ≤ most_at_stake) → money_fits k ≡ true
  unfolding money_fits
  within_stake h =
      fits_from k 0 rows
      (λ a l. let ha : a < accounts = omega (arith, groups_length currencies accounts k.charges) in
      fits_of k (records_of (0 + a) (open_of k)) (get_or rows a [])
      (λ c hc. omega (arith, h a c ha hc, ap nat_abs (row_amount a c ha hc), ap (λ (j : ℕ). open_money k (records_of j (open_of k)) c) (zero_plus a))))
    where
      zero_plus : (a : ℕ) → 0 + a ≡ a
      zero_plus a = omega arith
