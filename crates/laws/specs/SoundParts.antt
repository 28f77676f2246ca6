-- The clauses of a sound book by name: all of them from `sound`, and `sound` from all of them. What those on the day, the codes and the sizes say, and what the
-- one on money at stake reads.
use Rattle.std.specs.Prelude.{◌≡◌, Bool, true, false, ◌&&◌, ℕ, suc, ◌<◌, ◌≤◌, eqb, leb, nat_abs}
use Rattle.std.proofs.Math.Path.{refl, ap}
use Rattle.std.proofs.Common.{ap₂, ◌∙◌, arith, leb-true}
use mathlib.Core.List.{List, [], ◌∷◌}
use Rattle.units.specs.Units.{most_shares}
use Rattle.units.specs.declared.Mils.{Mils}
use Rattle.rules.specs.Words.{all, keep}
use Rattle.rules.specs.Bounds.{accounts, currencies, last_day, last_currency, no_currency}
use Rattle.rules.specs.Book.{quantity_of, open_of, currency_of}
use Rattle.rules.specs.Sound.{day_fits, is_code, codes_fit, records_fit, sizes_fit, due_fits, is_due, due_nonzero, one_sign, due_balanced, by_account, holdings_fit, unlisted_empty, open_money, money_fits_of, money_fits_from, records_of, money_fits, trades_fit, sound}
use Rattle.rules.specs.declared.Position.{Position}
use Rattle.rules.specs.declared.Book.{Book}
use Rattle.laws.specs.Cases.{by_test, true_false, both_hold, and_hold}

pub record SoundBook (k : Book) : Type 0 where
  pub day : day_fits k ≡ true
  pub codes : codes_fit k ≡ true
  pub records : records_fit k ≡ true
  pub sizes : all sizes_fit (open_of k) ≡ true
  pub due_days : all (due_fits k.day) (open_of k) ≡ true
  pub due_nonzero_lem : all (due_nonzero k.day) (open_of k) ≡ true
  pub signs : one_sign (keep (is_due k.day) (open_of k)) ≡ true
  pub balances : due_balanced k ≡ true
  pub holdings : holdings_fit k ≡ true
  pub listed : unlisted_empty k ≡ true
  pub money : money_fits k ≡ true
  pub trades : trades_fit k ≡ true

pub sound_parts : (k : Book) → sound k ≡ true → SoundBook k
unfolding sound
sound_parts k e =
    let c₁ = both_hold (day_fits k) _ e in
    let c₂ = both_hold (codes_fit k) _ c₁.1 in
    let c₃ = both_hold (records_fit k) _ c₂.1 in
    let c₄ = both_hold (all sizes_fit (open_of k)) _ c₃.1 in
    let c₅ = both_hold (all (due_fits k.day) (open_of k)) _ c₄.1 in
    let c₆ = both_hold (all (due_nonzero k.day) (open_of k)) _ c₅.1 in
    let c₇ = both_hold (one_sign (keep (is_due k.day) (open_of k))) _ c₆.1 in
    let c₈ = both_hold (due_balanced k) _ c₇.1 in
    let c₉ = both_hold (holdings_fit k) _ c₈.1 in
    let c₁₀ = both_hold (unlisted_empty k) _ c₉.1 in
    let c₁₁ = both_hold (money_fits k) _ c₁₀.1 in
    record {
      day = c₁.0;
      codes = c₂.0;
      records = c₃.0;
      sizes = c₄.0;
      due_days = c₅.0;
      due_nonzero_lem = c₆.0;
      signs = c₇.0;
      balances = c₈.0;
      holdings = c₉.0;
      listed = c₁₀.0;
      money = c₁₁.0;
      trades = c₁₁.1;
    }

pub parts_sound : (k : Book) → SoundBook k → sound k ≡ true
unfolding sound
parts_sound k c =
    and_hold c.day
    (and_hold c.codes
    (and_hold c.records
    (and_hold c.sizes
    (and_hold c.due_days
    (and_hold c.due_nonzero_lem
    (and_hold c.signs
    (and_hold c.balances
    (and_hold c.holdings
    (and_hold c.listed
    (and_hold c.money c.trades))))))))))

-- ── the day, a currency code, a quantity ──

pub day_small : (k : Book) → sound k ≡ true → k.day ≤ last_day
unfolding day_fits
day_small k ok = leb-true k.day last_day (sound_parts k ok).day

pub code_below : (c : ℕ) → is_code c ≡ true → eqb c no_currency ≡ false → c < currencies
unfolding is_code
code_below c e f = omega (arith, leb-true c last_currency (by_test (leb c last_currency) (λ t. t) (λ t. true_false (rw (t, f) at e) refl)))

pub shares_fit : (p : Position) → sizes_fit p ≡ true → nat_abs (quantity_of p) ≤ most_shares
unfolding sizes_fit
shares_fit p e = leb-true (nat_abs (quantity_of p)) most_shares (both_hold (leb (nat_abs (quantity_of p)) most_shares) _ e).0

-- ── the money at stake reads currencies, open positions and charges ──

module _ (k m : Book) (same : k.currency ≡ m.currency) (opened : open_of k ≡ open_of m) where
  money_of_lem : (ps : List Position) (cs : List Mils) → money_fits_of k ps cs ≡ money_fits_of m ps cs
  unfolding money_fits_of open_money currency_of
  money_of_lem ps cs = rw same

  money_from : (a : ℕ) (css : List (List Mils)) → money_fits_from k a css ≡ money_fits_from m a css
  unfolding money_fits_from
  money_from a [] = refl
  money_from a (cs ∷ css) = rw opened (ap₂ (λ (x y : Bool). x && y) (money_of_lem (records_of a (open_of m)) cs) (money_from (suc a) css))

  pub money_same : k.charges ≡ m.charges → money_fits m ≡ true → money_fits k ≡ true
  unfolding money_fits
  money_same e h =
      money_from 0 (by_account currencies accounts k.charges) ∙ ap (λ (cs : List Mils). money_fits_from m 0 (by_account currencies accounts cs)) e ∙ h
