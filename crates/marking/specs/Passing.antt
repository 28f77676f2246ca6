-- The tests of marks: what is known of the terms when 2, 18, 5 and 15 are passed, and how 17 and 16 follow them.
use Rattle.std.specs.Prelude.{◌≡◌, refl, Bool, true, false, not, cond, ◌||◌, List, [], ◌∷◌, ℕ, ◌≤◌, eqb, ltb, length, get_or}
use Rattle.std.proofs.Common.{sym, ap, ◌∙◌, arith, eq-eqb, ne_eqb, eqb-true, ltb-false}
use Rattle.std.proofs.lemmas.Bool.{not-false}
use Rattle.units.specs.Units.{top_rate, whole_haircut}
use Rattle.rules.specs.Words.{any, above, outside, Test, first}
use Rattle.rules.specs.Bounds.{last_account}
use Rattle.rules.specs.Trades.{no_account}
use Rattle.rules.specs.Prices.{wrong_table, entry_above}
use Rattle.rules.specs.Marks.{Terms, terms, rate_of, haircut_of, wrong_terms, bad_rates}
use Rattle.laws.specs.Cases.{or_left, or_right, neither}
use Rattle.laws.specs.Accepted.{passed}
use Rattle.marking_prices.specs.Looking.{fails_at}
use Rattle.marking_prices.specs.Pricing.{Tables, tables_right, Fair}
use Rattle.marking.specs.SoundMarks.{terms_tests}
use Rattle.marking_sums.specs.Converting.{Rates}

-- the test of rates and haircuts looks at no price
abbrev pub rated : List ℕ → List ℕ → Terms
rated rates haircuts = terms [] [] rates haircuts

pub bad_rated : (t : Terms) → bad_rates (rated t.rates t.haircuts) ≡ bad_rates t
unfolding bad_rates rate_of haircut_of
bad_rated t = refl

-- ── lengths ──

four : (l : List ℕ) → not (eqb (length l) 4) ≡ false → length l ≡ 4
four l e = eqb-true (length l) 4 (not-false _ e)

-- one of the two others has not
module _ (t : Terms) where
  pub wrong_rates : (length t.rates ≡ 4 → ⊥) → wrong_terms t ≡ true
  unfolding wrong_terms
  wrong_rates h = or_right (wrong_table t.intraday) (or_right (wrong_table t.closing) (or_left _ (ap not (ne_eqb (length t.rates) 4 h))))

  pub wrong_haircuts : (length t.haircuts ≡ 4 → ⊥) → wrong_terms t ≡ true
  unfolding wrong_terms
  wrong_haircuts h =
      or_right (wrong_table t.intraday) (or_right (wrong_table t.closing) (or_right (not (eqb (length t.rates) 4)) (ap not (ne_eqb (length t.haircuts) 4 h))))

record Lengths (t : Terms) : Type 0 where
  pub tables : Tables t.intraday t.closing
  pub rates : length t.rates ≡ 4
  pub haircuts : length t.haircuts ≡ 4

lengths_right : (t : Terms) → wrong_terms t ≡ false → Lengths t
unfolding wrong_terms
lengths_right t e =
    let a = neither (wrong_table t.intraday) _ e in
    let b = neither (wrong_table t.closing) _ a.1 in
    let c = neither (not (eqb (length t.rates) 4)) _ b.1 in
    record { tables = tables_right t.intraday t.closing (rw a.0 b.0); rates = four t.rates c.0; haircuts = four t.haircuts c.1 }

-- ── rates ──

fine_rates : (t : Terms) → Lengths t → bad_rates t ≡ false → Rates t.rates t.haircuts
unfolding bad_rates
fine_rates t w e =
    let a = neither (any (outside 1 top_rate) t.rates) _ e in
    let b = neither (any (above whole_haircut) t.haircuts) _ a.1 in
    record {
      rates_long = w.rates;
      haircuts_long = w.haircuts;
      each = λ c h.
          let r = neither (ltb (get_or t.rates c 0) 1) (ltb top_rate (get_or t.rates c 0)) (fails_at (outside 1 top_rate) t.rates c 0 a.0 (omega (arith, w.rates))) in
          let s = fails_at (above whole_haircut) t.haircuts c 0 b.0 (omega (arith, w.haircuts)) in
          record { rate = ltb-false top_rate (get_or t.rates c 0) r.1; haircut = ltb-false whole_haircut (get_or t.haircuts c 0) s };
    }

-- ── 2, 18, 5 and 15 passed ──

pub record Passed (a : ℕ) (t : Terms) : Type 0 where
  pub account : a ≤ last_account
  pub fair : Fair t.intraday t.closing
  pub rates : Rates t.rates t.haircuts

pub all_passed : (a : ℕ) (t : Terms) → first (terms_tests a t []) ≡ 0 → Passed a t
unfolding terms_tests no_account
all_passed a t e =
    let p = passed (above last_account a) 1 _ e in
    let q = passed (wrong_terms t) 17 _ p.1 in
    let r = passed (entry_above t.intraday || entry_above t.closing) 4 _ q.1 in
    let s = passed (bad_rates t) 14 [] r.1 in
    let w = lengths_right t q.0 in
    let n = neither (entry_above t.intraday) (entry_above t.closing) r.0 in
    record {
      account = ltb-false last_account a p.0;
      fair = record { tables = w.tables; first = n.0; second = n.1 };
      rates = fine_rates t w s.0;
    }

-- the same terms, told otherwise
pub same_fine : (a : ℕ) (t u : Terms) → t ≡ u → 0 ≡ first (terms_tests a u []) → first (terms_tests a t []) ≡ 0
same_fine a t u e f = ap (λ (x : Terms). first (terms_tests a x [])) e ∙ sym f

-- ── the tests behind them ──

four_tests : (a b c d : Bool) → List Test → List Test
four_tests a b c d rest = (a, 2) ∷ (b, 18) ∷ (c, 5) ∷ (d, 15) ∷ rest

four_first : (a b c d : Bool) (rest : List Test)
    → first (four_tests a b c d rest) ≡ cond (eqb (first (four_tests a b c d [])) 0) (first rest) (first (four_tests a b c d []))
unfolding first four_tests
four_first true b c d rest = refl
four_first false true c d rest = refl
four_first false false true d rest = refl
four_first false false false true rest = refl
four_first false false false false rest = refl

module _ (a : ℕ) (t : Terms) (rest : List Test) where
  terms_first : first (terms_tests a t rest) ≡ cond (eqb (first (terms_tests a t [])) 0) (first rest) (first (terms_tests a t []))
  unfolding terms_tests four_tests
  terms_first = four_first (no_account a) (wrong_terms t) (entry_above t.intraday || entry_above t.closing) (bad_rates t) rest

  -- a fault of the terms is the answer; without one it is the answer of the other tests
  pub fault_first : (n : ℕ) → n ≡ first (terms_tests a t []) → (n ≡ 0 → ⊥) → first (terms_tests a t rest) ≡ n
  fault_first n e h = terms_first ∙ rw (← e, ne_eqb n 0 h)

  pub fine_first : first (terms_tests a t []) ≡ 0 → first (terms_tests a t rest) ≡ first rest
  fine_first z = terms_first ∙ rw (eq-eqb (first (terms_tests a t [])) 0 z)
