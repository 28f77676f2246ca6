-- The price question: what is known of two tables of the right length, and of a question that is not refused.
use Rattle.std.specs.Prelude.{◌≡◌, Bool, true, false, ◌||◌, List, [], ℕ, ◌+◌, ◌*◌, ◌-◌, ◌<◌, ◌≤◌, length, take, drop}
use Rattle.std.proofs.Math.Path.{sym, ap}
use Rattle.std.proofs.Common.{◌∙◌}
use native.Mathlib.Omega.{arith}
use borrow.Author.Tests.{eq-eqb, ne_eqb, eqb-true, not-false, ltb-false}
use Rattle.units.specs.Units.{top_price}
use Rattle.rules.specs.Words.{above}
use Rattle.rules.specs.Bounds.{last_security, every_security}
use Rattle.rules.specs.Refusals.{number_of}
use Rattle.rules.specs.declared.Refusal.{Refusal}
use Rattle.rules.specs.Trades.{no_security}
use Rattle.rules.specs.Prices.{entry_of, wrong_table, entry_above, from_closing, table_used, price_of, price_tests, price_answer, price_part, Spot, entry_spot, price_spot}
use Rattle.laws.specs.Cases.{by_test, neither, cond_no}
use Rattle.laws.specs.Accepted.{passed}
use Rattle.laws.specs.All.{securities_length, security_at}
use Rattle.marking_prices.specs.Looking.{fails_at}

-- an entry above 9,999,999
abbrev pub high_at : List ℕ → ℕ → Bool
high_at table s = above top_price (entry_of table s)

-- ── two tables of 32 entries ──

pub record Tables (intraday closing : List ℕ) : Type 0 where
  pub first : length intraday ≡ 128
  pub second : length closing ≡ 128

table_length : (table : List ℕ) → wrong_table table ≡ false → length table ≡ 128
unfolding wrong_table
table_length table e = eqb-true (length table) 128 (not-false _ e)

pub wrong_length : (table : List ℕ) → (length table ≡ 128 → ⊥) → wrong_table table ≡ true
unfolding wrong_table
wrong_length table h = rw (ne_eqb (length table) 128 h)

pub tables_right : (a b : List ℕ) → wrong_table a || wrong_table b ≡ false → Tables a b
tables_right a b e =
    let n = neither (wrong_table a) (wrong_table b) e in
    record { first = table_length a n.0; second = table_length b n.1 }

-- ── the table used ──

module _ (a b : List ℕ) (s : ℕ) where
  pub from_intraday : (entry_of a s ≡ 0 → ⊥) → table_used a b s ≡ a
  unfolding table_used from_closing
  from_intraday h = rw (ne_eqb (entry_of a s) 0 h)

  pub from_closing_lem : entry_of a s ≡ 0 → table_used a b s ≡ b
  unfolding table_used from_closing
  from_closing_lem e = rw (eq-eqb (entry_of a s) 0 e)

  pub price_intraday : (entry_of a s ≡ 0 → ⊥) → entry_of a s ≡ price_of a b s
  unfolding price_of
  price_intraday h = rw (from_intraday h)

  pub price_closing : entry_of a s ≡ 0 → entry_of b s ≡ price_of a b s
  unfolding price_of
  price_closing e = rw (from_closing_lem e)

  -- ── a question that is not refused ──

  pub record Asked : Type 0 where
    pub tables : Tables a b
    pub security : s < 32

  pub asked : price_answer a b s ≡ 0 → Asked
  unfolding price_answer price_tests no_security
  asked e =
      let p = passed (wrong_table a || wrong_table b) 17 _ e in
      let q = passed (above last_security s) 2 _ p.1 in
      record { tables = tables_right a b p.0; security = omega (arith, ltb-false last_security s q.0) }

  -- ── the part, and where it stands ──

  pub part_none : (price_answer a b s ≡ 0 → ⊥) → [] ≡ price_part a b s
  unfolding price_part
  part_none h = rw (ne_eqb (price_answer a b s) 0 h)

  part_of : (t : List ℕ) → price_answer a b s ≡ 0 → table_used a b s ≡ t → take (s * 4 + 4 - s * 4) (drop (s * 4) t) ≡ price_part a b s
  unfolding price_part
  part_of t z e = let f : s * 4 + 4 - s * 4 ≡ 4 = omega arith in rw (f, eq-eqb (price_answer a b s) 0 z, e)

  pub part_intraday : price_answer a b s ≡ 0 → (entry_of a s ≡ 0 → ⊥) → take (s * 4 + 4 - s * 4) (drop (s * 4) a) ≡ price_part a b s
  part_intraday z h = part_of a z (from_intraday h)

  pub part_closing : price_answer a b s ≡ 0 → entry_of a s ≡ 0 → take (s * 4 + 4 - s * 4) (drop (s * 4) b) ≡ price_part a b s
  part_closing z e = part_of b z (from_closing_lem e)

module _ (a b : List ℕ) (s : ℕ) (p q : Spot) where
  pub spot_none : (price_answer a b s ≡ 0 → ⊥) → (p.0, 0 + p.1) ≡ price_spot a b s p q
  unfolding price_spot
  spot_none h = ap (λ (x : ℕ). (p.0, x)) (omega arith) ∙ sym (cond_no (entry_spot a s p q) p (ne_eqb (price_answer a b s) 0 h))

  pub spot_intraday : price_answer a b s ≡ 0 → (entry_of a s ≡ 0 → ⊥) → (p.0, s * 4 + p.1) ≡ price_spot a b s p q
  unfolding price_spot entry_spot from_closing
  spot_intraday z h = rw (eq-eqb (price_answer a b s) 0 z, ne_eqb (entry_of a s) 0 h)

  pub spot_closing : price_answer a b s ≡ 0 → entry_of a s ≡ 0 → (q.0, s * 4 + q.1) ≡ price_spot a b s p q
  unfolding price_spot entry_spot from_closing
  spot_closing z e = rw (eq-eqb (price_answer a b s) 0 z, eq-eqb (entry_of a s) 0 e)

-- ── two tables with no entry too high ──

pub record Fair (intraday closing : List ℕ) : Type 0 where
  pub tables : Tables intraday closing
  pub first : entry_above intraday ≡ false
  pub second : entry_above closing ≡ false

not_high : (table : List ℕ) (s : ℕ) → entry_above table ≡ false → s < 32 → entry_of table s ≤ top_price
unfolding entry_above
not_high table s e h =
    ltb-false top_price (entry_of table s)
    (sym (ap (high_at table) (security_at s h)) ∙ fails_at (high_at table) every_security s 0 e (omega (arith, securities_length)))

pub price_within : (a b : List ℕ) (s : ℕ) → Fair a b → s < 32 → price_of a b s ≤ top_price
unfolding price_of table_used
price_within a b s f h =
    by_test (from_closing a s)
    (λ y. rw y (not_high b s f.second h))
    (λ n. rw n (not_high a s f.first h))
