-- The part that the price question answers with, as a number: four bytes, or none, which count 0.
use Rattle.std.specs.Prelude.{◌≡◌, List, ℕ, ◌*◌, ◌<◌, length, take, drop}
use Rattle.std.proofs.Math.Path.{ap}
use Rattle.std.proofs.Common.{arith, length-drop, length-take-le, eq-eqb}
use Rattle.fields.specs.Field.{field}
use Rattle.laws.specs.Cases.{by_test}
use Rattle.rules.specs.Prices.{from_closing, table_used, price_answer, price_part}
use Rattle.marking_prices.specs.Pricing.{asked, part_none}

entry_length : (t : List ℕ) (s : ℕ) → length t ≡ 128 → s < 32 → length (take 4 (drop (s * 4) t)) ≡ 4
entry_length t s l h = length-take-le 4 (drop (s * 4) t) (omega (arith, length-drop (s * 4) t))

module _ (a b : List ℕ) (s : ℕ) where
  pub part_length : price_answer a b s ≡ 0 → length (price_part a b s) ≡ 4
  unfolding price_part table_used
  part_length e =
      let k = asked a b s e in
      rw (eq-eqb (price_answer a b s) 0 e)
      (by_test (from_closing a s) (λ y. rw y (entry_length b s k.tables.second k.security))
      (λ n. rw n (entry_length a s k.tables.first k.security)))

  pub no_part : (price_answer a b s ≡ 0 → ⊥) → 0 ≡ field 4 0 (price_part a b s)
  unfolding field
  no_part h = ap (field 4 0) (part_none a b s h)
