-- `units::Whole::from_bits` meets its contract: what the library takes 64 bits for is `value_of`. Assumes nothing.
use Rattle.std.proofs.Common.{◌≡◌, refl, ◌∙◌, ℕ, ◌^◌, true, false, ltb, rules, w64, SFits, to_z, to_z-of_z}
use Rattle.integers.specs.Bits.{value_of}
use Rattle.units.proofs.Whole.from_bits.Goals as goal

complement : (b : ℕ) → to_z w64 b ≡ value_of b
unfolding value_of
complement b = elim (ltb b (2 ^ 63)) [ true ↦ refl | false ↦ refl ]

pub returns : goal.returns
returns c =
    let fits : SFits w64 c.cast_signed.result = search rules in
    to_z-of_z fits ∙ c.cast_signed.ensures ∙ complement c.args.b
