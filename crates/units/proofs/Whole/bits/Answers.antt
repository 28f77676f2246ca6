-- `units::Whole::bits` meets its contract: the library's two's complement is `bits_of`. Assumes nothing.
use Rattle.std.proofs.Common.{◌≡◌, refl, ap, ◌∙◌, ℤ, pos, negsuc, rules, w64, SFits, of_z, to_z-of_z}
use Rattle.integers.specs.Bits.{bits_of}
use Rattle.units.proofs.Whole.bits.Goals as goal

complement : (x : ℤ) → of_z w64 x ≡ bits_of x
unfolding bits_of
complement (pos n) = refl
complement (negsuc n) = refl

pub returns : goal.returns
returns c =
    let fits : SFits w64 c.args.self.0 = search rules in
    c.cast_unsigned.ensures ∙ ap (of_z w64) (to_z-of_z fits) ∙ complement c.args.self.0
