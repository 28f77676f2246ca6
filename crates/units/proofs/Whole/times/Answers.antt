-- `units::Whole::times` meets its contract: the product of the bounds is far below 2^63. Assumes nothing.
use Rattle.std.proofs.Common.{◌≡◌, refl, ◌∙◌, ◌*ℤ◌, pos, nat_abs, ◌≤◌, mul-le-mul, rules, lit<, w64, SFits, to_z, of_z, to_z-of_z}
use Rattle.std.proofs.lemmas.Int.{fits_signed_mul, unsigned_abs-mul}
use Rattle.units.specs.Units.{most_shares, top_price, most_amount}
use Rattle.units.proofs.Whole.times.Goals as goal

pub returns : goal.returns
returns c =
    let a = c.args.self.0 in
    let p = c.args.price in
    let h = c.requires in
    let fits : SFits w64 a = search rules in
    let small : SFits w64 c.from-p.result = search rules in
    let wide : to_z w64 (of_z w64 c.from-p.result) ≡ pos p = to_z-of_z small ∙ c.from-p.ensures in
    let product = fits_signed_mul w64 a (pos p) most_shares top_price h.0 h.1 (lit< tt) in
    let bound : nat_abs (a *ℤ pos p) ≤ most_amount = rw unsigned_abs-mul (mul-le-mul h.0 h.1) in
    simp (to_z-of_z fits, wide, to_z-of_z product) (refl, bound)
