-- `parts::taking::rest_of` meets its contract. Assumes nothing.
use Rattle.std.proofs.Common.{◌≡◌, ap, ◌∙◌, ℕ, ℤ, ◌-ℤ◌}
use Rattle.integers.specs.Signs.{toward_zero}
use Rattle.units.specs.Units.{shares_of, mils_of, shares, mils}
use Rattle.units.specs.declared.Shares.{Shares}
use Rattle.units.specs.declared.Mils.{Mils}
use Rattle.rules.specs.Book.{quantity_of, money_of}
use Rattle.rules.specs.Parts.{part_money, without}
use Rattle.rules.specs.declared.Position.{Position}
use Rattle.parts.proofs.taking.rest_of.Goals as goal

-- a record of the same number, by its quantity and its money
rest_is : (p : Position) (k : ℕ) (q : Shares) (m : Mils) → shares_of q ≡ toward_zero (quantity_of p) k → mils_of m ≡ money_of p -ℤ part_money p k
    → ◌≡◌ {A = Position} (record { number = p.number; quantity = q; money = m }) (without p k)
unfolding without
rest_is p k q m eq em = λ i. record { number = p.number; quantity = shares (eq i); money = mils (em i) }

pub returns : goal.returns
returns c = rest_is c.args.p _ _ _ c.toward_zero.ensures.0 (c.minus.ensures.0 ∙ ap (λ (z : ℤ). money_of c.args.p -ℤ z) c.part_of.ensures.0)
