-- The records of a call file from place to place: what the definition over the bytes says at a place of the file.
use Rattle.std.specs.Prelude.{◌≡◌, refl, List, [], ◌∷◌, ℕ, zero, suc, ◌+◌, drop}
use Rattle.std.proofs.Common.{sym, ap, ◌∙◌, add-zero, arith}
use Rattle.rules.specs.CallFile.{records_from}

-- skipping the bytes of the record before is reading from the place behind them
pub records_skip : (skip place : ℕ) (bs : List ℕ) → records_from skip place bs ≡ records_from 0 (place + skip) (drop skip bs)
unfolding records_from
records_skip zero place bs = ap (λ (p : ℕ). records_from 0 p bs) (sym (add-zero place))
records_skip (suc skip) place [] = refl
records_skip (suc skip) place (b ∷ bs) =
    records_skip skip (suc place) bs ∙ ap (λ (p : ℕ). records_from 0 p (drop skip bs)) (omega arith)
