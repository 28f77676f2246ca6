-- The parts and the conversions of document 01's table "Figures to be proved", by computation. They join the nets and the marks in the
-- one table of rules/specs/Figures.
use Rattle.std.specs.Prelude.{◌≡◌, refl, List, [], ◌∷◌, map, ℤ, pos, neg_ℤ}
use Rattle.units_rounded.specs.Part.{part_of}
use Rattle.units_rounded.specs.Conversion.{favourable_of, unfavourable_of}

-- what the rules give, and what the table says
abbrev pub Figure : Type 0
Figure = ℤ × ℤ

-- parts: money, shares of the position, shares of the part
abbrev pub parts : List Figure
parts =
    (part_of (pos 1_000) (pos 3) 1, pos 333) ∷
    (part_of (pos 1_000) (pos 3) 2, pos 666) ∷
    (part_of (pos 1_000) (pos 3) 3, pos 1_000) ∷
    (part_of (neg_ℤ (pos 1_000)) (pos 3) 1, neg_ℤ (pos 333)) ∷
    (part_of (pos 6_260_000) (pos 600) 250, pos 2_608_333) ∷
    (part_of (pos 3_675_000) (pos 350) 200, pos 2_100_000) ∷
    (part_of (neg_ℤ (pos 3_651_667)) (pos 350) 200, neg_ℤ (pos 2_086_666)) ∷
    []

-- conversion, rate 1,080,000, haircut 100
abbrev pub conversions : List Figure
conversions =
    (pos (unfavourable_of (neg_ℤ (pos 190_000)) 1_080_000 100), pos 207_252) ∷
    (pos (favourable_of (pos 190_000) 1_080_000 100), pos 203_148) ∷
    (pos (unfavourable_of (neg_ℤ (pos 1)) 1_080_000 100), pos 2) ∷
    (pos (favourable_of (pos 1) 1_080_000 100), pos 1) ∷
    []

parts_hold : map (λ (f : Figure). f.0) parts ≡ map (λ (f : Figure). f.1) parts
unfolding part_of
parts_hold = refl

conversions_hold : map (λ (f : Figure). f.0) conversions ≡ map (λ (f : Figure). f.1) conversions
unfolding favourable_of unfavourable_of
conversions_hold = refl
