-- Figures to be proved, as one table (document 01, the section of that name).
use Rattle.std.specs.Prelude.{◌≡◌, refl, List, [], ◌∷◌, ◌++◌, map, pos, neg_ℤ}
use Rattle.units_rounded.specs.Figures.{Figure, parts, conversions}
use Rattle.rules.specs.Book.{quantity_of, money_of}
use Rattle.rules.specs.Nets.{net_of}
use Rattle.rules.specs.Marks.{mark_of}
use Rattle.rules.specs.Opened.{everything}
use Rattle.rules.specs.declared.Trade.{Trade}

-- bought 100 at 10,000 and sold 100 at 11,000, by account 1
abbrev bought_and_sold : List Trade
bought_and_sold =
    record { number = 1; buyer = 1; seller = 2; security = 0; quantity = 100; price = record { 0 = 10_000 } } ∷
    record { number = 2; buyer = 2; seller = 1; security = 0; quantity = 100; price = record { 0 = 11_000 } } ∷
    []

-- nets: 0 shares, -100000
abbrev nets : List Figure
nets =
    (quantity_of (net_of 2 bought_and_sold 1 0), pos 0) ∷
    (money_of (net_of 2 bought_and_sold 1 0), neg_ℤ (pos 100_000)) ∷
    []

-- marks: 350 at 9,900 with money 3675000
abbrev marks : List Figure
marks = (mark_of (pos 350) 9_900 (pos 3_675_000), neg_ℤ (pos 210_000)) ∷ []

abbrev table : List Figure
table = parts ++ nets ++ marks ++ conversions

figures : map (λ (f : Figure). f.0) table ≡ map (λ (f : Figure). f.1) table
unfolding everything
figures = refl
