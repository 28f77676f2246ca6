-- Shares and money as integers, and the bounds that document 01 gives them ("A sound book", refusals 5 and 15).
use Rattle.std.specs.Prelude.{ℕ, ◌*◌, ℤ}
use Rattle.units.specs.declared.Shares.{Shares}
use Rattle.units.specs.declared.Mils.{Mils}

-- what a number of shares and an amount of money are, as integers
abbrev pub shares_of : Shares → ℤ
shares_of q = q.0.0

abbrev pub mils_of : Mils → ℤ
mils_of m = m.0.0

-- and an integer as shares and as money
abbrev pub shares : ℤ → Shares
shares z = record { 0 = record { 0 = z } }

abbrev pub mils : ℤ → Mils
mils z = record { 0 = record { 0 = z } }

-- the most shares and the most money of a record, the highest price, and so the largest product of the two
abbrev pub most_shares : ℕ
most_shares = 256000000

abbrev pub most_mils : ℕ
most_mils = 2560000000000000

abbrev pub top_price : ℕ
top_price = 9999999

abbrev pub most_amount : ℕ
most_amount = most_shares * top_price

-- the highest rate in millionths of the base, and the whole haircut in basis points
abbrev pub top_rate : ℕ
top_rate = 100000000

abbrev pub whole_haircut : ℕ
whole_haircut = 10000
