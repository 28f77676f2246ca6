-- What a sum of marks counts in the base currency (document 01, "Marks"), with rate r in millionths of the base and
-- haircut h in basis points: a favourable sum counts sum*r*(10,000-h)/10^10 rounded down, an unfavourable one
-- |sum|*r*(10,000+h)/10^10 rounded up.
use Rattle.std.specs.Prelude.{ℕ, suc, ◌+◌, ◌*◌, ◌-◌, ℤ, pos, negsuc}
use Rattle.exact.specs.Rounding.{round_down, round_up}

-- above zero favourable, below unfavourable
unfoldable pub favourable_of : ℤ → ℕ → ℕ → ℕ
favourable_of (pos n) r h = round_down (n * r * (10000 - h)) 10000000000
favourable_of (negsuc n) r h = 0

unfoldable pub unfavourable_of : ℤ → ℕ → ℕ → ℕ
unfavourable_of (pos n) r h = 0
unfavourable_of (negsuc n) r h = round_up (suc n * r * (10000 + h)) 10000000000
