-- What is lent number by number and field by field, and what is handed back figure by figure.
use Rattle.std.specs.Prelude.{◌≡◌, refl, cond, List, ℕ}
use Rattle.rules.specs.Words.{above}
use Rattle.rules.specs.Sound.{not_sound}
use Rattle.rules.specs.declared.Trade.{Trade}

-- The version of the interface (docs/DECISIONS.md, C36).
abbrev pub interface_version : ℕ
interface_version = 1

-- whether bytes are a sound book: 1, or 0
unfoldable pub sound_answer : List ℕ → ℕ
sound_answer bs = cond (not_sound bs) 0 1

-- An account, a security or a trade number is lent as a 32-bit number and is never cut to another. Above 255 there is no account and no
-- security: 255 stands for all of these, and is refused where it is looked at (2, 3).
unfoldable pub byte_of : ℕ → ℕ
byte_of n = cond (above 255 n) 255 n

-- Above 65,535 there is no trade number: 0 stands for all of these (7 at entry, 8 elsewhere).
unfoldable pub number_of : ℕ → ℕ
number_of n = cond (above 65_535 n) 0 n

-- 258 is not 2, and 65,539 is not 3
bytes_are : (byte_of 63 ≡ 63) × (byte_of 255 ≡ 255) × (byte_of 256 ≡ 255) × (byte_of 258 ≡ 255)
unfolding byte_of
bytes_are = (refl, refl, refl, refl)

numbers_are : (number_of 3 ≡ 3) × (number_of 65_535 ≡ 65_535) × (number_of 65_536 ≡ 0) × (number_of 65_539 ≡ 0)
unfolding number_of
numbers_are = (refl, refl, refl, refl)

-- a trade of its fields
abbrev pub trade_of : ℕ → ℕ → ℕ → ℕ → ℕ → ℕ → Trade
trade_of number buyer seller security quantity price =
    record {
      number = number_of number;
      buyer = byte_of buyer;
      seller = byte_of seller;
      security = byte_of security;
      quantity = quantity;
      price = record { 0 = price };
    }
