-- Today's nets (document 01, "From trades to positions").
use Rattle.std.specs.Prelude.{cond, ◌||◌, List, map, ℕ, eqb, ℤ, pos, ◌-ℤ◌}
use Rattle.integers.specs.Sums.{sum_by}
use Rattle.units.specs.Units.{shares, mils}
use Rattle.rules.specs.Words.{keep, each}
use Rattle.rules.specs.Bounds.{every_account, every_security}
use Rattle.rules.specs.Book.{number_of}
use Rattle.rules.specs.Trades.{amount_of}
use Rattle.rules.specs.Sound.{is_position}
use Rattle.rules.specs.declared.Position.{Position}
use Rattle.rules.specs.declared.Trade.{Trade}

-- v of a trade if account a bought; if it sold
unfoldable pub bought : (Trade → ℕ) → ℕ → Trade → ℤ
bought v a t = cond (eqb t.buyer a) (pos (v t)) (pos 0)

unfoldable pub sold : (Trade → ℕ) → ℕ → Trade → ℤ
sold v a t = cond (eqb t.seller a) (pos (v t)) (pos 0)

-- bought less sold over the trades of one security
unfoldable pub net : (Trade → ℕ) → List Trade → ℕ → ℕ → ℤ
net v ts a s = sum_by (λ t. bought v a t -ℤ sold v a t) (keep (λ t. eqb t.security s) ts)

-- Today's net for an account and security: bought less sold shares, and paid less received amounts; as a position of a due day.
unfoldable pub net_of : ℕ → List Trade → ℕ → ℕ → Position
net_of due ts a s =
    record { number = number_of due a s; quantity = shares (net (λ t. t.quantity) ts a s); money = mils (net amount_of ts a s) }

-- the trades of an account
unfoldable pub trades_of : ℕ → List Trade → List Trade
trades_of a ts = keep (λ t. eqb t.buyer a || eqb t.seller a) ts

-- A net of 0 shares with money is a position; 0 and 0 is none. By account, then security: by ascending number.
unfoldable pub nets : ℕ → List Trade → List Position
nets due ts = each (λ a. keep is_position (map (net_of due (trades_of a ts) a) every_security)) every_account
