-- What the calls that compute a part ask of their arguments. The laws of the part are in proofs/PartLaws.
use Rattle.std.specs.Prelude.{ℕ, ◌≤◌, ◌<◌, ℤ, nat_abs}
use Rattle.units.specs.Units.{most_shares, most_mils}

-- what `part` asks: document 01's bounds of a record, and no more shares than it has
pub record PartAsks (m q : ℤ) (k : ℕ) : Type 0 where
  pub money : nat_abs m ≤ most_mils
  pub some : 0 < nat_abs q
  pub shares : nat_abs q ≤ most_shares
  pub within : k ≤ nat_abs q

pub record PortionAsks (n d k : ℕ) : Type 0 where
  pub some : 0 < d
  pub small : d ≤ 4000000000
  pub within : k ≤ d
