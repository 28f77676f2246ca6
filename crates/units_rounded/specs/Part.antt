-- The part of a position (document 01, "From trades to positions"): a part of k shares from a position of q shares and
-- money m carries m*k/|q| truncated towards zero.
use Rattle.std.specs.Prelude.{ℕ, ℤ, pos, nat_abs, ◌*ℤ◌}
use Rattle.std.specs.Int.Signed.{quot_z}

-- `quot_z` of the library divides and truncates towards zero
unfoldable pub part_of : ℤ → ℤ → ℕ → ℤ
part_of m q k = quot_z (m *ℤ pos k) (pos (nat_abs q))
