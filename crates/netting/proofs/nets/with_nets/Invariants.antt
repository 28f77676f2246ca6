-- `netting::nets::with_nets` meets its contract. The invariant of the loop over accounts: behind the open positions stand the nets of the
-- accounts before; of the loop over an account's nets: and those of its securities before. Assumes nothing.
use Rattle.std.proofs.Common.{ℕ, ◌+◌, ◌*◌, List}
use Rattle.rules.specs.Book.{open_of, list_of}
use Rattle.rules.specs.Layout.{book_of}
use Rattle.rules.specs.declared.Position.{Position}
use Rattle.rules.specs.declared.Book.{Book}
use Rattle.netting.specs.Filling.{Filled}
use Rattle.netting.proofs.nets.with_nets.Given as goal

-- the open positions of a book and the nets of the pairs before i
abbrev pub Behind : Book → ℕ → ℕ → List Position → Type 0
Behind k i count rows = Filled (k.day + 2) (list_of k) (open_of k) i count rows

abbrev pub invariant-loop-net : goal.invariant-loop-net
invariant-loop-net l = Behind (book_of l.b) (l.account * 32 + l.net-index) l.count l.positions

abbrev pub invariant-loop-account : goal.invariant-loop-account
invariant-loop-account l = Behind (book_of l.b) (l.account * 32) l.count l.positions
