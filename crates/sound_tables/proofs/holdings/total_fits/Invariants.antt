-- `sound_tables::holdings::total_fits` meets its contract. The loop's invariant: what is left and the total make the most and what the accounts from `account` on hold.
-- Assumes nothing.
use Rattle.std.proofs.Common.{◌≡◌, ◌+◌}
use Rattle.rules.specs.Layout.{book_of}
use Rattle.rules.specs.Sound.{total_held}
use Rattle.sound_tables.specs.Held.{held_from}
use Rattle.sound_tables.proofs.holdings.total_fits.Given as goal

abbrev pub invariant-loop-account : goal.invariant-loop-account
invariant-loop-account l =
    l.left + total_held (book_of l.b).holdings l.security ≡ l.most + held_from (book_of l.b).holdings l.security l.account
