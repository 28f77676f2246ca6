-- `sound_tables::money::open_money` meets its contract. The loop's invariant: with the records from `i` on, the sums make the whole. Assumes nothing.
use Rattle.units.specs.Units.{most_mils}
use Rattle.rules.specs.Book.{open_of}
use Rattle.rules.specs.Layout.{book_of}
use Rattle.sound_tables.specs.Placed.{Gathered}
use Rattle.sound_tables.specs.Stakes.{place_at, size_of}
use Rattle.sound_tables.proofs.money.open_money.Given as goal

abbrev pub invariant-loop-i : goal.invariant-loop-i
invariant-loop-i l = Gathered (place_at (book_of l.b)) size_of 256 most_mils l.sums (open_of (book_of l.b)) l.i
