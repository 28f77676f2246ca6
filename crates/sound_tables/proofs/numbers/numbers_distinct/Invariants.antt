-- `sound_tables::numbers::numbers_distinct` meets its contract. The loop's invariant: the numbers before `i` are distinct, and just their flags are up. Assumes nothing.
use Rattle.std.proofs.Common.{◌≡◌, true, List, ℕ, map, take}
use Rattle.rules.specs.Book.{list_of}
use Rattle.rules.specs.Layout.{book_of}
use Rattle.rules.specs.Sound.{distinct}
use Rattle.rules.specs.declared.Book.{Book}
use Rattle.sound_tables.specs.Distinct.{Flagged}
use Rattle.sound_tables.proofs.numbers.numbers_distinct.Given as goal

abbrev pub numbers : Book → List ℕ
numbers k = map (λ t. t.number) (list_of k)

abbrev pub invariant-loop-i : goal.invariant-loop-i
invariant-loop-i l = record {
  flagged : Flagged l.used (take l.i (numbers (book_of l.b)));
  apart : distinct (take l.i (numbers (book_of l.b))) ≡ true;
}
