-- `sound_positions::each::each_fits` meets its contract. The records before i ascend and pass the test. Assumes nothing.
use Rattle.std.proofs.Common.{◌≡◌, true, take}
use Rattle.rules.specs.Words.{all}
use Rattle.rules.specs.Layout.{book_of}
use Rattle.rules.specs.Sound.{ascends}
use Rattle.sound_positions.specs.Ascent.{least_at}
use Rattle.sound_positions.specs.Each.{record_fits}
use Rattle.sound_positions.proofs.each.each_fits.Given as goal

abbrev pub invariant-loop-i : goal.invariant-loop-i
invariant-loop-i l = record {
  least : l.least ≡ least_at (book_of l.b).positions l.i;
  ascend : ascends (take l.i (book_of l.b).positions) ≡ true;
  fit : all (record_fits (book_of l.b).day) (take l.i (book_of l.b).positions) ≡ true;
}
