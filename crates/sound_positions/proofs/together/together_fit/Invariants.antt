-- `sound_positions::together::together_fit` meets its contract. What is left decides, with the signs seen so far; the sums are those of the records before i. Assumes nothing.
use Rattle.std.proofs.Common.{◌≡◌, length, take, drop}
use Rattle.rules.specs.Words.{keep}
use Rattle.rules.specs.Book.{open_of}
use Rattle.rules.specs.Layout.{book_of}
use Rattle.rules.specs.Sound.{is_due, one_sign}
use Rattle.sound_positions.specs.OneSign.{places, no_clash}
use Rattle.sound_positions.specs.Summing.{Summed}
use Rattle.sound_positions.specs.Balance.{is_later}
use Rattle.sound_positions.proofs.together.together_fit.Given as goal

abbrev pub invariant-loop-i : goal.invariant-loop-i
invariant-loop-i l = record {
  room : length l.seen ≡ places;
  clash : no_clash l.seen (keep (is_due (book_of l.b).day) (drop l.i (open_of (book_of l.b)))) ≡ one_sign (keep (is_due (book_of l.b).day) (open_of (book_of l.b)));
  today : Summed (keep (is_due (book_of l.b).day) (take l.i (book_of l.b).positions)) l.today;
  later : Summed (keep (is_later (book_of l.b).day) (take l.i (book_of l.b).positions)) l.later;
}
