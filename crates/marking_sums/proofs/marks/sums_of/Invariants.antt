-- `marking_sums::marks::sums_of` meets its contract. The sums are those of the records before i. Assumes nothing.
use Rattle.rules.specs.Layout.{book_of}
use Rattle.marking_sums.specs.Summing.{priced, Summed}
use Rattle.marking_sums.proofs.marks.sums_of.Given as goal

abbrev pub invariant-loop-i : goal.invariant-loop-i
invariant-loop-i l = Summed (book_of l.book) (priced l.tables.intraday.now l.tables.closing.now) l.account l.i l.t
