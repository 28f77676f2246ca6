-- `settling::walk::walk` meets its contract. What is left to do from here gives what the whole walk gives: `Outside` between two givers, `Inside`
-- while row g gives, of the book and the shares that the walk began with. A turn of the inner loop passes a receiver that wants nothing,
-- or is a meeting, behind which the giver owes less: so its measure falls. Where nothing is left to give, what is left to do does nothing
-- (`label_end`). Assumes nothing.
use Rattle.std.proofs.Common.{◌+◌, ◌-◌}
use Rattle.rules.specs.Layout.{book_of}
use Rattle.laws.specs.Rows.{row}
use Rattle.laws.specs.Walk.{owes}
use Rattle.settling.specs.Bytes.{Started, Outside, Inside}
use Rattle.settling.proofs.walk.walk.Given as goal

abbrev pub invariant-givers : goal.invariant-givers
invariant-givers l = record {
  began : Started (book_of l.fn.b) l.security l.fn.all.0 l.day l.n;
  outside : Outside (book_of l.fn.b) l.security l.fn.all.0 l.g l.r l.b l.left;
}

abbrev pub invariant-receivers : goal.invariant-receivers
invariant-receivers l = record {
  began : Started (book_of l.fn.b) l.security l.fn.all.0 l.day l.n;
  inside : Inside (book_of l.fn.b) l.security l.fn.all.0 l.g l.r l.b l.left;
}

abbrev pub decreases-receivers : goal.decreases-receivers
decreases-receivers l = (l.n - l.r) + owes l.day l.security (row (book_of l.b).positions l.g)
