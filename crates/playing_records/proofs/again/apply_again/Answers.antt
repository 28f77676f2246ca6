-- `playing_records::again::apply_again` meets its contract: a roll on a book that is known to refuse it, or any other record. Assumes nothing.
use Rattle.std.proofs.Common.{sym, subst}
use Rattle.playing_records.specs.Again.{Refuses, same_again}
use Rattle.playing_records.proofs.again.apply_again.Goals as goal

pub returns-in-Some : goal.returns-in-Some
returns-in-Some c = same_again _ _ _ (sym c.if-is_roll.ensures) c.in-Some.r (subst (Refuses c.args.book.now) c.in-Some.is c.requires.1)
