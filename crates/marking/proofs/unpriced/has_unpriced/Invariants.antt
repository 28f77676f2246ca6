-- `marking::unpriced::has_unpriced` meets its contract. No record before i is one of the account that lacks a price. Assumes nothing.
use Rattle.std.specs.Prelude.{◌≡◌, Bool, false, ◌&&◌, List, ℕ, eqb, take}
use Rattle.rules.specs.Words.{any}
use Rattle.rules.specs.Book.{account_of, open_of}
use Rattle.rules.specs.Layout.{book_of}
use Rattle.rules.specs.Marks.{lacks_price}
use Rattle.rules.specs.declared.Position.{Position}
use Rattle.marking_sums.specs.Summing.{priced}
use Rattle.marking.proofs.unpriced.has_unpriced.Given as goal

abbrev pub is_one : ℕ → List ℕ → List ℕ → Position → Bool
is_one a intraday closing p = eqb (account_of p) a && lacks_price (priced intraday closing) p

abbrev pub invariant-loop-i : goal.invariant-loop-i
invariant-loop-i l = any (is_one l.account l.tables.intraday.now l.tables.closing.now) (take l.i (open_of (book_of l.book))) ≡ false
