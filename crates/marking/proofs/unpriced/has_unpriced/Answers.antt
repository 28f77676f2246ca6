-- `marking::unpriced::has_unpriced` meets its contract. No record before i is one of the account that lacks a price. Assumes nothing.
use Rattle.std.proofs.Common.{◌≡◌, ◌≤◌, sym, ap, ◌∙◌, eqb, length, List, ℕ, arith}
use Rattle.rules.specs.Words.{any}
use Rattle.rules.specs.Book.{account_of, open_of, no_position}
use Rattle.rules.specs.Layout.{book_of}
use Rattle.rules.specs.Sound.{records_of}
use Rattle.rules.specs.Marks.{lacks_price, marked_of}
use Rattle.rules.specs.declared.Book.{Book}
use Rattle.book.specs.Views.{positions_long}
use Rattle.laws.specs.Finding.{any_none, listed_more, listed_found, listed_done}
use Rattle.marking_sums.specs.Summing.{priced}
use Rattle.marking_prices.specs.Looking.{any_kept}
use Rattle.marking.proofs.unpriced.has_unpriced.Goals as goal
use Rattle.marking.proofs.unpriced.has_unpriced.Invariants.{is_one}

-- to look among the account's records is to look among all of them for one of those
all_seen : (k : Book) (a : ℕ) (m n : List ℕ) → any (is_one a m n) (open_of k) ≡ any (lacks_price (priced m n)) (marked_of k a)
unfolding marked_of records_of
all_seen k a m n = any_kept _ (λ p. eqb (account_of p) a) (open_of k)

pub loop-i-init : goal.loop-i-init
loop-i-init c =
    let a = c.args in
    any_none (is_one a.account a.tables.intraday.now a.tables.closing.now) (open_of (book_of a.book.now))

pub returns-then-is_unpriced : goal.returns-then-is_unpriced
unfolding open_of
returns-then-is_unpriced c =
    let a = c.args in
    let k = book_of a.book.now in
    let one = is_one a.account a.tables.intraday.now a.tables.closing.now in
    let within : k.records ≤ length k.positions = omega (arith, c.requires, positions_long a.book.now) in
    listed_found one k.positions k.records within c.loop-i.i no_position (omega (arith, c.records_at-n.ensures))
    (ap one (sym c.position_at-p.ensures) ∙ sym c.is_unpriced.ensures ∙ c.if-is_unpriced.true)
    ∙ all_seen k a.account a.tables.intraday.now a.tables.closing.now

pub loop-i-preserved : goal.loop-i-preserved
unfolding open_of
loop-i-preserved c =
    let a = c.args in
    let k = book_of a.book.now in
    let one = is_one a.account a.tables.intraday.now a.tables.closing.now in
    let within : k.records ≤ length k.positions = omega (arith, c.requires, positions_long a.book.now) in
    listed_more one k.positions k.records within c.loop-i.i no_position (omega (arith, c.records_at-n.ensures)) c.loop-i.invariant
    (ap one (sym c.position_at-p.ensures) ∙ sym c.is_unpriced.ensures ∙ c.if-is_unpriced.false)

pub returns : goal.returns
unfolding open_of
returns c =
    let a = c.args in
    let k = book_of a.book.now in
    let within : k.records ≤ length k.positions = omega (arith, c.requires, positions_long a.book.now) in
    listed_done (is_one a.account a.tables.intraday.now a.tables.closing.now) k.positions k.records within c.loop-i.i (omega (arith, c.records_at-n.ensures)) c.loop-i.invariant
    ∙ all_seen k a.account a.tables.intraday.now a.tables.closing.now
