-- `settling::moving::move_shares` meets its contract. Assumes nothing.
use Rattle.std.proofs.Common.{◌≡◌, ◌-◌, get_or, set, arith}
use Rattle.rules.specs.Book.{with_holdings}
use Rattle.rules.specs.Layout.{book_of}
use Rattle.rules.specs.Run.{moved}
use Rattle.settling_counts.specs.Amounts.{lowered}
use Rattle.settling.proofs.moving.move_shares.Goals as goal

-- the receiver's holding is read when the giver's is lowered
pub overflow_add-more : goal.overflow_add-more
unfolding with_holdings
overflow_add-more c =
    let hs = (book_of c.args.b.now).holdings in
    let from = c.args.from in
    let held : c.holding_at-2.result ≡ get_or (set hs from (get_or hs from 0 - c.args.k.0)) c.args.to 0 =
    rw (c.holding_at-2.ensures, c.put_holding.ensures.1, c.holding_at.ensures) in
    omega (arith, held, lowered hs from c.args.to (get_or hs from 0 - c.args.k.0) (omega arith), c.requires.3)

pub returns : goal.returns
unfolding with_holdings moved
returns c = rw (c.put_holding-2.ensures.1, c.holding_at-2.ensures, c.put_holding.ensures.1, c.holding_at.ensures)
