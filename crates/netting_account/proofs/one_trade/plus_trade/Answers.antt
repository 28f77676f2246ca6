-- `netting_account::one_trade::plus_trade` meets its contract. Assumes nothing.
use Rattle.std.proofs.Common.{arith}
use Rattle.netting_account.specs.OneTrade.{trade_added, limits}
use Rattle.netting_account.proofs.one_trade.plus_trade.Goals as goal

pub returns : goal.returns
returns c =
    let l = limits c.args.t c.requires.1 in (
      trade_added c.args.sold c.args.p c.args.t _ _ _ _ c.of-traded.ensures.0
          c.times-amount.ensures.0 c.plus.ensures.0 c.plus-2.ensures.0,
      omega (arith, l.0, c.of-traded.ensures.1, c.times-amount.ensures.1, c.plus.ensures.1, c.plus-2.ensures.1),
    )
