-- `netting_account::named::named_accounts` meets its contract. The loop's invariant: the trades before `t` name no account whose flag is down. Assumes nothing.
use Rattle.std.proofs.Common.{rules, false, replicate}
use Rattle.netting_account.specs.Named.{named_none, named_more, accounts_here}
use Rattle.netting_account.proofs.named.named_accounts.Goals as goal

pub loop-t-init : goal.loop-t-init
loop-t-init c = (search rules, named_none c.args.trades.now (replicate 64 false))

pub bounds-named-t : goal.bounds-named-t
bounds-named-t c = (accounts_here _ _ c.loop-t-test.true c.requires).0

pub bounds-named-t-in-loop-t : goal.bounds-named-t-in-loop-t
bounds-named-t-in-loop-t c = (accounts_here _ _ c.loop-t-test.true c.requires).1

pub loop-t-preserved : goal.loop-t-preserved
loop-t-preserved c =
    let v = c.loop-t in
    let n = accounts_here _ _ c.loop-t-test.true c.requires in
    (search rules, named_more _ _ c.loop-t-test.true v.named v.invariant.0 n.0 n.1 v.invariant.1)
