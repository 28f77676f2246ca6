-- `netting_account::account::account_nets` meets its contract. The loop's invariant: the rows are the nets of the trades before `t`. Assumes nothing.
use Rattle.std.proofs.Common.{List, get_or, sym, ap, ◌∙◌, rules}
use Rattle.rules.specs.Book.{no_position}
use Rattle.rules.specs.declared.Position.{Position}
use Rattle.netting_account.specs.AccountNets.{limits_here, security_here, nets_same, row_within, nets_more}
use Rattle.netting_account.proofs.account.account_nets.Goals as goal
use Rattle.netting_account.proofs.account.account_nets.Goals.{then-has_part, else-has_part}

pub bounds-nets-s : goal.bounds-nets-s
bounds-nets-s c = security_here c.args.due _ c.args.account _ c.loop-t-test.true c.requires.2

pub with_trade-requires : goal.with_trade-requires
with_trade-requires c =
    let a = c.args in
    let v = c.loop-t in
    let k = security_here a.due _ a.account _ c.loop-t-test.true c.requires.2 in (
      row_within a.due _ a.account _ c.loop-t-test.true v.nets v.invariant.1 k c.requires.0 c.requires.3,
      limits_here a.due _ a.account _ c.loop-t-test.true c.requires.3,
    )

pub bounds-nets-s-then-has_part : goal.bounds-nets-s-then-has_part
bounds-nets-s-then-has_part c = security_here c.args.due _ c.args.account _ c.loop-t-test.true c.requires.2

pub loop-t-preserved : goal.loop-t-preserved
loop-t-preserved c =
    let a = c.args in
    let v = c.loop-t in
    let k = security_here a.due _ a.account _ c.loop-t-test.true c.requires.2 in
    elim c.if-has_part.branch [
      | then-has_part w ↦ (
        search rules,
        λ s h. ap (λ (rows : List Position). get_or rows s no_position) w.nets-is
            ∙ nets_more a.due _ a.account _ c.loop-t-test.true v.nets v.invariant.1 k _ v.invariant.0 w.with_trade.ensures s h,
      )
      | else-has_part w ↦ (
        search rules,
        λ s h. ap (λ (rows : List Position). get_or rows s no_position) w.nets-is
            ∙ nets_same a.due _ a.account _ c.loop-t-test.true v.nets v.invariant.1 (sym c.has_part.ensures ∙ w.if-has_part.false) s h,
      )
    ]
