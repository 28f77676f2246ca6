-- `sound_positions::balance::sums_zero` meets its contract. Assumes nothing.
use Rattle.std.proofs.Common.{◌∙◌, pos, rules, tests}
use Rattle.std.proofs.lemmas.Iterator.{YieldsList-from_slice}
use Rattle.std.proofs.lemmas.Iterator.Search.{all_from_yields_List}
use Rattle.units.specs.Units.{shares_of, shares}
use Rattle.units.specs.declared.Shares.{Shares}
use Rattle.rules.specs.Bounds.{every_security, securities}
use Rattle.rules.specs.Book.{is_zero}
use Rattle.sound_positions.specs.Table.{all_by_place}
use Rattle.sound_positions.proofs.balance.sums_zero.Goals as goal

pub returns : goal.returns
unfolding is_zero every_security
returns c =
    all_from_yields_List (λ (x : Shares). is_zero (shares_of x)) _ _ _ c.all.ensures.ran (YieldsList-from_slice c.args.sums cc) (λ x b q k. search (rules, tests))
    ∙ all_by_place (λ (x : Shares). is_zero (shares_of x)) c.args.sums (shares (pos 0)) securities (search rules)
