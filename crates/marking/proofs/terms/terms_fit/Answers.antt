-- `marking::terms::terms_fit` meets its contract: each return by the tests that were made so far. Assumes nothing.
use Rattle.std.proofs.Common.{arith}
use Rattle.std.proofs.lemmas.Grind.{common_steps}
use Rattle.rules.specs.Words.{first}
use Rattle.rules.specs.Trades.{no_account}
use Rattle.rules.specs.Marks.{terms}
use Rattle.marking.specs.SoundMarks.{terms_tests}
use Rattle.marking.specs.Passing.{bad_rated}
use Rattle.marking.proofs.terms.terms_fit.Goals as goal

pub returns-then-account-gt-LAST_ACCOUNT-clause-number : goal.returns-then-account-gt-LAST_ACCOUNT-clause-number
unfolding terms_tests no_account first
returns-then-account-gt-LAST_ACCOUNT-clause-number c = grind (arith, common_steps)

pub returns-in_err-terms-clause-number : goal.returns-in_err-terms-clause-number
unfolding terms_tests no_account first
returns-in_err-terms-clause-number c = grind (arith, common_steps)

pub returns-then-prices_above-clause-number : goal.returns-then-prices_above-clause-number
unfolding terms_tests no_account first
returns-then-prices_above-clause-number c = grind (arith, common_steps)

pub returns-then-bad_rates-clause-number : goal.returns-then-bad_rates-clause-number
unfolding terms_tests no_account first
returns-then-bad_rates-clause-number c =
    let a = c.args in
    let bad = bad_rated (terms a.intraday.now a.closing.now a.rates.now a.haircuts.now) in
    grind (arith, common_steps)

pub returns-clause-number : goal.returns-clause-number
unfolding terms_tests no_account first
returns-clause-number c =
    let a = c.args in
    let bad = bad_rated (terms a.intraday.now a.closing.now a.rates.now a.haircuts.now) in
    grind (arith, common_steps)
