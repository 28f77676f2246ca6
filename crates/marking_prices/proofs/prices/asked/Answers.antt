-- `marking_prices::prices::asked` meets its contract: each return by the tests that were made so far. Assumes nothing.
use Rattle.std.proofs.Common.{arith}
use Rattle.std.proofs.lemmas.Grind.{common_steps}
use Rattle.rules.specs.Words.{first}
use Rattle.rules.specs.Trades.{no_security}
use Rattle.rules.specs.Prices.{no_price, price_tests, price_answer}
use Rattle.marking_prices.proofs.prices.asked.Goals as goal

pub returns-in_err-tables-clause-number : goal.returns-in_err-tables-clause-number
unfolding price_answer price_tests first
returns-in_err-tables-clause-number c = grind (arith, common_steps)

pub returns-then-security-gt31-clause-number : goal.returns-then-security-gt31-clause-number
unfolding price_answer price_tests no_security first
returns-then-security-gt31-clause-number c = grind (arith, common_steps)

pub returns-then-prices_above-clause-number : goal.returns-then-prices_above-clause-number
unfolding price_answer price_tests no_security first
returns-then-prices_above-clause-number c = grind (arith, common_steps)

pub returns-then-price_of-eq0-clause-number : goal.returns-then-price_of-eq0-clause-number
unfolding price_answer price_tests no_security no_price first
returns-then-price_of-eq0-clause-number c = grind (arith, common_steps)

pub returns-clause-number : goal.returns-clause-number
unfolding price_answer price_tests no_security no_price first
returns-clause-number c = grind (arith, common_steps)
