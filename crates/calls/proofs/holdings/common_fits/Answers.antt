-- `calls::holdings::common_fits` meets its contract: each return by the tests that were made so far. Assumes nothing.
use Rattle.std.proofs.Common.{refl, sym, ◌∙◌, lt-ltb, le-ltb}
use Rattle.rules.specs.Words.{first}
use Rattle.rules.specs.Layout.{book_of}
use Rattle.rules.specs.Trades.{no_account}
use Rattle.calls.specs.Holdings.{common_by}
use Rattle.calls.proofs.holdings.common_fits.Goals as goal

pub returns-then-account-gt63 : goal.returns-then-account-gt63
unfolding first no_account
returns-then-account-gt63 c = common_by _ _ _ _ (lt-ltb _ _ c.if-account-gt63.true) refl refl

pub returns-then-bad_security : goal.returns-then-bad_security
unfolding first no_account
returns-then-bad_security c =
    common_by _ _ _ _ (le-ltb _ _ c.if-account-gt63.false) (sym (c.bad_security.ensures (book_of c.args.b.now) (sym c.codes_of-codes.ensures)) ∙ c.if-bad_security.true) refl

pub returns-then-bad_deposit : goal.returns-then-bad_deposit
unfolding first no_account
returns-then-bad_deposit c =
    common_by _ _ _ _ (le-ltb _ _ c.if-account-gt63.false) (sym (c.bad_security.ensures (book_of c.args.b.now) (sym c.codes_of-codes.ensures)) ∙ c.if-bad_security.false)
    (sym c.bad_deposit.ensures ∙ c.if-bad_deposit.true)

pub returns : goal.returns
unfolding first no_account
returns c =
    common_by _ _ _ _ (le-ltb _ _ c.if-account-gt63.false) (sym (c.bad_security.ensures (book_of c.args.b.now) (sym c.codes_of-codes.ensures)) ∙ c.if-bad_security.false)
    (sym c.bad_deposit.ensures ∙ c.if-bad_deposit.false)
