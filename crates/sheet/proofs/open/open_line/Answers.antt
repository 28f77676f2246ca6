-- `sheet::open::open_line` meets its contract. Assumes nothing.
use Rattle.sheet.specs.BookLines.{open_is}
use Rattle.sheet.proofs.open.open_line.Goals as goal

pub returns : goal.returns
returns c =
    let account = c.account_of-account.ensures.0 in
    let security = c.security_of-security.ensures.0 in
    open_is _ _ _ account security
