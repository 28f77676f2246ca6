-- `callfile_format::reading::moved_at` meets its contract: field by field. Assumes nothing.
use Rattle.std.proofs.Common.{sym, ◌∙◌, lit≤}
use Rattle.callfile_format.specs.Bodies.{field_body}
use Rattle.callfile_format.proofs.reading.moved_at.Goals as goal

pub returns : goal.returns
returns c =
    let f = c.args.file.now in
    let p = c.args.place in (
      c.get-account.ensures.0 ∙ sym (field_body p f 1 1 11 (lit≤ tt)),
      c.get-security.ensures.0 ∙ sym (field_body p f 1 2 11 (lit≤ tt)),
      c.get.ensures.0 ∙ sym (field_body p f 8 3 11 (lit≤ tt)),
    )
