-- `sheet::whole::put_existing` meets its contract: no lines where there is no book. Assumes nothing.
use Rattle.std.proofs.Common.{sym, ap, ◌∙◌}
use Rattle.rules.specs.Sheet.{book_lines}
use Rattle.sheet.specs.Written.{wrote_none, wrote_as}
use Rattle.sheet.specs.Whole.{no_book}
use Rattle.sheet.proofs.whole.put_existing.Goals as goal

pub returns-in-None : goal.returns-in-None
returns-in-None c = wrote_as _ _ _ _ _ _ _ (sym no_book ∙ ap book_lines (sym c.in-None.is)) (wrote_none _ _ _ _ _ c.requires.1)
