-- `lines_text::wording::of_shares` meets its contract: sign and size are what `units` promises of them. Assumes nothing.
use Rattle.lines_text.proofs.wording.of_shares.Goals as goal

pub returns : goal.returns
returns c = λ i. record { minus = c.is_negative-minus.ensures i; size = c.size-size.ensures i }
