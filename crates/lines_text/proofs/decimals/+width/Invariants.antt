-- `lines_text::decimals::width` meets its contract: it falls by n, and a number of 64 bits has at most 20 digits. Assumes nothing.
use Rattle.lines_text.proofs.decimals.+width.Given as goal

abbrev pub decreases-width : goal.decreases-width
decreases-width l = l.n
