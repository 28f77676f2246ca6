-- `lines_text::decimals::put_decimal` meets its contract: it falls by n, and the last digit is stored behind those of n / 10. Assumes nothing.
use Rattle.lines_text.proofs.decimals.+put_decimal.Given as goal

abbrev pub decreases-put_decimal : goal.decreases-put_decimal
decreases-put_decimal l = l.n
