-- Rows of a table of records, as code has them: row i, and two rows each with k shares less.
use Rattle.std.specs.Prelude.{List, ℕ, get_or, set}
use Rattle.rules.specs.Book.{no_position}
use Rattle.rules.specs.Parts.{without}
use Rattle.rules.specs.declared.Position.{Position}

abbrev pub row : List Position → ℕ → Position
row ps i = get_or ps i no_position

unfoldable pub without_both : List Position → ℕ → ℕ → ℕ → List Position
without_both ps i j k = set (set ps i (without (row ps i) k)) j (without (row ps j) k)
