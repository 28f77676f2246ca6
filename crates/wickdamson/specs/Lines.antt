-- A line with its tally lent as two numbers.
use Rattle.std.specs.Prelude.{◌≡◌, Bool, cond, List, ℕ, length}
use Rattle.rules.specs.Sheet.{line_answer, line_part, line_bytes, line_tally}
use Rattle.rules.specs.declared.Line.{Line}
use Rattle.rules.specs.declared.Tally.{Tally}

-- the tally of its two numbers
abbrev pub tally_of : ℕ → ℕ → Tally
tally_of lines bytes = record { lines = lines; bytes = bytes }

-- What writing a line leaves of a buffer and a tally: the answer, every byte, the tally moved on, and how many bytes were written.
pub record LineWritten (l : Line) (buffer : List ℕ) (lines bytes answer : ℕ) (left : List ℕ) (lines' bytes' size : ℕ) : Type 0 where
  pub answers : answer ≡ line_answer (length buffer) l (tally_of lines bytes)
  pub leaves : left ≡ line_bytes buffer l (tally_of lines bytes)
  pub tallies : tally_of lines' bytes' ≡ line_tally (length buffer) l (tally_of lines bytes)
  pub sized : size ≡ length (line_part buffer l (tally_of lines bytes))

-- The same of a line whose account, security, currency, refusal or day comes as a wider number. Where one is too large (`wide`) the line is
-- refused as one that does not fit: 18, no byte is altered, and the tally stands.
pub record LineOffered (wide : Bool) (l : Line) (buffer : List ℕ) (lines bytes answer : ℕ) (left : List ℕ) (lines' bytes' size : ℕ) : Type 0 where
  pub answers : answer ≡ cond wide 18 (line_answer (length buffer) l (tally_of lines bytes))
  pub leaves : left ≡ cond wide buffer (line_bytes buffer l (tally_of lines bytes))
  pub tallies : tally_of lines' bytes' ≡ cond wide (tally_of lines bytes) (line_tally (length buffer) l (tally_of lines bytes))
  pub sized : size ≡ cond wide 0 (length (line_part buffer l (tally_of lines bytes)))
