-- What is printed, where the bytes of the input and of the output are known.
use Rattle.std.specs.Prelude.{ℕ, ◌≤◌, Bool, cond, List, [], length, take, Option, Some, None}
use Rattle.std.specs.Io.KnownBytes.{Appends, Consumes}
use Rattle.rules.specs.Sheet.{sheet_of}

-- the sheet of what was read, and nothing where it could not be read
abbrev pub sheet_of_read : Option (List ℕ) → List ℕ
sheet_of_read (Some file) = sheet_of file
sheet_of_read None = []

-- the output grew by a front of some bytes: by all of them, or by fewer
abbrev pub IsFrontWritten : Option (List ℕ) → Option (List ℕ) → List ℕ → Type 0
IsFrontWritten old new bs = (n : ℕ) × (n ≤ length bs) × Appends old new (take n bs)

-- some bytes of the input were read, and the output grew by a front of their sheet, or by nothing
abbrev pub IsPrinted : Option (List ℕ) → Option (List ℕ) → Option (List ℕ) → Option (List ℕ) → Type 0
IsPrinted input input' output output' = (file : List ℕ) × (failed : Bool) × Consumes input input' file × IsFrontWritten output output' (cond failed [] (sheet_of file))
