-- How many bytes of a buffer were read.
use Rattle.std.specs.Prelude.{◌≡◌, ℕ, ◌≤◌, List, length, take, Result, Ok, Err}
use Rattle.sheet_printer.specs.declared.input.Cut.{Cut}

-- `&xs[..n]` is in bounds and has n bytes. The second part follows from the first, and spares a caller's `&buf[..n]` a proof file.
abbrev pub IsPrefixLen : ℕ → List ℕ → Type 0
IsPrefixLen n xs = (n ≤ length xs) × (n ≡ length (take n xs))

-- how many bytes a read took: none where it failed
abbrev pub bytes_read : {E : Type 0} → Result ℕ E → ℕ
bytes_read (Ok n) = n
bytes_read (Err _) = 0

-- how many bytes were read, before the failed read where one failed
abbrev pub size_read : Result ℕ Cut → ℕ
size_read (Ok n) = n
size_read (Err cut) = cut.0
