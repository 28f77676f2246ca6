-- Damaged call files, one for each sort of damage that document 01 names: 19 and the byte place where the record begins.
use Rattle.std.specs.Prelude.{◌≡◌, refl, List, [], ◌∷◌, ◌++◌, map, ℕ, replicate, take, drop}
use Rattle.rules.specs.Words.{text}
use Rattle.rules.specs.Sheet.{sheet_of}
use Rattle.rules.specs.Opened.{everything}
use Rattle.rules.specs.Written.{hex, created}

-- a file and its sheet
abbrev Row : Type 0
Row = List ℕ × List ℕ

damaged : List Row
damaged =
    -- an empty file
    ([], text "X 0\nE 1\n") ∷
    -- another version
    (hex "02", text "X 0\nE 1\n") ∷
    -- another version, the rest in order
    (hex "00" ++ drop 1 (created (0 ∷ [])), text "X 0\nE 1\n") ∷
    -- a version with no record after it
    (hex "01", text "X 1\nE 1\n") ∷
    -- a cut length
    (hex "01 00", text "X 1\nE 1\n") ∷
    -- the first record is no create
    (hex "01 0001 04", text "X 1\nE 1\n") ∷
    -- the first record is of another kind
    (hex "01 0001 08", text "X 1\nE 1\n") ∷
    -- a bad currency code in create
    (created (4 ∷ []), text "X 1\nE 1\n") ∷
    -- a create of another length: 32 and 34
    (hex "01 0020 00" ++ replicate 31 255, text "X 1\nE 1\n") ∷
    (hex "01 0022 00" ++ replicate 33 255, text "X 1\nE 1\n") ∷
    -- a cut create
    (take 30 (created (0 ∷ [])), text "X 1\nE 1\n") ∷
    -- create again
    (created (0 ∷ []) ++ drop 1 (created (0 ∷ [])), text "X 36\nDAY 0\nE 2\n") ∷
    -- another kind
    (created (0 ∷ []) ++ hex "000108", text "X 36\nDAY 0\nE 2\n") ∷
    -- a record of length 0
    (created (0 ∷ []) ++ hex "0000", text "X 36\nDAY 0\nE 2\n") ∷
    -- a stray byte
    (created (0 ∷ []) ++ hex "00", text "X 36\nDAY 0\nE 2\n") ∷
    -- another length for its kind
    (created (0 ∷ []) ++ hex "000d01000000000000000000000000", text "X 36\nDAY 0\nE 2\n") ∷
    (created (0 ∷ []) ++ hex "000f010000000000000000000000000000", text "X 36\nDAY 0\nE 2\n") ∷
    (created (0 ∷ []) ++ hex "000d02000000000000000000000000", text "X 36\nDAY 0\nE 2\n") ∷
    (created (0 ∷ []) ++ hex "000f020000000000000000000000000000", text "X 36\nDAY 0\nE 2\n") ∷
    (created (0 ∷ []) ++ hex "00020300", text "X 36\nDAY 0\nE 2\n") ∷
    (created (0 ∷ []) ++ hex "000403000000", text "X 36\nDAY 0\nE 2\n") ∷
    (created (0 ∷ []) ++ hex "00020400", text "X 36\nDAY 0\nE 2\n") ∷
    (created (0 ∷ []) ++ hex "000a05000000000000000000", text "X 36\nDAY 0\nE 2\n") ∷
    (created (0 ∷ []) ++ hex "000c050000000000000000000000", text "X 36\nDAY 0\nE 2\n") ∷
    (created (0 ∷ []) ++ hex "000a06000000000000000000", text "X 36\nDAY 0\nE 2\n") ∷
    (created (0 ∷ []) ++ hex "000c060000000000000000000000", text "X 36\nDAY 0\nE 2\n") ∷
    (created (0 ∷ []) ++ hex "000107", text "X 36\nDAY 0\nE 2\n") ∷
    (created (0 ∷ []) ++ hex "0003070000", text "X 36\nDAY 0\nE 2\n") ∷
    -- a cut record
    (created (0 ∷ []) ++ hex "00030300", text "X 36\nDAY 0\nE 2\n") ∷
    -- a length past the end
    (created (0 ∷ []) ++ hex "ffff04", text "X 36\nDAY 0\nE 2\n") ∷
    -- the records before a 19 stand, those behind it are not read
    (created (0 ∷ []) ++ hex "000104000109000104", text "X 39\nDAY 1\nE 2\n") ∷
    -- a refused call, a roll, and a stray byte
    (created (0 ∷ []) ++ hex "0003030007000104ff", text "R 1 8\nX 44\nDAY 1\nE 3\n") ∷
    []

damaged_are : map (λ (r : Row). sheet_of r.0) damaged ≡ map (λ (r : Row). r.1) damaged
unfolding everything damaged
damaged_are = refl

-- a file past 65,535 bytes gives R 0 18 and E 1, whatever it holds; one of 65,535 is read
too_long : sheet_of (replicate 65_536 0) ≡ text "R 0 18\nE 1\n"
unfolding everything
too_long = refl

just_fits : sheet_of (replicate 65_535 0) ≡ text "X 0\nE 1\n"
unfolding everything
just_fits = refl
