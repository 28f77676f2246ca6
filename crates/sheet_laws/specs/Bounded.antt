-- How long a sheet is (document 01, "Call file and sheet": of a tally of lines and bytes "neither passes 1,000,000, and a line that would take one past
-- it is refused by 18 (the program's sheets stay below it)"): the sheet of every file has at most 23,128 lines and 295,620 bytes.
use Rattle.std.specs.Prelude.{◌≡◌, refl, cond, ℕ}
use mathlib.Core.List.{List}
use Rattle.std.proofs.Math.ListN.{length}
use Rattle.rules.specs.Words.{each, text}
use Rattle.rules.specs.Records.{too_long}
use Rattle.rules.specs.CallFile.{file_of}
use Rattle.rules.specs.Sheet.{digits_by, decimal, spaced, text_of, ended, lines_of, refused_sheet, sheet_of}
use Rattle.rules.specs.declared.Line.{Line}

-- ── definitions ──

-- a line for each of at most 21,846 answers; DAY, 1,024 records and 256 charges; E
abbrev pub most_lines : ℕ
most_lines = 23_128

-- 11 bytes for each answer; 10 for DAY, 47 for each record and 28 for each charge; 8 for E
abbrev pub most_bytes : ℕ
most_bytes = 295_620

-- the lines of a file's sheet; its text is that of these lines
unfoldable pub lines_in : List ℕ → List Line
lines_in file = cond (too_long file) refused_sheet (lines_of (file_of file))

pub sheet_is : (file : List ℕ) → sheet_of file ≡ each text_of (lines_in file)
unfolding sheet_of lines_in
sheet_is file = refl

-- ── a file that is refused by 18 ──

pub refused_length : length (each text_of refused_sheet) ≡ 11
unfolding each refused_sheet ended text_of text spaced decimal digits_by
refused_length = refl

pub refused_lines : length refused_sheet ≡ 2
unfolding refused_sheet ended
refused_lines = refl
