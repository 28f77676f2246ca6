-- A run is for one security, and for records that are due (document 01, "Settlement run"): others stay. A file, and what the sheet prints
-- of the book that its calls leave.
use Rattle.std.specs.Prelude.{◌≡◌, refl, List, [], ◌∷◌, ◌++◌, ℕ, Some}
use Rattle.rules.specs.Words.{each, text}
use Rattle.rules.specs.CallFile.{contents_of}
use Rattle.rules.specs.Sheet.{text_of, book_lines, sheet_of}
use Rattle.rules.specs.Opened.{everything}
use Rattle.rules.specs.Written.{hex, created, book_with, through}

-- the lines of the book, after the calls of a file that creates security 0 in currency 0 and security 1 in currency 1
abbrev printed : List ℕ → List ℕ
printed file = each text_of (book_lines (Some (through (book_with (0 ∷ 1 ∷ [])) (contents_of file).calls)))

abbrev two_securities_file : List ℕ
two_securities_file =
    created (0 ∷ 1 ∷ [])
    -- enter 1: 1 buys 10 of 0 from 2 at 100
    ++ hex "000e 01 0001 01 02 00 0000000a 00000064"
    -- enter 2: 1 buys 5 of 1 from 2 at 200
    ++ hex "000e 01 0002 01 02 01 00000005 000000c8"
    -- roll
    ++ hex "0001 04"
    -- enter 1: 3 buys 4 of 0 from 2 at 101
    ++ hex "000e 01 0001 03 02 00 00000004 00000065"
    -- roll
    ++ hex "0001 04"
    -- deposit 20 of 0, and 20 of 1, to 2
    ++ hex "000b 05 02 00 0000000000000014"
    ++ hex "000b 05 02 01 0000000000000014"
    -- run 0
    ++ hex "0002 07 00"

-- the records of security 1 stay, and so do those that are due tomorrow
one_security : printed two_securities_file ≡ text "DAY 2\n"
    ++ text "P 4129 1 1 5 1000\n"
    ++ text "P 4161 2 1 -5 -1000\n"
    ++ text "P 6208 2 0 -4 -404\n"
    ++ text "P 6240 3 0 4 404\n"
    ++ text "C 1 0 1000\n"
    ++ text "C 2 0 -1000\n"
unfolding everything
one_security = refl

-- with run 1 too, the whole sheet: charges stand by account, then currency
both_securities : sheet_of (two_securities_file ++ hex "0002 07 01") ≡ text "DAY 2\n"
    ++ text "P 6208 2 0 -4 -404\n"
    ++ text "P 6240 3 0 4 404\n"
    ++ text "C 1 0 1000\n"
    ++ text "C 1 1 1000\n"
    ++ text "C 2 0 -1000\n"
    ++ text "C 2 1 -1000\n"
    ++ text "E 7\n"
unfolding everything
both_securities = refl
