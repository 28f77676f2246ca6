-- The whole example of document 01: its 104 bytes, and its sheet.
use Rattle.std.specs.Prelude.{◌≡◌, refl, List, [], ◌∷◌, ◌++◌, ℕ, length}
use Rattle.rules.specs.Words.{text}
use Rattle.rules.specs.Sheet.{sheet_of}
use Rattle.rules.specs.Opened.{everything}
use Rattle.rules.specs.Written.{hex, created}

abbrev pub example : List ℕ
example =
    -- version 1; create: security 0 in currency 0, the rest unlisted
    created (0 ∷ [])
    -- enter 1: account 1 buys 1,000 of security 0 from 2 at 10,500
    ++ hex "000e 01 0001 01 02 00 000003e8 00002904"
    -- enter 2: account 2 buys 400 from 3 at 10,600
    ++ hex "000e 01 0002 02 03 00 00000190 00002968"
    -- deposit 250 to account 2, 400 to account 3
    ++ hex "000b 05 02 00 00000000000000fa"
    ++ hex "000b 05 03 00 0000000000000190"
    -- roll; roll; run 0
    ++ hex "0001 04" ++ hex "0001 04" ++ hex "0002 07 00"

abbrev pub sheet : List ℕ
sheet =
    text "DAY 2\n"
    ++ text "P 4128 1 0 350 3675000\n"
    ++ text "P 4160 2 0 -350 -3651667\n"
    ++ text "C 1 0 6825000\n"
    ++ text "C 2 0 -2608333\n"
    ++ text "C 3 0 -4240000\n"
    ++ text "E 6\n"

pub the_example : sheet_of example ≡ sheet
unfolding everything
the_example = refl

its_bytes : length example ≡ 104
unfolding everything
its_bytes = refl
