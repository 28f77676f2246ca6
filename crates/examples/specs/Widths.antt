-- Fields of a record have their whole width (document 01, "Call file and sheet": number 2, quantity and price 4, shares of a deposit 8 bytes): numbers whose high
-- byte alone decides.
use Rattle.std.specs.Prelude.{◌≡◌, refl, List, [], ◌∷◌, ◌++◌, ℕ, pos, neg_ℤ}
use Rattle.rules.specs.CallFile.{contents_of}
use Rattle.rules.specs.Opened.{everything}
use Rattle.rules.specs.Written.{hex, created, book_with, answers, through, shown}

abbrev widths_file : List ℕ
widths_file =
    created (0 ∷ [])
    -- enter 1: 1 buys 16,777,217 of 0 from 2 at 1
    ++ hex "000e 01 0001 01 02 00 01000001 00000001"
    -- enter 1: 1 buys 1 of 0 from 2 at 16,777,217
    ++ hex "000e 01 0001 01 02 00 00000001 01000001"
    -- enter 261: 1 buys 3 of 0 from 2 at 1
    ++ hex "000e 01 0105 01 02 00 00000003 00000001"
    -- enter 5: 1 buys 4 of 0 from 2 at 1
    ++ hex "000e 01 0005 01 02 00 00000004 00000001"
    -- amend 517: not in the list
    ++ hex "000e 02 0205 01 02 00 00000004 00000001"
    -- exclude 517: not in the list; exclude 261, and again
    ++ hex "0003 03 0205"
    ++ hex "0003 03 0105"
    ++ hex "0003 03 0105"
    -- deposit and withdraw 2^56 + 5 of 0, account 1
    ++ hex "000b 05 01 00 0100000000000005"
    ++ hex "000b 06 01 00 0100000000000005"
    -- roll
    ++ hex "0001 04"

widths : answers (book_with (0 ∷ [])) (contents_of widths_file).calls ≡ 4 ∷ 5 ∷ 0 ∷ 0 ∷ 8 ∷ 8 ∷ 0 ∷ 8 ∷ 4 ∷ 4 ∷ 0 ∷ []
unfolding everything
widths = refl

-- trade 261 was excluded, trade 5 stands
trade_5_stands : shown (through (book_with (0 ∷ [])) (contents_of widths_file).calls)
    ≡ pos 4_128 ∷ pos 4 ∷ pos 4
    ∷ pos 4_160 ∷ neg_ℤ (pos 4) ∷ neg_ℤ (pos 4)
    ∷ pos 0 ∷ pos 0 ∷ pos 0 ∷ pos 0 ∷ []
unfolding everything
trade_5_stands = refl
