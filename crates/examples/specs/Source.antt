-- The worked examples of source document 001 as call files, in the house's units (a dollar is 1,000 mils), and their sheets.
use Rattle.std.specs.Prelude.{◌≡◌, refl, List, [], ◌∷◌, ◌++◌, ℕ}
use Rattle.rules.specs.Words.{text}
use Rattle.rules.specs.Sheet.{sheet_of}
use Rattle.rules.specs.Opened.{everything}
use Rattle.rules.specs.Written.{hex, created}

-- 10.3.2: one trade, two contracts; the house's own side is zero.
abbrev v02_file : List ℕ
v02_file =
    created (0 ∷ 0 ∷ [])
    -- enter 1: 1 buys 10,000 of 0 from 2 at 10,000
    ++ hex "000e 01 0001 01 02 00 00002710 00002710"
    -- roll
    ++ hex "0001 04"

v02 : sheet_of v02_file ≡ text "DAY 1\n"
    ++ text "P 4128 1 0 10000 100000000\n"
    ++ text "P 4160 2 0 -10000 -100000000\n"
    ++ text "E 3\n"
unfolding everything
v02 = refl

-- 10.3.3 and 10.5.2: daily netting; account 1 is short 20,000 shares for 170,000 dollars.
abbrev v03_file : List ℕ
v03_file =
    created (0 ∷ 0 ∷ [])
    -- enter 1: 2 buys 10,000 of 0 from 1 at 10,000
    ++ hex "000e 01 0001 02 01 00 00002710 00002710"
    -- enter 2: 2 buys 25,000 of 0 from 1 at 9,000
    ++ hex "000e 01 0002 02 01 00 000061a8 00002328"
    -- enter 3: 1 buys 20,000 of 0 from 3 at 11,000
    ++ hex "000e 01 0003 01 03 00 00004e20 00002af8"
    -- enter 4: 1 buys 10,000 of 0 from 4 at 10,000
    ++ hex "000e 01 0004 01 04 00 00002710 00002710"
    -- enter 5: 5 buys 15,000 of 0 from 1 at 11,000
    ++ hex "000e 01 0005 05 01 00 00003a98 00002af8"
    -- roll
    ++ hex "0001 04"

v03 : sheet_of v03_file ≡ text "DAY 1\n"
    ++ text "P 4128 1 0 -20000 -170000000\n"
    ++ text "P 4160 2 0 35000 325000000\n"
    ++ text "P 4192 3 0 -20000 -220000000\n"
    ++ text "P 4224 4 0 -10000 -100000000\n"
    ++ text "P 4256 5 0 15000 165000000\n"
    ++ text "E 6\n"
unfolding everything
v03 = refl

-- 10.3.4: two opposite positions over two days; 200 dollars are charged, 1,000 shares stay.
abbrev v04_file : List ℕ
v04_file =
    created (0 ∷ 0 ∷ [])
    -- enter 1: 2 buys 2,000 of 0 from 1 at 1,100
    ++ hex "000e 01 0001 02 01 00 000007d0 0000044c"
    -- roll
    ++ hex "0001 04"
    -- enter 1: 1 buys 3,000 of 0 from 3 at 1,200
    ++ hex "000e 01 0001 01 03 00 00000bb8 000004b0"
    -- roll
    ++ hex "0001 04"
    -- roll
    ++ hex "0001 04"

v04 : sheet_of v04_file ≡ text "DAY 3\n"
    ++ text "P 4160 2 0 2000 2200000\n"
    ++ text "P 6176 1 0 1000 1200000\n"
    ++ text "P 6240 3 0 -3000 -3600000\n"
    ++ text "C 1 0 200000\n"
    ++ text "E 5\n"
unfolding everything
v04 = refl

-- 10.3.6: three positions; the oldest is taken first, and a part of the next.
abbrev v06_file : List ℕ
v06_file =
    created (0 ∷ 0 ∷ [])
    -- enter 1: 2 buys 2,000 of 0 from 1 at 1,200
    ++ hex "000e 01 0001 02 01 00 000007d0 000004b0"
    -- roll
    ++ hex "0001 04"
    -- enter 1: 2 buys 1,000 of 0 from 1 at 1,300
    ++ hex "000e 01 0001 02 01 00 000003e8 00000514"
    -- roll
    ++ hex "0001 04"
    -- enter 1: 1 buys 2,600 of 0 from 3 at 1,500
    ++ hex "000e 01 0001 01 03 00 00000a28 000005dc"
    -- roll
    ++ hex "0001 04"
    -- roll
    ++ hex "0001 04"

v06 : sheet_of v06_file ≡ text "DAY 4\n"
    ++ text "P 4160 2 0 2000 2400000\n"
    ++ text "P 6176 1 0 -400 -520000\n"
    ++ text "P 6208 2 0 1000 1300000\n"
    ++ text "P 8288 3 0 -2600 -3900000\n"
    ++ text "C 1 0 720000\n"
    ++ text "E 6\n"
unfolding everything
v06 = refl

-- 10.5.7: the net money of a day.
abbrev v07_file : List ℕ
v07_file =
    created (0 ∷ 0 ∷ [])
    -- enter 1: 1 buys 1,000 of 0 from 2 at 10,000
    ++ hex "000e 01 0001 01 02 00 000003e8 00002710"
    -- roll
    ++ hex "0001 04"
    -- enter 1: 1 buys 3,000 of 0 from 2 at 20,000
    ++ hex "000e 01 0001 01 02 00 00000bb8 00004e20"
    -- enter 2: 3 buys 5,000 of 1 from 1 at 15,000
    ++ hex "000e 01 0002 03 01 01 00001388 00003a98"
    -- roll
    ++ hex "0001 04"
    -- roll
    ++ hex "0001 04"
    -- deposit 4,000 of 0 to 2
    ++ hex "000b 05 02 00 0000000000000fa0"
    -- deposit 5,000 of 1 to 1
    ++ hex "000b 05 01 01 0000000000001388"
    -- run 0
    ++ hex "0002 07 00"
    -- run 1
    ++ hex "0002 07 01"

v07 : sheet_of v07_file ≡ text "DAY 3\n"
    ++ text "C 1 0 -5000000\n"
    ++ text "C 2 0 -70000000\n"
    ++ text "C 3 0 75000000\n"
    ++ text "E 4\n"
unfolding everything
v07 = refl

-- 10.5.5, a departure: the source pays such money on the due day, the house when the shares move. Nothing is charged.
abbrev v08_file : List ℕ
v08_file =
    created (0 ∷ 0 ∷ [])
    -- enter 1: 1 buys 100 of 0 from 2 at 10,000
    ++ hex "000e 01 0001 01 02 00 00000064 00002710"
    -- enter 2: 2 buys 90 of 0 from 1 at 12,000
    ++ hex "000e 01 0002 02 01 00 0000005a 00002ee0"
    -- roll
    ++ hex "0001 04"
    -- roll
    ++ hex "0001 04"

v08 : sheet_of v08_file ≡ text "DAY 2\n"
    ++ text "P 4128 1 0 10 -80000\n"
    ++ text "P 4160 2 0 -10 80000\n"
    ++ text "E 3\n"
unfolding everything
v08 = refl

-- A net of 0 shares with money is a position until its due day.
abbrev v09_file : List ℕ
v09_file =
    created (0 ∷ 0 ∷ [])
    -- enter 1: 1 buys 100 of 0 from 2 at 10,000
    ++ hex "000e 01 0001 01 02 00 00000064 00002710"
    -- enter 2: 2 buys 100 of 0 from 1 at 11,000
    ++ hex "000e 01 0002 02 01 00 00000064 00002af8"
    -- roll
    ++ hex "0001 04"

v09 : sheet_of v09_file ≡ text "DAY 1\n"
    ++ text "P 4128 1 0 0 -100000\n"
    ++ text "P 4160 2 0 0 100000\n"
    ++ text "E 3\n"
unfolding everything
v09 = refl

-- 10.14.3: closing-out as an offset; the three charges come to 300 dollars.
abbrev v11_file : List ℕ
v11_file =
    created (0 ∷ 0 ∷ 0 ∷ [])
    -- enter 1: 1 buys 1,000 of 0 from 2 at 5,000
    ++ hex "000e 01 0001 01 02 00 000003e8 00001388"
    -- enter 2: 2 buys 2,000 of 1 from 1 at 4,000
    ++ hex "000e 01 0002 02 01 01 000007d0 00000fa0"
    -- enter 3: 1 buys 3,000 of 2 from 2 at 3,000
    ++ hex "000e 01 0003 01 02 02 00000bb8 00000bb8"
    -- roll
    ++ hex "0001 04"
    -- enter 1: 3 buys 1,000 of 0 from 1 at 5,500
    ++ hex "000e 01 0001 03 01 00 000003e8 0000157c"
    -- enter 2: 1 buys 2,000 of 1 from 3 at 4,500
    ++ hex "000e 01 0002 01 03 01 000007d0 00001194"
    -- enter 3: 3 buys 2,000 of 2 from 1 at 3,100
    ++ hex "000e 01 0003 03 01 02 000007d0 00000c1c"
    -- enter 4: 3 buys 1,000 of 2 from 1 at 3,000
    ++ hex "000e 01 0004 03 01 02 000003e8 00000bb8"
    -- roll
    ++ hex "0001 04"
    -- roll
    ++ hex "0001 04"

v11 : sheet_of v11_file ≡ text "DAY 3\n"
    ++ text "P 4160 2 0 -1000 -5000000\n"
    ++ text "P 4161 2 1 2000 8000000\n"
    ++ text "P 4162 2 2 -3000 -9000000\n"
    ++ text "P 6240 3 0 1000 5500000\n"
    ++ text "P 6241 3 1 -2000 -9000000\n"
    ++ text "P 6242 3 2 3000 9200000\n"
    ++ text "C 1 0 300000\n"
    ++ text "E 8\n"
unfolding everything
v11 = refl

-- A run: two records of one account share its holding, a receiver is filled by several givers, a giver serves several receivers.
abbrev many_file : List ℕ
many_file =
    created (0 ∷ [])
    -- enter 1: 3 buys 10 of 0 from 1 at 100
    ++ hex "000e 01 0001 03 01 00 0000000a 00000064"
    -- enter 2: 4 buys 7 of 0 from 2 at 100
    ++ hex "000e 01 0002 04 02 00 00000007 00000064"
    -- roll
    ++ hex "0001 04"
    -- enter 1: 5 buys 4 of 0 from 1 at 101
    ++ hex "000e 01 0001 05 01 00 00000004 00000065"
    -- roll
    ++ hex "0001 04"
    -- roll
    ++ hex "0001 04"
    -- deposit 12 of 0 to 1
    ++ hex "000b 05 01 00 000000000000000c"
    -- deposit 7 of 0 to 2
    ++ hex "000b 05 02 00 0000000000000007"
    -- run 0
    ++ hex "0002 07 00"

many : sheet_of many_file ≡ text "DAY 3\n"
    ++ text "P 6176 1 0 -2 -202\n"
    ++ text "P 6304 5 0 2 202\n"
    ++ text "C 1 0 -1202\n"
    ++ text "C 2 0 -700\n"
    ++ text "C 3 0 1000\n"
    ++ text "C 4 0 700\n"
    ++ text "C 5 0 202\n"
    ++ text "E 8\n"
unfolding everything
many = refl

-- A run leaves records of 0 shares that are not due.
abbrev not_due_file : List ℕ
not_due_file =
    created (0 ∷ [])
    -- enter 1: 1 buys 10 of 0 from 2 at 100
    ++ hex "000e 01 0001 01 02 00 0000000a 00000064"
    -- roll
    ++ hex "0001 04"
    -- enter 1: 1 buys 5 of 0 from 2 at 100
    ++ hex "000e 01 0001 01 02 00 00000005 00000064"
    -- enter 2: 2 buys 5 of 0 from 1 at 90
    ++ hex "000e 01 0002 02 01 00 00000005 0000005a"
    -- roll
    ++ hex "0001 04"
    -- deposit 10 of 0 to 2
    ++ hex "000b 05 02 00 000000000000000a"
    -- run 0
    ++ hex "0002 07 00"

not_due : sheet_of not_due_file ≡ text "DAY 2\n"
    ++ text "P 6176 1 0 0 50\n"
    ++ text "P 6208 2 0 0 -50\n"
    ++ text "C 1 0 1000\n"
    ++ text "C 2 0 -1000\n"
    ++ text "E 5\n"
unfolding everything
not_due = refl
