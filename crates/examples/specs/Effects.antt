-- What no printed line of the other examples shows: charges set to zero, another currency, what the receiver holds, the order of the list, a full list.
use Rattle.std.specs.Prelude.{◌≡◌, refl, List, [], ◌∷◌, ◌++◌, map, ℕ}
use Rattle.rules.specs.Words.{each, from, text}
use Rattle.rules.specs.Book.{with_list, list_of}
use Rattle.rules.specs.Calls.{Call, enter, amend, exclude, answer}
use Rattle.rules.specs.Sheet.{sheet_of}
use Rattle.rules.specs.Example.{example}
use Rattle.rules.specs.Opened.{everything}
use Rattle.rules.specs.Written.{hex, created, deal, book_with, through}
use Rattle.rules.specs.declared.Trade.{Trade}
use Rattle.rules.specs.declared.Book.{Book}

-- ── a charge is in the currency of its security, and is set to zero by the next roll ──

abbrev other_currency_file : List ℕ
other_currency_file =
    -- security 1 in currency 3
    created (0 ∷ 3 ∷ [])
    -- enter 1: 1 buys 100 of 1 from 2 at 10,000
    ++ hex "000e 01 0001 01 02 01 00000064 00002710"
    -- enter 2: 2 buys 100 of 1 from 1 at 11,000
    ++ hex "000e 01 0002 02 01 01 00000064 00002af8"
    -- roll; roll
    ++ hex "0001 04"
    ++ hex "0001 04"

other_currency : sheet_of other_currency_file ≡ text "DAY 2\nC 1 3 -100000\nC 2 3 100000\nE 3\n"
unfolding everything
other_currency = refl

set_to_zero : sheet_of (other_currency_file ++ hex "0001 04") ≡ text "DAY 3\nE 1\n"
unfolding everything
set_to_zero = refl

-- ── after the whole example the receiver holds 650 shares and no more, the givers none ──

abbrev withdrawals : List ℕ
withdrawals =
    -- withdraw 650 of 0 from 1, then 1 from 1, 2 and 3
    hex "000b 06 01 00 000000000000028a"
    ++ hex "000b 06 01 00 0000000000000001"
    ++ hex "000b 06 02 00 0000000000000001"
    ++ hex "000b 06 03 00 0000000000000001"

received : sheet_of (example ++ withdrawals)
    ≡ text "R 9 11\nR 10 11\nR 11 11\nDAY 2\nP 4128 1 0 350 3675000\nP 4160 2 0 -350 -3651667\n"
    ++ text "C 1 0 6825000\nC 2 0 -2608333\nC 3 0 -4240000\nE 9\n"
unfolding everything
received = refl

-- ── an entry stands last in the list; a trade that is amended or excluded keeps its place ──

-- a trade's number, buyer, seller, security, shares and price
abbrev row : Trade → List ℕ
row t = t.number ∷ t.buyer ∷ t.seller ∷ t.security ∷ t.quantity ∷ t.price.0 ∷ []

abbrev listed : List Call → List ℕ
listed calls = each row (list_of (through (book_with (0 ∷ 0 ∷ [])) calls))

abbrev three : List Call → List Call
three calls = enter (deal 7 1 2 0 5 10) ∷ enter (deal 3 2 1 0 6 11) ∷ enter (deal 9 3 1 1 7 12) ∷ calls

entered_last : listed (three []) ≡ 7 ∷ 1 ∷ 2 ∷ 0 ∷ 5 ∷ 10 ∷ 3 ∷ 2 ∷ 1 ∷ 0 ∷ 6 ∷ 11 ∷ 9 ∷ 3 ∷ 1 ∷ 1 ∷ 7 ∷ 12 ∷ []
unfolding everything
entered_last = refl

amended_in_place : listed (three (amend (deal 3 4 5 1 8 13) ∷ [])) ≡ 7 ∷ 1 ∷ 2 ∷ 0 ∷ 5 ∷ 10 ∷ 3 ∷ 4 ∷ 5 ∷ 1 ∷ 8 ∷ 13 ∷ 9 ∷ 3 ∷ 1 ∷ 1 ∷ 7 ∷ 12 ∷ []
unfolding everything
amended_in_place = refl

excluded_in_place : listed (three (exclude 7 ∷ [])) ≡ 7 ∷ 0 ∷ 0 ∷ 0 ∷ 0 ∷ 0 ∷ 3 ∷ 2 ∷ 1 ∷ 0 ∷ 6 ∷ 11 ∷ 9 ∷ 3 ∷ 1 ∷ 1 ∷ 7 ∷ 12 ∷ []
unfolding everything
excluded_in_place = refl

-- ── 9: the list has 256 numbers, excluded ones counted; a used number is 7 ──

unfoldable full_list : Book
full_list = with_list (book_with (0 ∷ [])) (map (λ n. deal n 0 0 0 0 0) (from 1 256))

no_room : answer full_list (enter (deal 300 1 2 0 1 1)) ∷ answer full_list (enter (deal 7 1 2 0 1 1)) ∷ [] ≡ 9 ∷ 7 ∷ []
unfolding everything full_list
no_room = refl
