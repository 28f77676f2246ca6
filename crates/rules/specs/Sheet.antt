-- The sheet (document 01, "Call file and sheet"): the text of a line, the lines of a file, and the writing of a line with its tally.
use Rattle.std.specs.Prelude.{Bool, cond, not, ◌&&◌, ◌||◌, List, [], ◌∷◌, ◌++◌, map, ℕ, zero, suc, ◌+◌, ◌/◌, ◌%◌, eqb, leb, ltb, length, drop, ℤ, pos, negsuc, Option, Some, None}
use Rattle.units.specs.Units.{shares_of, mils_of, mils}
use Rattle.rules.specs.Words.{each, text, above}
use Rattle.rules.specs.Bounds.{every_account, every_currency, most_tally}
use Rattle.rules.specs.Book.{is_zero, account_of, security_of, open_of, charge_of}
use Rattle.rules.specs.Layout.{book_length}
use Rattle.rules.specs.Prices.{Spot}
use Rattle.rules.specs.Records.{too_long}
use Rattle.rules.specs.CallFile.{Answer, Played, file_of, bytes_left}
use Rattle.rules.specs.declared.Position.{Position}
use Rattle.rules.specs.declared.Book.{Book}
use Rattle.rules.specs.declared.Tally.{Tally}
use Rattle.rules.specs.declared.Line.{Line}
use Rattle.rules.specs.declared.Line.TheVariants.{Refusal, Place, Day, Open, Charge, End}

-- ── the text of a line ──

-- Digits come most significant first, no leading zeros: a number below ten is one digit, any other is that of n / 10 and then n % 10.
-- (f bounds the digits.)
unfoldable pub digits_by : ℕ → ℕ → List ℕ
digits_by zero n = (48 + n) ∷ []
digits_by (suc f) n = let more = digits_by f (n / 10) ++ ((48 + n % 10) ∷ []) in cond (ltb n 10) ((48 + n) ∷ []) more

unfoldable pub decimal : ℕ → List ℕ
decimal n = digits_by n n

-- Minus for negatives.
unfoldable pub signed_decimal : ℤ → List ℕ
signed_decimal (pos n) = decimal n
signed_decimal (negsuc n) = text "-" ++ decimal (suc n)

-- One space between, newline after each.
unfoldable pub spaced : List (List ℕ) → List ℕ
spaced [] = text "\n"
spaced (w ∷ ws) = text " " ++ (w ++ spaced ws)

-- R record index, refusal; X place; DAY day; P number account security quantity money; C account currency charge; E lines
unfoldable pub text_of : Line → List ℕ
text_of (Refusal i n) = text "R" ++ spaced (decimal i ∷ decimal n ∷ [])
text_of (Place place) = text "X" ++ spaced (decimal place ∷ [])
text_of (Day d) = text "DAY" ++ spaced (decimal d ∷ [])
text_of (Open n a s q m) = text "P" ++ spaced (decimal n ∷ decimal a ∷ decimal s ∷ signed_decimal (shares_of q) ∷ signed_decimal (mils_of m) ∷ [])
text_of (Charge a c m) = text "C" ++ spaced (decimal a ∷ decimal c ∷ signed_decimal (mils_of m) ∷ [])
text_of (End n) = text "E" ++ spaced (decimal n ∷ [])

-- ── the lines of a sheet ──

-- For each refused call, R record index from 0, refusal; for 19, X place;
unfoldable pub answer_line : ℕ → Answer → List Line
answer_line i a =
    cond (eqb a.number 0) []
    (cond (eqb a.number 19) (Place a.figure ∷ []) (Refusal i a.number ∷ []))

unfoldable pub answer_lines : ℕ → List Answer → List Line
answer_lines i [] = []
answer_lines i (a ∷ rest) = answer_line i a ++ answer_lines (suc i) rest

-- P by number;
unfoldable pub open_line : Position → Line
open_line p = Open p.number (account_of p) (security_of p) p.quantity p.money

-- C by account then currency, zero charges omitted;
unfoldable pub charge_line : Book → ℕ → ℕ → List Line
charge_line k a c = cond (is_zero (charge_of k a c)) [] (Charge a c (mils (charge_of k a c)) ∷ [])

unfoldable pub charge_lines : Book → List Line
charge_lines k = each (λ a. each (charge_line k a) every_currency) every_account

-- if a book exists, DAY, P, C;
unfoldable pub book_lines : Option Book → List Line
book_lines None = []
book_lines (Some k) = Day k.day ∷ (map open_line (open_of k) ++ charge_lines k)

-- last in every sheet E and the lines above it.
unfoldable pub ended : List Line → List Line
ended ls = ls ++ (End (length ls) ∷ [])

unfoldable pub lines_of : Played → List Line
lines_of f = ended (answer_lines 0 f.answers ++ book_lines f.book)

-- A file refused by 18 gives R 0 18 and E 1.
unfoldable pub refused_sheet : List Line
refused_sheet = ended (Refusal 0 18 ∷ [])

-- The sheet of a call file.
unfoldable pub sheet_of : List ℕ → List ℕ
sheet_of file = each text_of (cond (too_long file) refused_sheet (lines_of (file_of file)))

-- ── the whole sheet as one call: a book's room, a file and a lent buffer ──

-- 18: the book's room has the wrong length, or the sheet doesn't fit; then nothing is altered. A file past 65,535 bytes is not refused here:
-- its sheet is R 0 18, E 1, and the book stays.
unfoldable pub sheet_refused : List ℕ → List ℕ → List ℕ → Bool
sheet_refused book file buffer = not (eqb (length book) book_length) || above (length buffer) (length (sheet_of file))

unfoldable pub sheet_answer : List ℕ → List ℕ → List ℕ → ℕ
sheet_answer book file buffer = cond (sheet_refused book file buffer) 18 0

-- how long the sheet is, and the buffer with the sheet in front; bytes beyond it stay
unfoldable pub sheet_size : List ℕ → List ℕ → List ℕ → ℕ
sheet_size book file buffer = cond (sheet_refused book file buffer) 0 (length (sheet_of file))

unfoldable pub sheet_bytes : List ℕ → List ℕ → List ℕ → List ℕ
sheet_bytes book file buffer =
    cond (sheet_refused book file buffer) buffer (sheet_of file ++ drop (length (sheet_of file)) buffer)

-- the book that the file leaves
unfoldable pub sheet_book : List ℕ → List ℕ → List ℕ → List ℕ
sheet_book book file buffer =
    cond (sheet_refused book file buffer || too_long file) book (bytes_left book (file_of file).book)

-- ── a line is written into a lent buffer, with a tally of lines and bytes ──

-- 18: the line doesn't fit; neither lines nor bytes pass 1,000,000
unfoldable pub line_answer : ℕ → Line → Tally → ℕ
line_answer room l t =
    cond (leb (length (text_of l)) room && (leb (t.lines + 1) most_tally && leb (t.bytes + length (text_of l)) most_tally)) 0 18

-- The written part is handed back, an empty one where refused;
unfoldable pub line_part : List ℕ → Line → Tally → List ℕ
line_part buffer l t = cond (eqb (line_answer (length buffer) l t) 0) (text_of l) []

-- which is the front of that buffer, refused or not (a spot is a region of memory and a byte in it);
unfoldable pub line_spot : Spot → Spot
line_spot buffer = buffer

-- bytes beyond it stay.
unfoldable pub line_bytes : List ℕ → Line → Tally → List ℕ
line_bytes buffer l t = let part = line_part buffer l t in part ++ drop (length part) buffer

-- The tally is moved on by every line.
unfoldable pub line_tally : ℕ → Line → Tally → Tally
line_tally room l t =
    cond (eqb (line_answer room l t) 0) (record { lines = t.lines + 1; bytes = t.bytes + length (text_of l) }) t
