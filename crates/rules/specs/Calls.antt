-- The calls that alter the book (document 01, "Refusal numbers" and the rules of each): refusals in their order, answer and figure,
-- the book that is left, and every byte of it.
use Rattle.std.specs.Prelude.{Bool, cond, not, ◌||◌, List, [], ◌∷◌, ℕ, ◌+◌, ◌-◌, eqb, leb, length, set, ℤ, pos, Result, Ok, Err}
use Rattle.units.specs.Units.{shares_of, shares}
use Rattle.units.specs.declared.Shares.{Shares}
use Rattle.rules.specs.Words.{all, above, outside, Test, first}
use Rattle.rules.specs.Bounds.{securities, last_day, most_records, most_trades, most_held, most_deposited}
use Rattle.rules.specs.Book.{list_of, with_list, with_holdings, held_by, holding_at, empty_book}
use Rattle.rules.specs.Layout.{book_length, book_of, bytes_of}
use Rattle.rules.specs.Sound.{sound, not_sound, is_code, total_held}
use Rattle.rules.specs.Trades.{used, stands, entered, amended, excluded, no_account, bad_accounts, bad_security, bad_quantity, bad_price, same_account}
use Rattle.rules.specs.Roll.{rolled, open_plus_nets}
use Rattle.rules.specs.Run.{deliverable, wanted, shares_moved, settled}
use Rattle.rules.specs.declared.Trade.{Trade}
use Rattle.rules.specs.declared.Book.{Book}

pub data Call : Type 0 where
  enter : Trade → Call
  amend : Trade → Call
  exclude : (number : ℕ) → Call
  roll : Call
  deposit : (account security quantity : ℕ) → Call
  withdraw : (account security quantity : ℕ) → Call
  run : (security : ℕ) → Call

-- 4: deposit or withdrawal outside 1 to 10^12
unfoldable pub bad_deposit : ℕ → Bool
bad_deposit q = outside 1 most_deposited q

-- what enter and amend check of the fields alike
unfoldable pub field_tests : Book → Trade → List Test → List Test
field_tests k t rest =
    (bad_accounts t, 2) ∷
    (bad_security k t.security, 3) ∷
    (bad_quantity t, 4) ∷
    (bad_price t, 5) ∷
    (same_account t, 6) ∷
    rest

-- what deposit and withdraw check alike
unfoldable pub holding_tests : Book → ℕ → ℕ → ℕ → List Test → List Test
holding_tests k a s q rest = (no_account a, 2) ∷ (bad_security k s, 3) ∷ (bad_deposit q, 4) ∷ rest

-- Checks go by ascending number. (1 is checked before all of these.)
unfoldable pub tests : Book → Call → List Test
tests k (enter t) = field_tests k t ((eqb t.number 0 || used t.number (list_of k), 7) ∷ (leb most_trades k.entries, 9) ∷ [])
tests k (amend t) = field_tests k t ((not (stands t.number (list_of k)), 8) ∷ [])
tests k (exclude n) = (not (stands n (list_of k)), 8) ∷ []
tests k roll = (above most_records (open_plus_nets k), 10) ∷ (eqb k.day last_day, 14) ∷ []
tests k (deposit a s q) = holding_tests k a s q ((above most_held (total_held k.holdings s + q), 12) ∷ [])
tests k (withdraw a s q) = holding_tests k a s q ((above (held_by k a s) q, 11) ∷ [])
tests k (run s) = (bad_security k s, 3) ∷ (above (wanted k s) (deliverable k s), 13) ∷ []

-- the book that an accepted call leaves
unfoldable pub after : Book → Call → Book
after k (enter t) = with_list k (entered (list_of k) t)
after k (amend t) = with_list k (amended (list_of k) t)
after k (exclude n) = with_list k (excluded (list_of k) n)
after k roll = rolled k
after k (deposit a s q) = with_holdings k (set k.holdings (holding_at a s) (held_by k a s + q))
after k (withdraw a s q) = with_holdings k (set k.holdings (holding_at a s) (held_by k a s - q))
after k (run s) = settled k s

-- the figure that an accepted call answers: a run the shares moved, 0 included; the others have none
unfoldable pub figure : Book → Call → ℕ
figure k (enter t) = 0
figure k (amend t) = 0
figure k (exclude n) = 0
figure k roll = 0
figure k (deposit a s q) = 0
figure k (withdraw a s q) = 0
figure k (run s) = shares_moved k s

-- the answer on a sound book, and on any book: 0, or the refusal number
unfoldable pub answer_sound : Book → Call → ℕ
answer_sound k c = first (tests k c)

unfoldable pub answer : Book → Call → ℕ
answer k c = first ((not (sound k), 1) ∷ tests k c)

-- ── over lent bytes ──

unfoldable pub answer_bytes : List ℕ → Call → ℕ
answer_bytes bs c = first ((not_sound bs, 1) ∷ tests (book_of bs) c)

-- A refused call alters nothing: the book keeps its bytes.
unfoldable pub after_bytes : List ℕ → Call → List ℕ
after_bytes bs c = cond (eqb (answer_bytes bs c) 0) (bytes_of (after (book_of bs) c)) bs

-- A refusal returns zero in each figure.
unfoldable pub figure_bytes : List ℕ → Call → ℕ
figure_bytes bs c = cond (eqb (answer_bytes bs c) 0) (figure (book_of bs) c) 0

-- the answer of a run as it is returned: the shares moved, or the refusal by its number
unfoldable pub run_answer : List ℕ → ℕ → Result Shares ℕ
run_answer bs s = cond (eqb (answer_bytes bs (run s)) 0) (Ok (shares (pos (figure_bytes bs (run s))))) (Err (answer_bytes bs (run s)))

-- the paper's number of it, and its figure: zero when refused
unfoldable pub number_of_run : Result Shares ℕ → ℕ
number_of_run (Ok n) = 0
number_of_run (Err r) = r

unfoldable pub figure_of_run : Result Shares ℕ → ℤ
figure_of_run (Ok n) = shares_of n
figure_of_run (Err r) = pos 0

-- ── creation: 18, 3; it begins a new history and looks at no old byte ──

unfoldable pub create_tests : List ℕ → List ℕ → List Test
create_tests bs codes =
    (not (eqb (length bs) book_length) || not (eqb (length codes) securities), 18) ∷
    (not (all is_code codes), 3) ∷
    []

unfoldable pub create_answer : List ℕ → List ℕ → ℕ
create_answer bs codes = first (create_tests bs codes)

unfoldable pub create_bytes : List ℕ → List ℕ → List ℕ
create_bytes bs codes = cond (eqb (create_answer bs codes) 0) (bytes_of (empty_book codes)) bs
