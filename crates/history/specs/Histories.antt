-- Histories: calls made one after another, refused ones among them; and the words that the theorems about them are written in.
-- (Document 01, "Refusal numbers": a refused call alters nothing; demand 3.)
use Rattle.std.specs.Prelude.{◌≡◌, Bool, true, false, cond, not, List, [], ◌∷◌, ◌++◌, map, ℕ, eqb, Option, Some, None}
use Rattle.rules.specs.Words.{any, keep}
use Rattle.rules.specs.Trades.{is_excluded}
use Rattle.rules.specs.Calls.{Call, enter, amend, exclude, roll, deposit, withdraw, run, after, answer}
use Rattle.rules.specs.CallFile.{left}
use Rattle.rules.specs.declared.Trade.{Trade}
use Rattle.rules.specs.declared.Book.{Book}

-- the call is accepted
abbrev pub accepted : Book → Call → Bool
accepted k c = eqb (answer k c) 0

-- the book after the calls, made one after another: a refused one leaves it as it was
unfoldable pub made : Book → List Call → Book
made k [] = k
made k (c ∷ cs) = made (left k c) cs

-- the log of accepted calls, in their order
unfoldable pub log_of : Book → List Call → List Call
log_of k [] = []
log_of k (c ∷ cs) = let rest = log_of (left k c) cs in cond (accepted k c) (c ∷ rest) rest

-- ── kinds of calls ──

unfoldable pub is_roll : Call → Bool
is_roll (enter t) = false
is_roll (amend t) = false
is_roll (exclude n) = false
is_roll roll = true
is_roll (deposit a s q) = false
is_roll (withdraw a s q) = false
is_roll (run s) = false

-- deposits, withdrawals and runs
unfoldable pub is_other : Call → Bool
is_other (enter t) = false
is_other (amend t) = false
is_other (exclude n) = false
is_other roll = false
is_other (deposit a s q) = true
is_other (withdraw a s q) = true
is_other (run s) = true

-- ── a day: calls among which no roll is accepted ──

-- a roll is accepted among the calls
unfoldable pub rolls : Book → List Call → Bool
rolls k cs = any is_roll (log_of k cs)

-- the accepted deposits, withdrawals and runs, in their order
unfoldable pub others : Book → List Call → List Call
others k cs = keep is_other (log_of k cs)

-- ── the trades that survived a day, by its log alone ──

-- what the calls of a log leave of a trade that was entered before them: its last form; nothing where it was excluded, or the day is over
unfoldable pub last_of : Trade → List Call → List Trade
last_of t [] = t ∷ []
last_of t (enter u ∷ cs) = last_of t cs
last_of t (amend u ∷ cs) = last_of (cond (eqb u.number t.number) u t) cs
last_of t (exclude n ∷ cs) = let kept = last_of t cs in cond (eqb n t.number) [] kept
last_of t (roll ∷ cs) = []
last_of t (deposit a s q ∷ cs) = last_of t cs
last_of t (withdraw a s q ∷ cs) = last_of t cs
last_of t (run s ∷ cs) = last_of t cs

-- Each trade that was entered and not excluded, once, in its last accepted form, in the order of entry.
unfoldable pub last_forms : List Call → List Trade
last_forms [] = []
last_forms (enter t ∷ cs) = last_of t cs ++ last_forms cs
last_forms (amend t ∷ cs) = last_forms cs
last_forms (exclude n ∷ cs) = last_forms cs
last_forms (roll ∷ cs) = last_forms cs
last_forms (deposit a s q ∷ cs) = last_forms cs
last_forms (withdraw a s q ∷ cs) = last_forms cs
last_forms (run s ∷ cs) = last_forms cs

-- the same day without corrections: the same accepted deposits, withdrawals and runs in the same order, and only the trades that survived,
-- each once, in its last accepted form
unfoldable pub tidy : Book → List Call → List Call
tidy k cs = others k cs ++ map enter (last_forms (log_of k cs))

-- the calls os, and the entries of the trades us, each in their order, however they lie between each other
pub data Interleaved : List Call → List Trade → List Call → Type 0 where
  nothing : Interleaved [] [] []
  next_call : {c : Call} {os ds : List Call} {us : List Trade} → Interleaved os us ds → Interleaved (c ∷ os) us (c ∷ ds)
  next_entry : {t : Trade} {os ds : List Call} {us : List Trade} → Interleaved os us ds → Interleaved os (t ∷ us) (enter t ∷ ds)

-- ── the last accepted form of a number, by the log alone ──

unfoldable pub form_after : ℕ → Option Trade → Call → Option Trade
form_after n o (enter t) = cond (eqb t.number n) (Some t) o
form_after n o (amend t) = cond (eqb t.number n) (Some t) o
form_after n o (exclude m) = cond (eqb m n) None o
form_after n o roll = None
form_after n o (deposit a s q) = o
form_after n o (withdraw a s q) = o
form_after n o (run s) = o

-- the form of number n behind the calls of a log, o before them: none where it was excluded, or never entered
unfoldable pub last_form : ℕ → Option Trade → List Call → Option Trade
last_form n o [] = o
last_form n o (c ∷ cs) = last_form n (form_after n o c) cs

-- the trade of a number in a list
unfoldable pub find : ℕ → List Trade → Option Trade
find n [] = None
find n (t ∷ ts) = let other = find n ts in cond (eqb t.number n) (Some t) other

-- the trades of a list that are not excluded, in their order
unfoldable pub survivors : List Trade → List Trade
survivors ts = keep (λ t. not (is_excluded t)) ts

-- ── many days: the calls up to the last accepted roll, and those behind it ──

unfoldable pub past : Book → List Call → List Call
past k [] = []
past k (c ∷ cs) = let later = c ∷ past (left k c) cs in cond (rolls k (c ∷ cs)) later []

unfoldable pub today : Book → List Call → List Call
today k [] = []
today k (c ∷ cs) = let later = today (left k c) cs in cond (rolls k (c ∷ cs)) later (c ∷ cs)

-- the book that the day started with: the one after the last accepted roll, or the first one
unfoldable pub morning : Book → List Call → Book
morning k cs = made k (past k cs)

-- the calls end in an accepted roll
pub record EndsRolled (k : Book) (cs : List Call) : Type 0 where
  pub front : List Call
  pub ends : cs ≡ front ++ (roll ∷ [])
  pub taken : answer (made k front) roll ≡ 0

-- the roll of two books has the same answer, and leaves the same book
abbrev pub SameRoll : Book → Book → Type 0
SameRoll k j = (answer k roll ≡ answer j roll) × (after k roll ≡ after j roll)
