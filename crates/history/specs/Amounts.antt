-- What the theorems about totals and holdings count: open shares, open and charged money, shares deposited and withdrawn, shares held in a run (demand 3).
use Rattle.std.specs.Prelude.{cond, ◌&&◌, List, [], ◌∷◌, ℕ, eqb, get_or, ℤ, ◌+ℤ◌}
use Rattle.integers.specs.Sums.{sum_by}
use Rattle.rules.specs.Words.{keep, total}
use Rattle.rules.specs.Bounds.{every_account}
use Rattle.rules.specs.Book.{quantity_of, money_of, security_of, open_of, currency_of, holding_at, charge_of}
use Rattle.rules.specs.Run.{Meeting, taken}
use Rattle.rules.specs.Calls.{Call, enter, amend, exclude, roll, deposit, withdraw, run}
use Rattle.rules.specs.CallFile.{left}
use Rattle.rules.specs.declared.Book.{Book}
use Rattle.laws.specs.Backed.{unmet}
use Rattle.history.specs.Histories.{accepted, log_of, is_roll}

-- ── shares and money, over all accounts ──

-- the open quantities of a security
unfoldable pub open_shares : Book → ℕ → ℤ
open_shares k s = sum_by quantity_of (keep (λ p. eqb (security_of p) s) (open_of k))

-- the money still open in a currency
unfoldable pub money_open : Book → ℕ → ℤ
money_open k c = sum_by money_of (keep (λ p. eqb (currency_of k (security_of p)) c) (open_of k))

-- the day's charges in a currency
unfoldable pub day_charges : Book → ℕ → ℤ
day_charges k c = sum_by (λ a. charge_of k a c) every_account

-- the money ever charged: at each accepted roll the charges of the day that ends, and today's
unfoldable pub ever_charged : Book → List Call → ℕ → ℤ
ever_charged k [] c = day_charges k c
ever_charged k (x ∷ cs) c =
    let later = ever_charged (left k x) cs c in
    cond (accepted k x && is_roll x) (day_charges k c +ℤ later) later

-- ── shares of a security that came in and went out, by the log of accepted calls ──

unfoldable pub brings_in : ℕ → Call → ℕ
brings_in s (enter t) = 0
brings_in s (amend t) = 0
brings_in s (exclude n) = 0
brings_in s roll = 0
brings_in s (deposit a u q) = cond (eqb u s) q 0
brings_in s (withdraw a u q) = 0
brings_in s (run u) = 0

unfoldable pub takes_out : ℕ → Call → ℕ
takes_out s (enter t) = 0
takes_out s (amend t) = 0
takes_out s (exclude n) = 0
takes_out s roll = 0
takes_out s (deposit a u q) = 0
takes_out s (withdraw a u q) = cond (eqb u s) q 0
takes_out s (run u) = 0

unfoldable pub deposited : Book → List Call → ℕ → ℕ
deposited k cs s = total (brings_in s) (log_of k cs)

unfoldable pub withdrawn : Book → List Call → ℕ → ℕ
withdrawn k cs s = total (takes_out s) (log_of k cs)

-- ── holdings in a run ──

-- what an account holds of security s at the moment behind the meetings ms of a run of it
unfoldable pub held_then : Book → ℕ → List Meeting → ℕ → ℕ
held_then k s ms a = get_or (taken k s (unmet k) ms).holdings (holding_at a s) 0
