-- "No call on behalf of one account changes what marks answer for another": entry, amendment and exclusion of trades, deposits and withdrawals keep the
-- records of every account; so does any refused call. (That no call alters the currency table is in history/specs/Steps.)
use Rattle.std.specs.Prelude.{◌≡◌, refl, true, not, List, ℕ}
use Rattle.std.proofs.Common.{ap, ◌∙◌, eqb-true}
use Rattle.std.proofs.lemmas.Bool.{not-false}
use Rattle.rules.specs.Book.{open_of, with_list, with_holdings}
use Rattle.rules.specs.Sound.{sound}
use Rattle.rules.specs.Marks.{marked_of}
use Rattle.rules.specs.Calls.{Call, enter, amend, exclude, roll, deposit, withdraw, run, tests, after, answer}
use Rattle.rules.specs.CallFile.{left}
use Rattle.rules.specs.declared.Trade.{Trade}
use Rattle.rules.specs.declared.Book.{Book}
use Rattle.laws.specs.Cases.{by_test}
use Rattle.laws.specs.Accepted.{passed}
use Rattle.history.specs.Histories.{accepted}
use Rattle.history.specs.Steps.{left_yes, left_no}

-- ── the five calls that alter the list or the holdings ──

unfoldable pub Plain : Call → Type 0
Plain (enter t) = Unit {0}
Plain (amend t) = Unit {0}
Plain (exclude n) = Unit {0}
Plain roll = ⊥
Plain (deposit a s q) = Unit {0}
Plain (withdraw a s q) = Unit {0}
Plain (run s) = ⊥

-- ── the records ──

list_open : (k : Book) (ts : List Trade) → open_of (with_list k ts) ≡ open_of k
unfolding open_of with_list
list_open k ts = refl

holdings_open : (k : Book) (hs : List ℕ) → open_of (with_holdings k hs) ≡ open_of k
unfolding open_of with_holdings
holdings_open k hs = refl

after_open : (k : Book) (c : Call) → Plain c → open_of (after k c) ≡ open_of k
unfolding after Plain
after_open k (enter t) e = list_open k _
after_open k (amend t) e = list_open k _
after_open k (exclude n) e = list_open k _
after_open k roll e = absurd e
after_open k (deposit a s q) e = holdings_open k _
after_open k (withdraw a s q) e = holdings_open k _
after_open k (run s) e = absurd e

-- a call is accepted of a sound book only
pub accepted_sound : (k : Book) (c : Call) → accepted k c ≡ true → sound k ≡ true
unfolding answer
accepted_sound k c e = not-false (sound k) (passed (not (sound k)) 0 (tests k c) (eqb-true (answer k c) 0 e)).0

-- what an accepted call keeps, any call does: a refused one leaves the book as it was
pub left_records : (k : Book) (c : Call) (a : ℕ) → (accepted k c ≡ true → marked_of (after k c) a ≡ marked_of k a) → marked_of (left k c) a ≡ marked_of k a
left_records k c a h =
    by_test (accepted k c)
    (λ e. ap (λ (m : Book). marked_of m a) (left_yes k c e) ∙ h e)
    (λ e. ap (λ (m : Book). marked_of m a) (left_no k c e))

same_open : (m k : Book) (a : ℕ) → open_of m ≡ open_of k → marked_of m a ≡ marked_of k a
unfolding marked_of
same_open m k a e = rw e

-- a call on the list or the holdings: the records of every account stay
pub untouched_records : (k : Book) (c : Call) (a : ℕ) → Plain c → marked_of (left k c) a ≡ marked_of k a
untouched_records k c a e = left_records k c a (λ y. same_open (after k c) k a (after_open k c e))
