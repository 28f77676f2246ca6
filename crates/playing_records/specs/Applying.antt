-- The call of one record on the lent bytes of a book: its answer, its figure and the bytes that it leaves.
use Rattle.std.specs.Prelude.{◌≡◌, Option, Some, None, List, ℕ, eqb, nat_abs}
use Rattle.std.proofs.Common.{ap}
use Rattle.laws.specs.Cases.{by_test}
use Rattle.laws.specs.EnumAnswers.{run_figure}
use Rattle.rules.specs.Layout.{book_of}
use Rattle.rules.specs.Calls.{Call, enter, amend, exclude, roll, deposit, withdraw, run, figure, answer_bytes, figure_bytes, after_bytes, run_answer, figure_of_run}
use Rattle.callfile_format.specs.declared.reading.Read.{Read}
use Rattle.callfile_format.specs.declared.reading.Read.TheVariants as read

-- the call of a record that was read: a create makes a book and is no call on one
unfoldable pub call_in : Option Read → Option Call
call_in None = None
call_in (Some read.Create) = None
call_in (Some (read.Enter t)) = Some (enter t)
call_in (Some (read.Amend t)) = Some (amend t)
call_in (Some (read.Exclude n)) = Some (exclude n)
call_in (Some read.Roll) = Some roll
call_in (Some (read.Deposit a s q)) = Some (deposit a s q)
call_in (Some (read.Withdraw a s q)) = Some (withdraw a s q)
call_in (Some (read.Run s)) = Some (run s)

-- its number and its figure, 19 and the place where there is no call; and the bytes that it leaves
unfoldable pub number_by : List ℕ → Option Call → ℕ
number_by bs None = 19
number_by bs (Some c) = answer_bytes bs c

unfoldable pub figure_by : List ℕ → ℕ → Option Call → ℕ
figure_by bs place None = place
figure_by bs place (Some c) = figure_bytes bs c

unfoldable pub bytes_by : List ℕ → Option Call → List ℕ
bytes_by bs None = bs
bytes_by bs (Some c) = after_bytes bs c

abbrev pub Applied : List ℕ → ℕ → Option Read → ℕ → ℕ → List ℕ → Type 0
Applied bs place found n f new = (n ≡ number_by bs (call_in found)) × (f ≡ figure_by bs place (call_in found)) × (new ≡ bytes_by bs (call_in found))

-- ── only a run has a figure ──

module _ (bs : List ℕ) where
  pub figure_none : (c : Call) → figure (book_of bs) c ≡ 0 → figure_bytes bs c ≡ 0
  unfolding figure_bytes
  figure_none c e = by_test (eqb (answer_bytes bs c) 0) (λ y. rw (y, e)) (λ y. rw y)

  pub ran_figure : (s : ℕ) → nat_abs (figure_of_run (run_answer bs s)) ≡ figure_bytes bs (run s)
  ran_figure s = ap nat_abs (run_figure bs s)
