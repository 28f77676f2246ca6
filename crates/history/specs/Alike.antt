-- What the calls read and leave of a book: entry, amendment and exclusion leave its rest; deposit, withdrawal and run neither read nor alter its list;
-- the roll reads the list through its nets alone.
use Rattle.std.specs.Prelude.{◌≡◌, true, false, ℕ, ◌+◌, eqb, length}
use Rattle.std.proofs.Math.Path.{refl, ap}
use Rattle.std.proofs.Common.{sym, ap₂, ◌∙◌}
use Rattle.std.proofs.Math.Bool.{cond}
use mathlib.Core.List.{List, [], ◌∷◌, ◌++◌}
use Rattle.units.specs.declared.Mils.{Mils}
use Rattle.rules.specs.Words.{keep, first, above}
use Rattle.rules.specs.Bounds.{last_day, most_records}
use Rattle.rules.specs.Book.{open_of, list_of, currency_of, unlisted, held_by, with_open, with_list, with_holdings, with_charges, with_day}
use Rattle.rules.specs.Trades.{bad_security}
use Rattle.rules.specs.Nets.{nets}
use Rattle.rules.specs.Parts.{part_money, charged_to}
use Rattle.rules.specs.Roll.{remains, uncharged, netted, emptied, next_day, offset, rolled, open_plus_nets}
use Rattle.rules.specs.Run.{Meeting, Running, due_in, givers, receivers, deliverable, wanted, meetings, charged_for, met, taken, settled}
use Rattle.rules.specs.Calls.{Call, enter, amend, exclude, roll, deposit, withdraw, run, holding_tests, tests, after, answer_sound}
use Rattle.rules.specs.declared.Position.{Position}
use Rattle.rules.specs.declared.Book.{Book}
use Rattle.laws.specs.Cases.{true_false}
use Rattle.history.specs.Histories.{is_roll, is_other}
use Rattle.history.specs.Rest.{bare, bare_with}

-- ── entry, amendment, exclusion ──

pub list_call : (k : Book) (c : Call) → is_roll c ≡ false → is_other c ≡ false → bare (after k c) ≡ bare k
unfolding is_roll is_other after
list_call k (enter t) r o = bare_with k _
list_call k (amend t) r o = bare_with k _
list_call k (exclude n) r o = bare_with k _
list_call k roll r o = true_false refl r
list_call k (deposit a s q) r o = true_false refl o
list_call k (withdraw a s q) r o = true_false refl o
list_call k (run s) r o = true_false refl o

-- ── the run ──

module _ (k : Book) (s : ℕ) where
  charged_same : (n j : ℕ) (ps : List Position) (cs : List Mils) → charged_for (bare k) n j ps cs ≡ charged_for k n j ps cs
  unfolding charged_for charged_to currency_of bare with_list
  charged_same n j [] cs = refl
  charged_same n j (p ∷ ps) cs =
      ap (λ (other : List Mils). cond (eqb p.number n) (charged_to k cs p (part_money p j)) other) (charged_same n j ps cs)

  met_same : (x : Running) (m : Meeting) → met (bare k) s x m ≡ met k s x m
  unfolding met
  met_same x m =
      rw (
        charged_same m.receiver.number m.shares x.records (charged_for (bare k) m.giver.number m.shares x.records x.charges),
        charged_same m.giver.number m.shares x.records x.charges,
      )

  taken_same : (x : Running) (ms : List Meeting) → taken (bare k) s x ms ≡ taken k s x ms
  unfolding taken
  taken_same x [] = refl
  taken_same x (m ∷ ms) = rw (met_same x m) (taken_same (met k s x m) ms)

  meetings_same : meetings (bare k) s ≡ meetings k s
  unfolding meetings receivers givers due_in open_of bare with_list
  meetings_same = refl

  -- the rest that the meetings leave
  abbrev settling : Running → Book
  settling x = bare (with_open (with_holdings (with_charges k x.charges) x.holdings) (keep (remains k.day) x.records))

  run_rest : bare (settled (bare k) s) ≡ bare (settled k s)
  unfolding settled open_of bare with_list with_open with_holdings with_charges
  run_rest =
      let start : Running = record { records = open_of k; holdings = k.holdings; charges = k.charges } in
      ap settling (taken_same start (meetings (bare k) s) ∙ ap (taken k s start) meetings_same)

-- ── deposit, withdrawal, run ──

-- are answered by the rest
pub other_answer : (k : Book) (c : Call) → is_other c ≡ true → answer_sound (bare k) c ≡ answer_sound k c
unfolding is_other answer_sound tests holding_tests bad_security unlisted currency_of held_by wanted deliverable receivers givers due_in open_of bare with_list
other_answer k (enter t) o = true_false o refl
other_answer k (amend t) o = true_false o refl
other_answer k (exclude n) o = true_false o refl
other_answer k roll o = true_false o refl
other_answer k (deposit a s q) o = refl
other_answer k (withdraw a s q) o = refl
other_answer k (run s) o = refl

-- do to the rest what they do to its own book
pub other_rest : (k : Book) (c : Call) → is_other c ≡ true → bare (after (bare k) c) ≡ bare (after k c)
unfolding is_other after held_by bare with_list with_holdings
other_rest k (enter t) o = true_false o refl
other_rest k (amend t) o = true_false o refl
other_rest k (exclude n) o = true_false o refl
other_rest k roll o = true_false o refl
other_rest k (deposit a s q) o = refl
other_rest k (withdraw a s q) o = refl
other_rest k (run s) o = run_rest k s

-- and leave the list
pub other_list : (k : Book) (c : Call) → is_other c ≡ true → list_of (after k c) ≡ list_of k
unfolding is_other after settled list_of with_open with_holdings with_charges
other_list k (enter t) o = true_false o refl
other_list k (amend t) o = true_false o refl
other_list k (exclude n) o = true_false o refl
other_list k roll o = true_false o refl
other_list k (deposit a s q) o = refl
other_list k (withdraw a s q) o = refl
other_list k (run s) o = refl

-- ── the roll ──

-- by the rest of a book and the nets of its list
abbrev roll_answer : Book → List Position → ℕ
roll_answer b ns = first ((above most_records (b.records + length ns), 10) ∷ (eqb b.day last_day, 14) ∷ [])

abbrev roll_book : Book → List Position → Book
roll_book b ns = offset (next_day (emptied (with_open (uncharged b) (open_of b ++ ns))))

roll_answer_lem : (k : Book) → answer_sound k roll ≡ roll_answer (bare k) (nets (k.day + 2) (list_of k))
unfolding answer_sound tests open_plus_nets bare with_list
roll_answer_lem k = refl

roll_book_lem : (k : Book) → after k roll ≡ roll_book (bare k) (nets (k.day + 2) (list_of k))
unfolding after rolled next_day emptied netted uncharged open_of list_of bare with_day with_list with_open with_charges
roll_book_lem k = refl

module _ (k j : Book) (e : bare k ≡ bare j) (f : (due : ℕ) → nets due (list_of k) ≡ nets due (list_of j)) where
  same_nets : nets (k.day + 2) (list_of k) ≡ nets (j.day + 2) (list_of j)
  unfolding bare with_list
  same_nets =
      let d : k.day ≡ j.day = ap (λ (b : Book). b.day) e in
      f (k.day + 2) ∙ ap (λ (n : ℕ). nets (n + 2) (list_of j)) d

  pub roll_alike : (answer_sound k roll ≡ answer_sound j roll) × (after k roll ≡ after j roll)
  roll_alike = (
    roll_answer_lem k ∙ ap₂ roll_answer e same_nets ∙ sym (roll_answer_lem j),
    roll_book_lem k ∙ ap₂ roll_book e same_nets ∙ sym (roll_book_lem j),
  )
