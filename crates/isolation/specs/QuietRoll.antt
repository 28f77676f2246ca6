-- A roll keeps the records of every account that has not traded and for which nothing falls due: it gets no net, nothing of it is offset, and
-- a record that goes is one that had no shares left.
use Rattle.std.specs.Prelude.{◌≡◌, true, false, not, ◌&&◌, ℕ, ◌+◌, eqb, leb}
use Rattle.std.proofs.Math.Path.{ap}
use Rattle.std.proofs.Common.{◌∙◌, arith}
use mathlib.Core.List.{List, [], ◌++◌, append-nil}
use borrow.Author.Tests.{eqb-false, leb-true, le-leb, not-true}
use Rattle.rules.specs.Words.{all, keep}
use Rattle.rules.specs.Book.{quantity_of, is_zero, due_of, open_of, list_of}
use Rattle.rules.specs.Sound.{ascends, is_due, due_nonzero, records_of, sound}
use Rattle.rules.specs.Roll.{offset_all, remains}
use Rattle.rules.specs.Marks.{marked_of}
use Rattle.rules.specs.Calls.{roll}
use Rattle.rules.specs.CallFile.{left}
use Rattle.rules.specs.declared.Position.{Position}
use Rattle.rules.specs.declared.Book.{Book}
use Rattle.laws.specs.Cases.{by_test, both_hold}
use Rattle.laws.specs.All.{all_so, all_and}
use Rattle.laws.specs.Keeping.{keep_all, keep_whole, keep_nothing}
use Rattle.laws.specs.Order.{keep_ascends}
use Rattle.laws.specs.DueDays.{is_newly, is_later, parts_whole}
use Rattle.laws.specs.SoundParts.{sound_parts}
use Rattle.laws.specs.SoundRun.{sound_runnable}
use Rattle.laws.specs.Rolling.{rolling}
use Rattle.isolation.specs.Touching.{has_traded, has_falling_due}
use Rattle.isolation.specs.Untouched.{accepted_sound, left_records}
use Rattle.isolation.specs.TradesApart.{none_pass, no_trades}
use Rattle.isolation.specs.OffsetApart.{is_of}
use Rattle.isolation.specs.NetsApart.{no_own_nets}
use Rattle.isolation.specs.RollApart.{met_alone, left_alone, rolled_alone, rolling_own}

-- ── offsetting, where nothing is newly due ──

module _ (day : ℕ) (ps : List Position) (order : ascends ps ≡ true) (some : all (due_nonzero day) ps ≡ true)
    (quiet : all (λ p. not (is_newly (day + 1) p)) ps ≡ true) where
  -- a due record with shares is one on the next day too
  stays : (p : Position) → due_nonzero day p && not (is_newly (day + 1) p) ≡ true → remains (day + 1) p ≡ true
  unfolding remains due_nonzero is_due
  stays p e =
      let u = both_hold (not (leb (due_of p) day && is_zero (quantity_of p))) (not (eqb (due_of p) (day + 1))) e in
      by_test (leb (due_of p) (day + 1))
      (λ y. let n = eqb-false (due_of p) (day + 1) (not-true (eqb (due_of p) (day + 1)) u.1) in
      let l = le-leb (due_of p) day (omega (arith, leb-true (due_of p) (day + 1) y)) in
      rw y (rw l at u.0))
      (λ n. rw n)

  none_newly : keep (is_newly (day + 1)) ps ≡ []
  none_newly = keep_nothing (is_newly (day + 1)) ps quiet

  quiet_parts : (met_alone (day + 1) ps).older ++ ((met_alone (day + 1) ps).newly ++ keep (is_later (day + 1)) ps) ≡ ps
  unfolding offset_all
  quiet_parts = rw none_newly (rw none_newly at (parts_whole (day + 1) ps order))

  pub quiet_left : left_alone (day + 1) ps ≡ ps
  quiet_left =
      ap (keep (remains (day + 1))) quiet_parts
      ∙ keep_whole (remains (day + 1)) ps
      (all_so (λ p. due_nonzero day p && not (is_newly (day + 1) p)) (remains (day + 1)) ps stays
      (all_and (due_nonzero day) (λ p. not (is_newly (day + 1) p)) ps some quiet))

-- ── the roll ──

module _ (k : Book) (a : ℕ) (traded : has_traded k a ≡ false) (falling : has_falling_due k a ≡ false) where
  same_own : keep (is_of a) (open_of (rolling k)) ≡ marked_of k a
  unfolding records_of
  same_own =
      rolling_own a k
      ∙ ap (λ (l : List Position). marked_of k a ++ l) (no_own_nets a (k.day + 2) (list_of k) (no_trades k a traded))
      ∙ append-nil (marked_of k a)

  marked_left : sound k ≡ true → left_alone (k.day + 1) (marked_of k a) ≡ marked_of k a
  unfolding marked_of records_of has_falling_due
  marked_left ok =
      quiet_left k.day (keep (is_of a) (open_of k))
      (keep_ascends (is_of a) (open_of k) (sound_runnable k ok).order)
      (keep_all (is_of a) (due_nonzero k.day) (open_of k) (sound_parts k ok).due_nonzero_lem)
      (none_pass (is_newly (k.day + 1)) (keep (is_of a) (open_of k)) falling)

  pub quiet_records : marked_of (left k roll) a ≡ marked_of k a
  quiet_records =
      left_records k roll a
      (λ y. rolled_alone a k ∙ ap (left_alone (k.day + 1)) same_own ∙ marked_left (accepted_sound k roll y))
