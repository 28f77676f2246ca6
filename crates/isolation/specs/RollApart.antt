-- A roll touches an account only through its own records and its own standing trades: two books of one day that agree on these agree on the
-- account's records after it, whatever the other accounts have and trade.
use Rattle.std.specs.Prelude.{◌≡◌, ℕ, ◌+◌}
use Rattle.std.proofs.Math.Path.{sym, ap, ap₂}
use Rattle.std.proofs.Common.{◌∙◌}
use mathlib.Core.List.{List, [], ◌++◌}
use Rattle.rules.specs.Words.{keep}
use Rattle.rules.specs.Book.{open_of, list_of, empty_book}
use Rattle.rules.specs.Sound.{records_of}
use Rattle.rules.specs.Nets.{nets}
use Rattle.rules.specs.Roll.{Offset, offset_all, remains, rolled}
use Rattle.rules.specs.Marks.{marked_of}
use Rattle.rules.specs.Calls.{roll, after}
use Rattle.rules.specs.declared.Position.{Position}
use Rattle.rules.specs.declared.Book.{Book}
use Rattle.laws.specs.Keeping.{keep_append, keep_swap}
use Rattle.laws.specs.DueDays.{is_older, is_newly, is_later}
use Rattle.laws.specs.OffsetKept.{older_of, newly_of, later_of, met_of, left_of, offset_open}
use Rattle.laws.specs.Rolling.{rolling, new_nets, rolling_day, rolling_open}
use Rattle.isolation.specs.Touching.{trades_standing}
use Rattle.isolation.specs.OffsetApart.{is_of, offset_own}
use Rattle.isolation.specs.NetsApart.{standing_nets}

-- ── what offsetting leaves of some records, with no other record, no charge and no book ──

abbrev pub met_alone : ℕ → List Position → Offset
met_alone d ps = offset_all (empty_book []) (keep (is_newly d) ps) (keep (is_older d) ps) []

abbrev pub left_alone : ℕ → List Position → List Position
left_alone d ps = keep (remains d) ((met_alone d ps).older ++ ((met_alone d ps).newly ++ keep (is_later d) ps))

module _ (a : ℕ) (b : Book) where
  abbrev own : List Position
  own = keep (is_of a) (open_of b)

  met_alone_lem : (keep (is_of a) (met_of b).older ≡ (met_alone b.day own).older) × (keep (is_of a) (met_of b).newly ≡ (met_alone b.day own).newly)
  unfolding met_of
  met_alone_lem =
      let e = offset_own a b (empty_book []) (newly_of b) (older_of b) b.charges [] in
      rw (keep_swap (is_of a) (is_newly b.day) (open_of b), keep_swap (is_of a) (is_older b.day) (open_of b)) at e

  left_alone_lem : keep (is_of a) (left_of b) ≡ left_alone b.day own
  unfolding left_of
  left_alone_lem =
      keep_swap (is_of a) (remains b.day) _
      ∙ ap (keep (remains b.day))
      (keep_append (is_of a) (met_of b).older _
      ∙ ap₂ (λ (u v : List Position). u ++ v) met_alone_lem.0
      (keep_append (is_of a) (met_of b).newly (later_of b)
      ∙ ap₂ (λ (u v : List Position). u ++ v) met_alone_lem.1 (keep_swap (is_of a) (is_later b.day) (open_of b))))

-- ── the roll ──

module _ (a : ℕ) (k : Book) where
  -- what a roll leaves of an account, by its records and new nets alone
  pub rolled_alone : marked_of (after k roll) a ≡ left_alone (k.day + 1) (keep (is_of a) (open_of (rolling k)))
  unfolding marked_of records_of after rolled rolling
  rolled_alone =
      ap (keep (is_of a)) (offset_open (rolling k))
      ∙ left_alone_lem a (rolling k)
      ∙ ap (λ (d : ℕ). left_alone d (keep (is_of a) (open_of (rolling k)))) (rolling_day k)

  pub rolling_own : keep (is_of a) (open_of (rolling k)) ≡ marked_of k a ++ keep (is_of a) (new_nets k)
  unfolding marked_of records_of
  rolling_own = ap (keep (is_of a)) (rolling_open k) ∙ keep_append (is_of a) (open_of k) (new_nets k)

module _ (k m : Book) (a : ℕ) (day : k.day ≡ m.day) (records : marked_of k a ≡ marked_of m a)
    (trades : trades_standing a (list_of k) ≡ trades_standing a (list_of m)) where
  same_rolling : keep (is_of a) (open_of (rolling k)) ≡ keep (is_of a) (open_of (rolling m))
  unfolding records_of
  same_rolling =
      rolling_own a k
      ∙ ap₂ (λ (u v : List Position). u ++ v) records
      (standing_nets a (k.day + 2) (list_of k) (list_of m) trades ∙ ap (λ (d : ℕ). keep (is_of a) (nets (d + 2) (list_of m))) day)
      ∙ sym (rolling_own a m)

  pub rolled_records : marked_of (after k roll) a ≡ marked_of (after m roll) a
  rolled_records = rolled_alone a k ∙ ap₂ (λ (d : ℕ) (ps : List Position). left_alone (d + 1) ps) day same_rolling ∙ sym (rolled_alone a m)
