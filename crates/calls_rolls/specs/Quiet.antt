-- The roll of a quiet day, on lent bytes: what the code looks at tells whether the day is quiet, and what it writes is the roll.
use Rattle.std.specs.Prelude.{◌≡◌, Bool, List, ℕ, suc, ◌+◌, ◌-◌, ◌≤◌, leb, ltb, length, get_or}
use Rattle.std.proofs.Math.Path.{refl, sym}
use Rattle.std.proofs.Common.{ap, ap₂, ◌∙◌, arith}
use Rattle.std.proofs.Math.Bool.{true, false}
use borrow.Author.Tests.{eq-eqb, ne_eqb, ltb-true, ltb-false, le-leb, lt-leb}
use Rattle.std.proofs.Math.Seq.{get_or-take}
use Rattle.rules.specs.Words.{all}
use Rattle.rules.specs.Bounds.{most_records}
use Rattle.rules.specs.Book.{due_of, no_position, open_of, with_day, with_charges}
use Rattle.rules.specs.Layout.{book_of, bytes_of}
use Rattle.rules.specs.Sound.{sound, records_fit, ascends, is_due}
use Rattle.rules.specs.Roll.{uncharged, next_day, open_plus_nets}
use Rattle.rules.specs.Calls.{roll, after}
use Rattle.rules.specs.declared.Position.{Position}
use Rattle.rules.specs.declared.Book.{Book}
use Rattle.laws.specs.Cases.{by_test, both_hold}
use Rattle.laws.specs.Walks.{all_fails}
use Rattle.laws.specs.SoundParts.{sound_parts}
use Rattle.laws.specs.Shaped.{Shaped}
use Rattle.laws.specs.Blanks.{records_few, open_long}
use Rattle.laws.specs.QuietRoll.{is_quiet, due_by_last, quiet_count, quiet_rolled}

-- ── whether the day is quiet ──

module _ (k : Book) where
  pub entered : (k.entries ≡ 0 → ⊥) → false ≡ is_quiet k
  unfolding is_quiet
  entered n = rw (ne_eqb k.entries 0 n)

  module _ (none : k.entries ≡ 0) where
    pub no_records : k.records ≡ 0 → true ≡ is_quiet k
    unfolding is_quiet open_of all
    no_records e = rw (none, e) refl

    -- there are n records, and p is the last
    module _ (ok : sound k ≡ true) (s : Shaped k) (n : ℕ) (p : Position) (count : n ≡ k.records) (some : n ≡ 0 → ⊥)
        (at : p ≡ get_or k.positions (n - 1) no_position) where
      last_is : get_or (open_of k) (n - 1) no_position ≡ p
      unfolding open_of
      last_is = get_or-take k.records k.positions (n - 1) no_position (omega arith) ∙ sym at

      open_ascends : ascends (open_of k) ≡ true
      unfolding records_fit
      open_ascends = (both_hold (ascends (open_of k)) _ (both_hold (leb k.records most_records) _ (sound_parts k ok).records).1).0

      open_count : length (open_of k) ≡ suc (n - 1)
      open_count = omega (arith, open_long k (sound_parts k ok).records s)

      due_by : (b : Bool) → is_due k.day p ≡ b → is_due k.day (get_or (open_of k) (n - 1) no_position) ≡ b
      due_by b e = ap (is_due k.day) last_is ∙ e

      due_alike : ltb (due_of p) (k.day + 1) ≡ is_quiet k
      unfolding is_quiet is_due
      due_alike =
          rw (eq-eqb k.entries 0 none)
          (by_test (ltb (due_of p) (k.day + 1))
          (λ e. let due = le-leb (due_of p) k.day (omega (arith, ltb-true (due_of p) (k.day + 1) e)) in
          e ∙ sym (due_by_last k.day (n - 1) (open_of k) open_ascends open_count (due_by true due)))
          (λ e. let not_due = lt-leb (due_of p) k.day (omega (arith, ltb-false (due_of p) (k.day + 1) e)) in
          e ∙ all_fails (is_due k.day) (open_of k) (n - 1) no_position (omega (arith, open_count)) (due_by false not_due)))

  -- the last record's due day x against the day y
  pub last_tells : (none : k.entries ≡ 0) (ok : sound k ≡ true) (s : Shaped k) (n x y : ℕ) (p : Position) → n ≡ k.records → (n ≡ 0 → ⊥)
      → p ≡ get_or k.positions (n - 1) no_position → x ≡ due_of p → y ≡ k.day → ltb x (y + 1) ≡ is_quiet k
  last_tells none ok s n x y p count some at e f =
      ap₂ (λ (a d : ℕ). ltb a (d + 1)) e f ∙ due_alike none ok s n p count some at

-- ── the roll ──

module _ (k : Book) (ok : sound k ≡ true) (s : Shaped k) (quiet : is_quiet k ≡ true) where
  pub few : open_plus_nets k ≤ most_records
  few = omega (arith, quiet_count k (sound_parts k ok) s quiet, records_few k (sound_parts k ok).records)

  pub rolled_quietly : next_day (uncharged k) ≡ after k roll
  unfolding after
  rolled_quietly = sym (quiet_rolled k (sound_parts k ok) s quiet)

-- the day stored, and then the charges set to zero
pub written : (bs l₁ l₂ : List ℕ) (d : ℕ) → d ≡ (book_of bs).day + 1 → book_of l₁ ≡ with_day (book_of bs) d → l₂ ≡ bytes_of (uncharged (book_of l₁))
    → l₂ ≡ bytes_of (next_day (uncharged (book_of bs)))
unfolding next_day uncharged with_day with_charges
written bs l₁ l₂ d next e f =
    f ∙ ap (λ (k : Book). bytes_of (uncharged k)) e ∙ ap (λ (n : ℕ). bytes_of (uncharged (with_day (book_of bs) n))) next
