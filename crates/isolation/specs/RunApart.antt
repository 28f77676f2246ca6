-- A run keeps the records of every account that neither gives nor receives in it: a meeting takes shares from the two records of its
-- numbers alone, and a record that goes is one that had no shares left.
use Rattle.std.specs.Prelude.{◌≡◌, Bool, true, ℕ, ◌-◌, ◌/◌, ◌%◌, replicate}
use Rattle.std.proofs.Math.Path.{refl, sym, ap}
use Rattle.std.proofs.Common.{◌∙◌, eqb-true}
use Rattle.std.proofs.Math.Bool.{false}
use mathlib.Core.List.{List, [], ◌∷◌}
use Rattle.std.proofs.Math.Dec.{eqb}
use Rattle.std.proofs.Math.ListN.{length}
use Rattle.std.proofs.Math.Seq.{take-append_seam}
use Rattle.rules.specs.Words.{all, any, keep}
use Rattle.rules.specs.Bounds.{most_records}
use Rattle.rules.specs.Book.{account_of, open_of, no_position, with_open}
use Rattle.rules.specs.Sound.{due_nonzero, records_of, sound}
use Rattle.rules.specs.Parts.{without}
use Rattle.rules.specs.Roll.{remains}
use Rattle.rules.specs.Run.{Meeting, taken_from, Running, met, taken, meetings, settled}
use Rattle.rules.specs.Marks.{marked_of}
use Rattle.rules.specs.Calls.{run, after}
use Rattle.rules.specs.CallFile.{left}
use Rattle.rules.specs.declared.Position.{Position}
use Rattle.rules.specs.declared.Book.{Book}
use Rattle.laws.specs.Cases.{by_test, both_hold, neither}
use Rattle.laws.specs.Keeping.{keep_yes, keep_no, keep_all, keep_whole, keep_swap}
use Rattle.laws.specs.Taking.{without_account}
use Rattle.laws.specs.SoundParts.{sound_parts}
use Rattle.laws.specs.OwnSides.{both_own, meetings_own}
use Rattle.isolation.specs.Untouched.{accepted_sound, left_records}
use Rattle.isolation.specs.Touching.{is_one, takes_part}

-- ── one record ──

module _ (a : ℕ) where
  abbrev is_of : Position → Bool
  is_of p = eqb (account_of p) a

  number_apart : (n : ℕ) (p : Position) → eqb (n / 32 % 64) a ≡ false → eqb p.number n ≡ true → is_of p ≡ false
  unfolding account_of
  number_apart n p e y = rw (eqb-true p.number n y) e

  -- a part is taken from the record of a number that is not the account's
  taken_apart : (n k : ℕ) (ps : List Position) → eqb (n / 32 % 64) a ≡ false → keep is_of (taken_from n k ps) ≡ keep is_of ps
  unfolding taken_from
  taken_apart n k [] e = refl
  taken_apart n k (p ∷ ps) e =
      let ih = taken_apart n k ps e in
      by_test (eqb p.number n)
      (λ y. let f : is_of p ≡ false = number_apart n p e y in
      rw y (keep_no is_of (without p k) (taken_from n k ps) (ap (λ (b : ℕ). eqb b a) (without_account p k) ∙ f) ∙ ih ∙ sym (keep_no is_of p ps f)))
      (λ y. rw y
      (by_test (is_of p)
      (λ f. keep_yes is_of p (taken_from n k ps) f ∙ ap (λ (l : List Position). p ∷ l) ih ∙ sym (keep_yes is_of p ps f))
      (λ f. keep_no is_of p (taken_from n k ps) f ∙ ih ∙ sym (keep_no is_of p ps f))))

  -- ── the meetings ──

  -- neither of the two numbers is the account's
  meeting_apart : (m : Meeting) → both_own m ≡ true → is_one a m ≡ false
      → (eqb (m.giver.number / 32 % 64) a ≡ false) × (eqb (m.receiver.number / 32 % 64) a ≡ false)
  meeting_apart m o e =
      let u = both_hold (eqb m.giver.account (m.giver.number / 32 % 64)) (eqb m.receiver.account (m.receiver.number / 32 % 64)) o in
      let v = neither (eqb m.giver.account a) (eqb m.receiver.account a) e in
      let g = eqb-true m.giver.account (m.giver.number / 32 % 64) u.0 in
      let r = eqb-true m.receiver.account (m.receiver.number / 32 % 64) u.1 in
      (ap (λ (b : ℕ). eqb b a) (sym g) ∙ v.0, ap (λ (b : ℕ). eqb b a) (sym r) ∙ v.1)

  met_apart : (b : Book) (s : ℕ) (x : Running) (m : Meeting) → both_own m ≡ true → is_one a m ≡ false
      → keep is_of (met b s x m).records ≡ keep is_of x.records
  unfolding met
  met_apart b s x m o e =
      let n = meeting_apart m o e in
      taken_apart m.receiver.number m.shares (taken_from m.giver.number m.shares x.records) n.1
      ∙ taken_apart m.giver.number m.shares x.records n.0

  all_apart : (b : Book) (s : ℕ) (x : Running) (ms : List Meeting) → all both_own ms ≡ true → any (is_one a) ms ≡ false
      → keep is_of (taken b s x ms).records ≡ keep is_of x.records
  unfolding taken all any
  all_apart b s x [] o e = refl
  all_apart b s x (m ∷ ms) o e =
      let u = both_hold (both_own m) (all both_own ms) o in
      let v = neither (is_one a m) (any (is_one a) ms) e in
      all_apart b s (met b s x m) ms u.1 v.1 ∙ met_apart b s x m u.0 v.0

-- ── the run ──

module _ (k : Book) (s a : ℕ) where
  -- the records when all meetings are done
  abbrev done : List Position
  done = (taken k s (record { records = open_of k; holdings = k.holdings; charges = k.charges }) (meetings k s)).records

  done_open : open_of (settled k s) ≡ keep (remains k.day) done
  unfolding settled open_of with_open
  done_open =
      let ps : List Position = keep (remains k.day) done in
      take-append_seam ps (replicate (most_records - length ps) no_position)

  -- whoever has no part in a run of a sound book has the same records after it
  pub settled_apart : sound k ≡ true → takes_part k s a ≡ false → marked_of (settled k s) a ≡ marked_of k a
  unfolding takes_part marked_of records_of remains
  settled_apart ok e =
      ap (keep (is_of a)) done_open
      ∙ keep_swap (is_of a) (due_nonzero k.day) done
      ∙ ap (keep (due_nonzero k.day)) (all_apart a k s _ (meetings k s) (meetings_own k s) e)
      ∙ keep_whole (due_nonzero k.day) (keep (is_of a) (open_of k)) (keep_all (is_of a) (due_nonzero k.day) (open_of k) (sound_parts k ok).due_nonzero_lem)

-- accepted or refused
pub run_records : (k : Book) (s a : ℕ) → takes_part k s a ≡ false → marked_of (left k (run s)) a ≡ marked_of k a
unfolding after
run_records k s a e = left_records k (run s) a (λ y. settled_apart k s a (accepted_sound k (run s) y) e)
