-- Counting the answers of a file: one for each record, from place to place.
use Rattle.std.specs.Prelude.{◌≡◌, refl, true, false, cond, List, [], ◌∷◌, ℕ, ◌+◌, ◌-◌, ◌≤◌, ◌<◌, zero, suc, drop, length}
use Rattle.std.proofs.Common.{sym, ap, ◌∙◌, arith}
use Rattle.rules.specs.Book.{empty_book}
use Rattle.rules.specs.Records.{Record, create, call, unreadable, front_of, record_at, other_version, in_place, length_of}
use Rattle.rules.specs.CallFile.{Played, is_unreadable, file_of, Placed, records_from, records_in, before, contents, nineteen}
use Rattle.laws.specs.Cases.{true_false, cond_yes, cond_no, by_test}
use Rattle.callfile_format.specs.Walking.{next_of, records_at}
use Rattle.playing_records.specs.Steps.{next_in, left_at, number_left, number_more, number_end, is_create, never}
use Rattle.playing_records.specs.First.{version_there, no_first, is_call, behind_create, create_fits, other_says, none_first, create_first, unread, begun, left_long, first_is}

-- ── counting the answers ──

pub count_other : (file : List ℕ) → other_version file ≡ true → 1 ≡ length (file_of file).answers
count_other file e = sym (ap (λ (p : Played). length p.answers) (unread file 0 (other_says file e)))

pub record Counting (file : List ℕ) (count place : ℕ) : Type 0 where
  pub within : place ≤ length file
  pub late : place < length file → 1 < place
  pub bound : count + (length file - place) ≤ length file
  pub left : count + number_left (left_at file place) ≡ length (file_of file).answers

module _ (file : List ℕ) (ours : other_version file ≡ false) where
  count_by : (r : Record) → record_at file 1 ≡ r → (place : ℕ) → place ≡ next_in file 1 → Counting file 1 place
  unfolding record_at is_call next_in is_unreadable
  count_by (create codes) e place p =
      let q : place ≡ 36 = p ∙ cond_no (length file) (next_of file 1) (ap is_unreadable e) ∙ behind_create file codes e in
      let f = begun file codes (create_first file ours codes e) in
      record {
        within = omega (arith, q, create_fits file codes e);
        late = λ h. omega (arith, q);
        bound = omega (arith, q, create_fits file codes e);
        left = omega (arith, ap (λ (n : ℕ). number_left (left_at file n)) q, left_long (empty_book codes) (left_at file 36), ap (λ (p : Played). length p.answers) f);
      }
  count_by (call c) e place p = true_false (ap is_call e) (no_first (front_of (drop 1 file)))
  count_by unreadable e place p =
      let q : place ≡ length file = p ∙ cond_yes (length file) (next_of file 1) (ap is_unreadable e) in
      let f = unread file 1 (none_first file ours e) in
      record {
        within = omega (arith, q);
        late = λ h. absurd (omega (arith, q, h));
        bound = omega (arith, q, version_there file ours);
        left = omega (arith, number_end file place (omega (arith, q)), ap (λ (p : Played). length p.answers) f);
      }

  pub count_begins : (place : ℕ) → place ≡ next_in file 1 → Counting file 1 place
  count_begins = count_by (record_at file 1) refl

module _ (file : List ℕ) (count place : ℕ) (s : Counting file count place) where
  pub count_more : place < length file → (next : ℕ) → next ≡ next_in file place → next ≤ length file → place < next → Counting file (count + 1) next
  count_more there next e le lt =
      record {
        within = le;
        late = λ h. omega (arith, s.late there, lt);
        bound = omega (arith, s.bound, le, lt, there);
        left = omega (arith, s.left, number_more file place (s.late there) there, ap (λ (n : ℕ). number_left (left_at file n)) e);
      }

  pub count_done : length file ≤ place → (count ≡ length (file_of file).answers) × (count ≤ length file + 1)
  count_done h = (omega (arith, s.left, number_end file place h), omega (arith, s.bound))

-- ── one answer for each record ──

one_record : (place : ℕ) (r : Record) (rest : List Placed) → is_create r ≡ false → number_left (contents rest) ≡ length rest
    → number_left (contents (record { place = place; says = r } ∷ cond (is_unreadable r) [] rest)) ≡ 1 + length (cond (is_unreadable r) [] rest)
unfolding contents before number_left nineteen is_unreadable is_create
one_record place (create codes) rest n e = true_false refl n
one_record place (call c) rest n e = omega (arith, e)
one_record place unreadable rest n e = omega arith

-- behind the create, where no record is another
records_from_lem : (skip place : ℕ) (bs : List ℕ) → 1 < place → number_left (contents (records_from skip place bs)) ≡ length (records_from skip place bs)
unfolding records_from contents number_left nineteen
records_from_lem skip place [] h = omega arith
records_from_lem (suc skip) place (b ∷ bs) h = records_from_lem skip (suc place) bs (omega (arith, h))
records_from_lem zero place (b ∷ bs) h =
    let rest = records_from (suc (length_of (b ∷ bs))) (suc place) bs in
    let e = one_record place (in_place place (front_of (b ∷ bs))) rest (never place (front_of (b ∷ bs)) (λ z. omega (arith, h, z)))
    (records_from_lem (suc (length_of (b ∷ bs))) (suc place) bs (omega (arith, h))) in
    omega (arith, e)

module _ (file : List ℕ) where
  each_by : other_version file ≡ false → (r : Record) → record_at file 1 ≡ r → length (file_of file).answers ≡ length (records_in file)
  unfolding record_at is_call is_unreadable left_at
  each_by ours (create codes) e =
      let f = ap (λ (p : Played). length p.answers) (begun file codes (create_first file ours codes e)) in
      let g : length (records_in file) ≡ 1 + length (records_at file 36) = ap length (first_is file ours) ∙ rw (e, behind_create file codes e) (omega arith) in
      omega (arith, f, g, left_long (empty_book codes) (left_at file 36), records_from_lem 0 36 (drop 36 file) (omega arith))
  each_by ours (call c) e = true_false (ap is_call e) (no_first (front_of (drop 1 file)))
  each_by ours unreadable e =
      let f = ap (λ (p : Played). length p.answers) (unread file 1 (none_first file ours e)) in
      let g : length (records_in file) ≡ 1 = ap length (first_is file ours) ∙ rw e (omega arith) in
      omega (arith, f, g)

  pub answer_for_each : length (file_of file).answers ≡ length (records_in file)
  unfolding records_in
  answer_for_each =
      by_test (other_version file)
      (λ e. sym (count_other file e) ∙ sym (ap length (cond_yes _ _ e)))
      (λ e. each_by e (record_at file 1) refl)
