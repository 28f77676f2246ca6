-- The turns of the walk as the code makes them: one row and its charge, then another.
use Rattle.std.specs.Prelude.{◌≡◌, true, false, cond, ℕ, ◌<◌, length, get_or, take, ℤ, pos, ◌+ℤ◌}
use Rattle.std.proofs.Math.Path.{sym}
use Rattle.std.proofs.Common.{ap, ap₂, ◌∙◌, arith, length-set, get_or-set_same, set-set}
use mathlib.Core.List.{List}
use Rattle.std.proofs.Math.ListN.{set}
use Rattle.std.proofs.Math.Seq.{get_or-take, take-set-lt, set-get_or}
use Rattle.units.specs.Units.{mils_of, mils}
use Rattle.units.specs.declared.Mils.{Mils}
use Rattle.rules.specs.Book.{quantity_of, money_of, is_zero, account_of, security_of, no_position, currency_of, charge_at, charged}
use Rattle.rules.specs.Parts.{part_money, without, charged_to, charged_both}
use Rattle.rules.specs.Sound.{same_pair}
use Rattle.rules.specs.Roll.{faces, smaller}
use Rattle.rules.specs.declared.Position.{Position}
use Rattle.rules.specs.declared.Book.{Book}
use Rattle.laws.specs.Cases.{by_test}
use Rattle.laws.specs.Rows.{row, without_both}
use Rattle.laws.specs.Taking.{without_number}
use Rattle.laws.specs.Facing.{facing}
use Rattle.offsetting_meetings.specs.Meeting.{met_of, passed_of, meeting_of, meeting_met, meeting_passed}
use Rattle.offsetting.specs.Walk.{Walking, walking, meet, whole}
use Rattle.offsetting_meetings.specs.declared.meetings.Met.{Met}

-- ── the place of a record's charge ──

abbrev pub place_of : Book → Position → ℕ
place_of b p = charge_at (account_of p) (currency_of b (security_of p))

-- its number says it
same_place : (b : Book) (p q : Position) → account_of p ≡ account_of q → security_of p ≡ security_of q → place_of b p ≡ place_of b q
same_place b p q ea es = rw (ea, es)

number_place : (b : Book) (p q : Position) → p.number ≡ q.number → place_of b p ≡ place_of b q
unfolding account_of security_of
number_place b p q e = rw e

-- and whom it is paired with
pub number_pair : (p q o : Position) → p.number ≡ q.number → same_pair p o ≡ same_pair q o
unfolding same_pair account_of security_of
number_pair p q o e = rw e

abbrev pub charge_of : List Mils → ℕ → Mils
charge_of cs at = get_or cs at (mils (pos 0))

-- ── a meeting, by what becomes of the two records and the charge ──

-- two amounts charged at one place
charged_twice : (cs : List Mils) (at : ℕ) (x y : ℤ) → at < length cs
    → charged (charged cs at x) at y ≡ set cs at (mils (mils_of (charge_of cs at) +ℤ x +ℤ y))
unfolding charged
charged_twice cs at x y h =
    let one : Mils = mils (mils_of (charge_of cs at) +ℤ x) in
    ap (λ (c : Mils). set (set cs at one) at (mils (mils_of c +ℤ y))) (get_or-set_same cs at one (mils (pos 0)) h)
    ∙ set-set cs at one (mils (mils_of (charge_of cs at) +ℤ x +ℤ y))

module _ (b : Book) (l : List Position) (cs : List Mils) (i j at : ℕ) (place : place_of b (row l i) ≡ at) (below : at < length cs) where
  abbrev p : Position
  p = row l i

  abbrev o : Position
  o = row l j

  abbrev made : Met
  made = meeting_of (charge_of cs at) p o

  charges_are : faces p o ≡ true → charged_both b cs o p (smaller p o)
      ≡ set cs at (mils (mils_of (charge_of cs at) +ℤ part_money o (smaller p o) +ℤ part_money p (smaller p o)))
  unfolding charged_both charged_to
  charges_are e =
      let f = facing p o e in
      let older : place_of b o ≡ at = sym (same_place b p o f.account f.security) ∙ place in
      rw (older, place) (charged_twice cs at (part_money o (smaller p o)) (part_money p (smaller p o)) below)

  pub meet_is : meet b i j (walking l cs) ≡ walking (set (set l j made.older) i made.newly) (set cs at made.charge)
  unfolding meet without_both met_of passed_of
  meet_is =
      by_test (faces p o)
      (λ e. rw (e, meeting_met (charge_of cs at) p o e) (ap (walking _) (charges_are e)))
      (λ e. rw (e, meeting_passed (charge_of cs at) p o e)
      (sym (ap₂ walking (ap (λ (m : List Position). set m i p) (set-get_or l j no_position) ∙ set-get_or l i no_position) (set-get_or cs at (mils (pos 0))))))

  -- a record charged whole
  pub whole_is : whole b i (walking l cs)
      ≡ walking l (set cs at (cond (is_zero (quantity_of p)) (mils (mils_of (charge_of cs at) +ℤ money_of p)) (charge_of cs at)))
  unfolding whole charged_to charged
  whole_is =
      by_test (is_zero (quantity_of p))
      (λ z. rw (z, place))
      (λ z. rw z (ap (walking l) (sym (set-get_or cs at (mils (pos 0))))))

-- the record stays in its row
pub meet_number : (b : Book) (i j : ℕ) (x : Walking) → i < length x.rows → (row (meet b i j x).rows i).number ≡ (row x.rows i).number
unfolding meet without_both
meet_number b i j x h =
    let p = row x.rows i in
    let o = row x.rows j in
    let k = smaller p o in
    let l = set x.rows j (without o k) in
    by_test (faces p o)
    (λ e. rw (e, get_or-set_same l i (without p k) no_position (omega (arith, length-set x.rows j (without o k)))) (without_number p k))
    (λ e. rw e)

pub meet_place : (b : Book) (i j : ℕ) (x : Walking) → i < length x.rows → place_of b (row (meet b i j x).rows i) ≡ place_of b (row x.rows i)
meet_place b i j x h = number_place b (row (meet b i j x).rows i) (row x.rows i) (meet_number b i j x h)

-- ── the same of a table of which n rows are in use ──

module _ (b : Book) (n : ℕ) (ps : List Position) (cs : List Mils) (i at : ℕ) (hi : i < n) (place : place_of b (row (take n ps) i) ≡ at)
    (below : at < length cs) where
  newly_row : row (take n ps) i ≡ row ps i
  newly_row = get_or-take n ps i no_position hi

  pub table_meets : (j : ℕ) → j < n → (r : Met) → r ≡ meeting_of (charge_of cs at) (row ps i) (row ps j)
      → meet b i j (walking (take n ps) cs) ≡ walking (take n (set (set ps j r.older) i r.newly)) (set cs at r.charge)
  table_meets j hj r e =
      let same : meeting_of (charge_of cs at) (row (take n ps) i) (row (take n ps) j) ≡ r =
      (ap₂ (meeting_of (charge_of cs at)) newly_row (get_or-take n ps j no_position hj) ∙ sym e) in
      meet_is b (take n ps) cs i j at place below
      ∙ ap (λ (m : Met). walking (set (set (take n ps) j m.older) i m.newly) (set cs at m.charge)) same
      ∙ ap (λ (l : List Position). walking l (set cs at r.charge))
      (ap (λ (l : List Position). set l i r.newly) (sym (take-set-lt n ps j r.older hj)) ∙ sym (take-set-lt n (set ps j r.older) i r.newly hi))

  -- rows of other accounts or securities pass each other
  pub table_passes : (j : ℕ) → j < n → same_pair (row ps i) (row ps j) ≡ false → meet b i j (walking (take n ps) cs) ≡ walking (take n ps) cs
  unfolding meet faces
  table_passes j hj e = rw (newly_row, get_or-take n ps j no_position hj, e)

  pub table_charged : (c : Mils) → c ≡ cond (is_zero (quantity_of (row ps i))) (mils (mils_of (charge_of cs at) +ℤ money_of (row ps i))) (charge_of cs at)
      → whole b i (walking (take n ps) cs) ≡ walking (take n ps) (set cs at c)
  table_charged c e =
      let with_all : Position → Mils = λ p. cond (is_zero (quantity_of p)) (mils (mils_of (charge_of cs at) +ℤ money_of p)) (charge_of cs at) in
      whole_is b (take n ps) cs i i at place below ∙ ap (λ (c : Mils). walking (take n ps) (set cs at c)) (ap with_all newly_row ∙ sym e)
