-- What the answers of a whole file fit into: a number in two digits, and so in 1 byte; a figure in 8; the place of a 19 is within the file.
use Rattle.std.specs.Prelude.{◌≡◌, refl, Bool, true, false, cond, not, List, [], ◌∷◌, ◌++◌, ℕ, zero, suc, ◌+◌, ◌*◌, ◌^◌, ◌≤◌, ◌<◌, eqb, leb, ltb, length, drop, Option, Some, None}
use Rattle.std.proofs.Common.{arith, length-take, length-drop, ne_eqb, eqb-true, ltb-true, le-leb, leb-true}
use Rattle.std.proofs.lemmas.Bool.{not-false}
use Rattle.units.specs.Units.{most_shares}
use Rattle.rules.specs.Words.{all, total, Test, first}
use Rattle.rules.specs.Bounds.{most_file}
use Rattle.rules.specs.Book.{empty_book, open_of}
use Rattle.rules.specs.Sound.{sizes_fit, sound}
use Rattle.rules.specs.Run.{shares_moved}
use Rattle.rules.specs.Calls.{Call, enter, amend, exclude, roll, deposit, withdraw, run, field_tests, holding_tests, tests, figure, answer}
use Rattle.rules.specs.Records.{Record, create, call, unreadable, length_of, front_of, in_place, other_version, too_long}
use Rattle.rules.specs.CallFile.{Answer, Placed, Contents, is_unreadable, records_from, behind_version, records_in, before, contents, contents_of, answered, left, played, played_from, nineteen, file_of}
use Rattle.rules.specs.declared.Book.{Book}
use Rattle.rules.specs.declared.Position.{Position}
use Rattle.laws.specs.Cases.{by_test, and_hold, cond_yes, cond_no}
use Rattle.laws.specs.All.{all_cons}
use Rattle.laws.specs.Accepted.{passed}
use Rattle.laws.specs.SoundParts.{sound_parts, shares_fit}
use Rattle.laws.specs.SoundRun.{sound_runnable}
use Rattle.laws.specs.Deliveries.{moved_is}
use Rattle.laws.specs.RunShares.{wanted_is}
use Rattle.laws.specs.RunKeeps.{wants_size}
use Rattle.laws.specs.Walk.{wants}
use Rattle.sheet_laws.specs.AnswersFew.{not_long}

-- ── definitions ──

pub record Fits (a : Answer) : Type 0 where
  pub number : a.number < 100
  pub figure : a.figure < 2 ^ 64
  pub place : a.number ≡ 19 → a.figure ≤ most_file

pub data AllFit : List Answer → Type 0 where
  fit_none : AllFit []
  fit_more : {a : Answer} {rest : List Answer} → Fits a → AllFit rest → AllFit (a ∷ rest)

fit_both : (l m : List Answer) → AllFit l → AllFit m → AllFit (l ++ m)
fit_both l m fit_none g = g
fit_both l m (fit_more {rest = rest} h r) g = fit_more h (fit_both rest m r g)

-- ── the answer of a call ──

first_below : (ts : List Test) → all (λ t. ltb t.1 100) ts ≡ true → first ts < 100
unfolding first
first_below [] h = omega arith
first_below (t ∷ ts) h =
    let b = all_cons (λ (u : Test). ltb u.1 100) t ts h in
    by_test t.0
    (λ e. omega (arith, cond_yes t.1 (first ts) e, ltb-true t.1 100 b.0))
    (λ e. omega (arith, cond_no t.1 (first ts) e, first_below ts b.1))

tests_below : (k : Book) (c : Call) → all (λ t. ltb t.1 100) ((not (sound k), 1) ∷ tests k c) ≡ true
unfolding all tests field_tests holding_tests
tests_below k (enter t) = refl
tests_below k (amend t) = refl
tests_below k (exclude n) = refl
tests_below k roll = refl
tests_below k (deposit a s q) = refl
tests_below k (withdraw a s q) = refl
tests_below k (run s) = refl

number_fits : (k : Book) (c : Call) → answer k c < 100
unfolding answer
number_fits k c = first_below ((not (sound k), 1) ∷ tests k c) (tests_below k c)

wants_within : (d s : ℕ) (ps : List Position) → all sizes_fit ps ≡ true → total (wants d s) ps ≤ length ps * most_shares
unfolding total
wants_within d s [] a = omega arith
wants_within d s (p ∷ ps) a =
    let b = all_cons sizes_fit p ps a in
    omega (arith, wants_size d s p, shares_fit p b.0, wants_within d s ps b.1)

moved_fits : (k : Book) (s : ℕ) → sound k ≡ true → shares_moved k s < 2 ^ 64
unfolding open_of
moved_fits k s ok =
    omega (
      arith,
      moved_is k s,
      wanted_is k s,
      wants_within k.day s (open_of k) (sound_parts k ok).sizes,
      length-take k.records k.positions,
      (sound_runnable k ok).few,
    )

figure_fits : (k : Book) (c : Call) → sound k ≡ true → figure k c < 2 ^ 64
unfolding figure
figure_fits k (enter t) ok = omega arith
figure_fits k (amend t) ok = omega arith
figure_fits k (exclude n) ok = omega arith
figure_fits k roll ok = omega arith
figure_fits k (deposit a s q) ok = omega arith
figure_fits k (withdraw a s q) ok = omega arith
figure_fits k (run s) ok = moved_fits k s ok

accepted_sound : (k : Book) (c : Call) → answer k c ≡ 0 → sound k ≡ true
unfolding answer
accepted_sound k c e = not-false (sound k) (passed (not (sound k)) 0 (tests k c) e).0

answered_fits : (k : Book) (c : Call) → Fits (answered k c)
unfolding answered
answered_fits k c =
    record {
      number = number_fits k c;
      figure =
          by_test (eqb (answer k c) 0)
          (λ e. omega (arith, cond_yes (figure k c) 0 e, figure_fits k c (accepted_sound k c (eqb-true (answer k c) 0 e))))
          (λ e. omega (arith, cond_no (figure k c) 0 e));
      place = λ e. omega (arith, cond_no (figure k c) 0 (ne_eqb (answer k c) 0 (λ z. omega arith)));
    }

-- ── the answers of the calls ──

fit_played : (k : Book) (cs : List Call) → AllFit (played k cs).answers
unfolding played
fit_played k [] = fit_none
fit_played k (c ∷ cs) = fit_more (answered_fits k c) (fit_played (left k c) cs)

created_fits : Fits (record { number = 0; figure = 0 })
created_fits = record { number = omega arith; figure = omega arith; place = λ e. omega arith }

fit_from : (codes : Option (List ℕ)) (cs : List Call) → AllFit (played_from codes cs).answers
unfolding played_from
fit_from None cs = fit_none
fit_from (Some codes) cs = fit_more created_fits (fit_played (empty_book codes) cs)

-- ── the place of a 19 ──

-- a place is at most so far
unfoldable within : ℕ → Option ℕ → Bool
within top None = true
within top (Some place) = leb place top

fit_nineteen : (place : Option ℕ) → within most_file place ≡ true → AllFit (nineteen place)
unfolding nineteen within
fit_nineteen None e = fit_none
fit_nineteen (Some place) e =
    let far = leb-true place most_file e in
    let fits : Fits (record { number = 19; figure = place }) = record { number = omega arith; figure = omega arith; place = λ is. far } in
    fit_more fits fit_none

place_before : (top : ℕ) (r : Placed) (says : Record) (rest : Contents) → leb r.place top ≡ true → within top rest.place ≡ true
    → within top (before r says rest).place ≡ true
unfolding before within
place_before top r (create codes) rest h e = e
place_before top r (call c) rest h e = e
place_before top r unreadable rest h e = h

place_within : (top : ℕ) (rs : List Placed) → all (λ r. leb r.place top) rs ≡ true → within top (contents rs).place ≡ true
unfolding contents within
place_within top [] h = refl
place_within top (r ∷ rs) h =
    let b = all_cons (λ (q : Placed). leb q.place top) r rs h in
    place_before top r r.says (contents rs) b.0 (place_within top rs b.1)

all_cond : {A : Type 0} (t : A → Bool) (b : Bool) (l m : List A) → all t l ≡ true → all t m ≡ true → all t (cond b l m) ≡ true
all_cond t true l m h k = h
all_cond t false l m h k = k

records_within : (top skip place : ℕ) (bs : List ℕ) → place + length bs ≤ top → all (λ r. leb r.place top) (records_from skip place bs) ≡ true
unfolding records_from all
records_within top skip place [] h = refl
records_within top (suc skip) place (b ∷ bs) h = records_within top skip (suc place) bs (omega arith)
records_within top zero place (b ∷ bs) h =
    and_hold (le-leb place top (omega arith))
    (all_cond (λ (r : Placed). leb r.place top) (is_unreadable (in_place place (front_of (b ∷ bs)))) [] _ refl (records_within top (suc (length_of (b ∷ bs))) (suc place) bs (omega arith)))

behind_within : (top : ℕ) (bs : List ℕ) → 1 + length bs ≤ top → all (λ r. leb r.place top) (behind_version bs) ≡ true
unfolding behind_version all
behind_within top [] h = and_hold (le-leb 1 top (omega arith)) refl
behind_within top (b ∷ bs) h = records_within top 0 1 (b ∷ bs) (omega arith)

file_within : (top : ℕ) (file : List ℕ) → 1 ≤ top → length file ≤ top → all (λ r. leb r.place top) (records_in file) ≡ true
unfolding records_in all
file_within top file h l =
    all_cond (λ (r : Placed). leb r.place top) (other_version file) _ (behind_version (drop 1 file)) (and_hold (le-leb 0 top (omega arith)) refl)
    (behind_within top (drop 1 file) (omega (arith, length-drop 1 file)))

-- ── all of them ──

pub file_fits : (file : List ℕ) → too_long file ≡ false → AllFit (file_of file).answers
unfolding file_of contents_of
file_fits file e =
    let c = contents_of file in
    fit_both (played_from c.codes c.calls).answers (nineteen c.place) (fit_from c.codes c.calls)
    (fit_nineteen c.place (place_within most_file (records_in file) (file_within most_file file (omega arith) (not_long file e))))
