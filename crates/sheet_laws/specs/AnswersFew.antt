-- The answers of a whole file are at most 21,846: one for each record, and a readable record has at least 3 bytes.
use Rattle.std.specs.Prelude.{◌≡◌, refl, true, false, List, [], ◌∷◌, ℕ, zero, suc, ◌+◌, ◌*◌, ◌-◌, ◌≤◌, eqb, ltb, length, take, drop, Option, Some, None}
use Rattle.std.proofs.Common.{sym, ap, ◌∙◌, arith, length-append, length-take, length-drop, ne_eqb, ltb-true, ltb-false}
use Rattle.std.proofs.Math.Bool.{and-false}
use Rattle.std.proofs.Math.Logic.{dite}
use Rattle.std.proofs.Math.Decide.{ℕ_discrete}
use Rattle.fields.specs.Field.{field}
use Rattle.rules.specs.Words.{all}
use Rattle.rules.specs.Bounds.{most_file}
use Rattle.rules.specs.Book.{empty_book}
use Rattle.rules.specs.Calls.{Call}
use Rattle.rules.specs.Records.{Record, create, call, unreadable, Form, length_of, forms_of, read_as, is_cut, front_of, in_place, other_version, too_long}
use Rattle.rules.specs.CallFile.{Placed, Contents, is_unreadable, records_from, behind_version, records_in, before, contents, contents_of, left, played, played_from, nineteen, file_of}
use Rattle.rules.specs.declared.Book.{Book}
use Rattle.laws.specs.Cases.{by_test, true_false, neither, cond_yes, cond_no}
use Rattle.laws.specs.All.{all_cons}

-- a file that is not refused by 18
pub not_long : (file : List ℕ) → too_long file ≡ false → length file ≤ most_file
unfolding too_long
not_long file e = ltb-false most_file (length file) e

-- ── how many records there are ──

-- a readable record has at least 3 bytes: its length bytes, and what they say
named : (place : ℕ) (r : Record) → is_unreadable (in_place place r) ≡ false → is_unreadable r ≡ false
unfolding is_unreadable in_place
named place (create codes) h = refl
named place (call c) h = refl
named place unreadable h = h

no_empty_form : (kind : ℕ) (fs : List Form) → all (λ f. ltb 0 f.long) fs ≡ true → read_as kind 0 fs ≡ unreadable
unfolding read_as
no_empty_form kind [] h = refl
no_empty_form kind (f ∷ fs) h =
    let b = all_cons (λ (g : Form). ltb 0 g.long) f fs h in
    let long = ltb-true 0 f.long b.0 in
    let other : eqb 0 f.long ≡ false = ne_eqb 0 f.long (λ e. omega arith) in
    rw (other, and-false (eqb kind f.kind)) (no_empty_form kind fs b.1)

forms_long : (body : List ℕ) → all (λ f. ltb 0 f.long) (forms_of body) ≡ true
unfolding all forms_of
forms_long body = refl

record Complete (bs : List ℕ) : Type 0 where
  some_length : 1 ≤ length_of bs
  within_file : 2 + length_of bs ≤ length bs

front_whole : (bs : List ℕ) → is_unreadable (front_of bs) ≡ false → Complete bs
unfolding front_of is_cut is_unreadable
front_whole bs h =
    let body = take (length_of bs) (drop 2 bs) in
    let says = read_as (field 1 2 bs) (length_of bs) (forms_of body) in
    let whole : is_cut bs ≡ false =
    by_test (is_cut bs) (λ e. true_false (ap is_unreadable (cond_yes unreadable says e)) h) (λ e. e) in
    let cut = neither (ltb (length (take 2 bs)) 2) (ltb (length body) (length_of bs)) whole in
    let read : is_unreadable says ≡ false = ap is_unreadable (sym (cond_no unreadable says whole)) ∙ h in
    record {
      some_length =
          dite (ℕ_discrete (length_of bs) 0)
          (λ z. true_false (ap is_unreadable (ap (λ (n : ℕ). read_as (field 1 2 bs) n (forms_of body)) z ∙ no_empty_form (field 1 2 bs) (forms_of body) (forms_long body))) read)
          (λ z. omega arith);
      within_file =
          omega (
            arith,
            ltb-false (length (take 2 bs)) 2 cut.0,
            length-take 2 bs,
            ltb-false (length body) (length_of bs) cut.1,
            length-take (length_of bs) (drop 2 bs),
            length-drop 2 bs,
          );
    }

count_from : (skip place : ℕ) (bs : List ℕ) → 3 * length (records_from skip place bs) ≤ length bs - skip + 2
unfolding records_from
count_from skip place [] = omega arith
count_from (suc skip) place (b ∷ bs) = omega (arith, count_from skip (suc place) bs)
count_from zero place (b ∷ bs) =
    let r = in_place place (front_of (b ∷ bs)) in
    let rest = records_from (suc (length_of (b ∷ bs))) (suc place) bs in
    by_test (is_unreadable r)
    (λ e. omega (arith, ap length (cond_yes [] rest e)))
    (λ e. let w = front_whole (b ∷ bs) (named place (front_of (b ∷ bs)) e) in
    omega (arith, ap length (cond_no [] rest e), w.some_length, w.within_file, count_from (suc (length_of (b ∷ bs))) (suc place) bs))

count_behind : (bs : List ℕ) → 3 * length (behind_version bs) ≤ length bs + 3
unfolding behind_version
count_behind [] = omega arith
count_behind (b ∷ bs) = omega (arith, count_from 0 1 (b ∷ bs))

count_records : (file : List ℕ) → length file ≤ most_file → length (records_in file) ≤ 21_846
unfolding records_in
count_records file h =
    by_test (other_version file)
    (λ e. omega (arith, ap length (cond_yes (record { place = 0; says = unreadable } ∷ []) (behind_version (drop 1 file)) e)))
    (λ e. omega (
      arith,
      ap length (cond_no (record { place = 0; says = unreadable } ∷ []) (behind_version (drop 1 file)) e),
      count_behind (drop 1 file),
      length-drop 1 file,
    ))

-- an answer for each record
unfoldable ones : {A : Type 0} → Option A → ℕ
ones None = 0
ones (Some a) = 1

unfoldable sized : Contents → ℕ
sized c = ones c.codes + length c.calls + ones c.place

sized_before : (r : Placed) (says : Record) (rest : Contents) → sized (before r says rest) ≤ suc (sized rest)
unfolding before sized ones
sized_before r (create codes) rest = omega arith
sized_before r (call c) rest = omega arith
sized_before r unreadable rest = omega arith

sized_contents : (rs : List Placed) → sized (contents rs) ≤ length rs
unfolding contents sized ones
sized_contents [] = omega arith
sized_contents (r ∷ rs) = omega (arith, sized_before r r.says (contents rs), sized_contents rs)

length_played : (k : Book) (cs : List Call) → length (played k cs).answers ≡ length cs
unfolding played
length_played k [] = refl
length_played k (c ∷ cs) = ap suc (length_played (left k c) cs)

length_from_create : (codes : Option (List ℕ)) (cs : List Call) → length (played_from codes cs).answers ≤ ones codes + length cs
unfolding played_from ones
length_from_create None cs = omega arith
length_from_create (Some codes) cs = omega (arith, length_played (empty_book codes) cs)

length_nineteen : (place : Option ℕ) → length (nineteen place) ≡ ones place
unfolding nineteen ones
length_nineteen None = refl
length_nineteen (Some place) = refl

pub file_few : (file : List ℕ) → too_long file ≡ false → length (file_of file).answers ≤ 21_846
unfolding file_of contents_of sized
file_few file e =
    let c = contents_of file in
    let calls = (played_from c.codes c.calls).answers in
    omega (
      arith,
      length-append calls (nineteen c.place),
      length_from_create c.codes c.calls,
      length_nineteen c.place,
      sized_contents (records_in file),
      count_records file (not_long file e),
    )
