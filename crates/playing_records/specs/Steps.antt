-- The walk over a call file behind its create: what stands at a place is a call, with more behind it, or unreadable, and then the walk ends.
use Rattle.std.specs.Prelude.{◌≡◌, Option, Some, None, is_some, is_none, Bool, true, false, cond, List, [], ◌∷◌, ℕ, ◌+◌, ◌≤◌, ◌<◌, eqb, ltb, length, take, drop, refl}
use Rattle.std.proofs.Common.{sym, ap, ◌∙◌, arith, length-take, ltb-false, ne_eqb, length-drop}
use Rattle.fields.specs.Field.{field}
use Rattle.fields.specs.Codec.{field_at}
use Rattle.rules.specs.Calls.{Call}
use Rattle.rules.specs.Records.{Record, create, call, unreadable, length_of, is_cut, front_of, in_place, record_at}
use Rattle.rules.specs.CallFile.{Contents, is_unreadable, before, contents, nineteen}
use Rattle.laws.specs.Cases.{by_test, neither, true_false, cond_yes, cond_no}
use Rattle.callfile_format.specs.declared.reading.Read.{Read}
use Rattle.callfile_format.specs.declared.reading.Read.TheVariants as read
use Rattle.callfile_format.specs.Reading.{says}
use Rattle.callfile_format.specs.Walking.{records_at, next_of, records_next, records_end}
use Rattle.playing_records.specs.Applying.{call_in}

-- ── what was read ──

pub none_says : (r : Option Read) (codes : List ℕ) → is_none r ≡ is_unreadable (says r codes)
unfolding is_unreadable says
none_says None codes = refl
none_says (Some read.Create) codes = refl
none_says (Some (read.Enter t)) codes = refl
none_says (Some (read.Amend t)) codes = refl
none_says (Some (read.Exclude n)) codes = refl
none_says (Some read.Roll) codes = refl
none_says (Some (read.Deposit a s q)) codes = refl
none_says (Some (read.Withdraw a s q)) codes = refl
none_says (Some (read.Run s)) codes = refl

pub none_there : (r : Option Read) (codes : List ℕ) (found : Record) → says r codes ≡ found → is_some r ≡ false → found ≡ unreadable
unfolding says
none_there None codes found e n = sym e
none_there (Some r) codes found e n = true_false refl n

-- ── where the next record begins ──

unfoldable pub next_in : List ℕ → ℕ → ℕ
next_in file place = let next = next_of file place in cond (is_unreadable (record_at file place)) (length file) next

cut_none : (place : ℕ) (bs : List ℕ) → is_cut bs ≡ true → is_unreadable (in_place place (front_of bs)) ≡ true
unfolding front_of in_place is_unreadable
cut_none place bs e = rw e

whole_fits : (bs : List ℕ) → is_cut bs ≡ false → 2 + length_of bs ≤ length bs
unfolding is_cut
whole_fits bs e =
    let n = neither (ltb (length (take 2 bs)) 2) (ltb (length (take (length_of bs) (drop 2 bs))) (length_of bs)) e in
    omega (
      arith,
      ltb-false (length (take 2 bs)) 2 n.0,
      ltb-false (length (take (length_of bs) (drop 2 bs))) (length_of bs) n.1,
      length-take 2 bs,
      length-take (length_of bs) (drop 2 bs),
      length-drop 2 bs,
    )

module _ (file : List ℕ) (place : ℕ) where
  -- a readable record lies within the file
  pub readable_fits : is_unreadable (record_at file place) ≡ false → next_of file place ≤ length file
  unfolding record_at
  readable_fits e =
      by_test (is_cut (drop place file)) (λ y. true_false (cut_none place (drop place file) y) e)
      (λ n. omega (arith, whole_fits (drop place file) n, length-drop place file))

  pub next_is : (long : ℕ) → long ≡ field 2 place file → place + 2 + long ≡ next_of file place
  unfolding length_of
  next_is long e = ap (λ (l : ℕ). place + 2 + l) (e ∙ sym (field_at 2 place file))

  pub next_end : is_unreadable (record_at file place) ≡ true → length file ≡ next_in file place
  unfolding next_in
  next_end e = sym (cond_yes (length file) _ e)

  pub next_more : is_unreadable (record_at file place) ≡ false → (n : ℕ) → n ≡ next_of file place → n ≡ next_in file place
  unfolding next_in
  next_more e n f = f ∙ sym (cond_no (length file) _ e)

-- ── what is left from a place on ──

unfoldable pub left_at : List ℕ → ℕ → Contents
left_at file place = contents (records_at file place)

pub left_end : (file : List ℕ) (place : ℕ) → length file ≤ place → left_at file place ≡ record { codes = None; calls = []; place = None }
unfolding left_at contents
left_end file place h = ap contents (records_end file place h)

module _ (file : List ℕ) (place : ℕ) (there : place < length file) where
  pub left_call : (c : Call) → record_at file place ≡ call c
      → left_at file place ≡ record { codes = (left_at file (next_in file place)).codes; calls = c ∷ (left_at file (next_in file place)).calls; place = (left_at file (next_in file place)).place }
  unfolding left_at contents before is_unreadable next_in
  left_call c e = ap contents (records_next file place there) ∙ rw e refl

  pub left_none : record_at file place ≡ unreadable → left_at file place ≡ record { codes = None; calls = []; place = Some place }
  unfolding left_at contents before is_unreadable
  left_none e = ap contents (records_next file place there) ∙ rw e refl

  pub left_stops : record_at file place ≡ unreadable → left_at file (next_in file place) ≡ record { codes = None; calls = []; place = None }
  unfolding is_unreadable
  left_stops e = left_end file (next_in file place) (omega (arith, next_end file place (ap is_unreadable e)))

-- ── what a record that was read shows behind the create ──

pub data Shows (found : Option Read) (r : Record) : Type 0 where
  a_call : (c : Call) → call_in found ≡ Some c → r ≡ call c → Shows found r
  nothing : call_in found ≡ None → r ≡ unreadable → Shows found r

unfoldable pub is_create : Record → Bool
is_create (create codes) = true
is_create (call c) = false
is_create unreadable = false

pub never : (place : ℕ) (r : Record) → (place ≡ 1 → ⊥) → is_create (in_place place r) ≡ false
unfolding in_place is_create
never place (create codes) n = rw (ne_eqb place 1 n)
never place (call c) n = by_test (eqb place 1) (λ y. rw y) (λ y. rw y)
never place unreadable n = refl

module _ (file : List ℕ) (place : ℕ) (late : place ≡ 1 → ⊥) where
  pub shows : (found : Option Read) (codes : List ℕ) → says found codes ≡ record_at file place → Shows found (record_at file place)
  unfolding call_in says record_at is_create
  shows None codes e = nothing refl (sym e)
  shows (Some read.Create) codes e = true_false (sym (ap is_create e)) (never place (front_of (drop place file)) late)
  shows (Some (read.Enter t)) codes e = a_call _ refl (sym e)
  shows (Some (read.Amend t)) codes e = a_call _ refl (sym e)
  shows (Some (read.Exclude n)) codes e = a_call _ refl (sym e)
  shows (Some read.Roll) codes e = a_call _ refl (sym e)
  shows (Some (read.Deposit a s q)) codes e = a_call _ refl (sym e)
  shows (Some (read.Withdraw a s q)) codes e = a_call _ refl (sym e)
  shows (Some (read.Run s)) codes e = a_call _ refl (sym e)

-- ── how many answers are left ──

unfoldable pub number_left : Contents → ℕ
number_left c = length c.calls + length (nineteen c.place)

module _ (file : List ℕ) (place : ℕ) (late : 1 < place) (there : place < length file) where
  number_by : (r : Record) → record_at file place ≡ r → number_left (left_at file place) ≡ 1 + number_left (left_at file (next_in file place))
  unfolding number_left nineteen record_at is_create
  number_by (create codes) e = true_false (ap is_create e) (never place (front_of (drop place file)) (λ z. omega (arith, late, z)))
  number_by (call c) e = rw (left_call file place there c e) (omega arith)
  number_by unreadable e = rw (left_none file place there e, left_stops file place there e) refl

  pub number_more : number_left (left_at file place) ≡ 1 + number_left (left_at file (next_in file place))
  number_more = number_by (record_at file place) refl

pub number_end : (file : List ℕ) (place : ℕ) → length file ≤ place → number_left (left_at file place) ≡ 0
unfolding number_left nineteen
number_end file place h = rw (left_end file place h) refl
