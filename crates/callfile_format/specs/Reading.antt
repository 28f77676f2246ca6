-- The record at a place of a call file as the code reads it: what it says is what the definition says of that place.
use Rattle.std.specs.Prelude.{◌≡◌, refl, Option, Some, None, Bool, true, false, cond, ◌&&◌, List, [], ◌∷◌, ℕ, ◌+◌, ◌≢◌, eqb, take, drop}
use Rattle.std.proofs.Common.{sym, ap, ◌∙◌, lit≤, eq-eqb, ne_eqb}
use Rattle.std.proofs.Math.Bool.{and-false}
use Rattle.fields.specs.Field.{field}
use Rattle.rules.specs.Words.{all}
use Rattle.rules.specs.Sound.{is_code}
use Rattle.rules.specs.Records.{Record, create, call, unreadable, Form, forms_of, length_of, trade_in, read_as, front_of, record_at, in_place}
use Rattle.rules.specs.Calls.{Call, enter, amend, exclude, roll, deposit, withdraw, run}
use Rattle.rules.specs.declared.Trade.{Trade}
use Rattle.laws.specs.Cases.{by_test, and_hold, cond_yes, cond_no}
use Rattle.callfile_format.specs.declared.reading.Read.{Read}
use Rattle.callfile_format.specs.declared.reading.Read.TheVariants as read
use Rattle.callfile_format.specs.Bodies.{body_at, codes_at, field_body, codes_in_lem}
use Rattle.callfile_format.specs.Kinds.{long_of, Stands, Found, standing, reads_as}

-- ── the record that was read ──

-- what the code's record says: a create, with its codes; none, that nothing can be read
unfoldable pub says : Option Read → List ℕ → Record
says None codes = unreadable
says (Some read.Create) codes = create codes
says (Some (read.Enter t)) codes = call (enter t)
says (Some (read.Amend t)) codes = call (amend t)
says (Some (read.Exclude n)) codes = call (exclude n)
says (Some read.Roll) codes = call roll
says (Some (read.Deposit a s q)) codes = call (deposit a s q)
says (Some (read.Withdraw a s q)) codes = call (withdraw a s q)
says (Some (read.Run s)) codes = call (run s)

-- ── its place ──

-- Create stands first and only there. Forms that are calls, and no create
unfoldable pub CallsOnly : List Form → Type 0
CallsOnly [] = Unit {0}
CallsOnly (f ∷ fs) = ((c : Call) × (f.says ≡ call c)) × CallsOnly fs

calls_late : (kind long : ℕ) (fs : List Form) → CallsOnly fs → in_place 1 (read_as kind long fs) ≡ unreadable
unfolding CallsOnly read_as in_place
calls_late kind long [] h = refl
calls_late kind long (f ∷ fs) h =
    by_test (eqb kind f.kind && eqb long f.long)
    (λ e. ap (in_place 1) (cond_yes f.says (read_as kind long fs) e ∙ h.0.1))
    (λ e. ap (in_place 1) (cond_no f.says (read_as kind long fs) e) ∙ calls_late kind long fs h.1)

not_first : (kind long : ℕ) (body : List ℕ) → kind ≢ 0 → in_place 1 (read_as kind long (forms_of body)) ≡ unreadable
unfolding read_as forms_of CallsOnly
not_first kind long body n =
    ap (λ (b : Bool). in_place 1 (cond (b && eqb long 33) (create (drop 1 body)) (read_as kind long (drop 1 (forms_of body))))) (ne_eqb kind 0 n)
    ∙ calls_late kind long (drop 1 (forms_of body)) ((_, refl), ((_, refl), ((_, refl), ((_, refl), ((_, refl), ((_, refl), ((_, refl), tt)))))))

later : (place : ℕ) (file : List ℕ) (c : Call) → place ≢ 1 → call c ≡ front_of (drop place file) → call c ≡ record_at file place
unfolding record_at in_place
later place file c n e = sym (cond_no unreadable (call c) (ne_eqb place 1 n)) ∙ ap (in_place place) e

pub first_is : (place : ℕ) (file : List ℕ) (r : Option Read) → place ≡ 1 → says r (codes_at 1 file) ≡ record_at file 1 → says r (codes_at place file) ≡ record_at file place
first_is place file r e h = rw e h

pub is_none : (place : ℕ) (file : List ℕ) → Found (drop place file) None → says None (codes_at place file) ≡ record_at file place
unfolding says record_at in_place
is_none place file f = sym (ap (in_place place) f)

module _ (place : ℕ) (file : List ℕ) (kind : ℕ) (f : Stands (drop place file) kind) where
  create_there : kind ≡ 0 → create (codes_at place file) ≡ front_of (drop place file)
  unfolding read_as forms_of long_of
  create_there e = ap create (codes_in_lem place file) ∙ reads_as place file kind 0 33 f e refl

  pub is_create_lem : place ≡ 1 → kind ≡ 0 → all is_code (codes_at place file) ≡ true → says (Some read.Create) (codes_at place file) ≡ record_at file place
  unfolding says record_at in_place
  is_create_lem p e g =
      sym (cond_yes (create (codes_at place file)) unreadable (and_hold (eq-eqb place 1 p) g))
      ∙ ap (in_place place) (create_there e)

  pub bad_create : kind ≡ 0 → all is_code (codes_at place file) ≡ false → says None (codes_at place file) ≡ record_at file place
  unfolding says record_at in_place
  bad_create e g =
      sym (cond_no (create (codes_at place file)) unreadable (ap (λ (b : Bool). eqb place 1 && b) g ∙ and-false (eqb place 1)))
      ∙ ap (in_place place) (create_there e)

  pub late_create : place ≢ 1 → kind ≡ 0 → says None (codes_at place file) ≡ record_at file place
  unfolding says record_at in_place
  late_create n e =
      sym (cond_no (create (codes_at place file)) unreadable (ap (λ (b : Bool). b && all is_code (codes_at place file)) (ne_eqb place 1 n)))
      ∙ ap (in_place place) (create_there e)

  -- no other call can stand first
  pub is_early : place ≡ 1 → kind ≢ 0 → says None (codes_at place file) ≡ record_at file place
  unfolding says record_at in_place
  is_early p n =
      let long = length_of (drop place file) in
      sym (ap (in_place place) (standing (drop place file) kind long f f.long_of)
      ∙ ap (λ (i : ℕ). in_place i (read_as kind long (forms_of (take long (drop 2 (drop place file)))))) p
      ∙ not_first kind long (take long (drop 2 (drop place file))) n)

  module _ (late : place ≢ 1) where
    pub is_enter : (t : Trade) → kind ≡ 1 → t ≡ trade_in (body_at 14 place file) → says (Some (read.Enter t)) (codes_at place file) ≡ record_at file place
    unfolding says read_as forms_of long_of
    is_enter t e g = later place file _ late (ap (λ (t : Trade). call (enter t)) g ∙ reads_as place file kind 1 14 f e refl)

    pub is_amend : (t : Trade) → kind ≡ 2 → t ≡ trade_in (body_at 14 place file) → says (Some (read.Amend t)) (codes_at place file) ≡ record_at file place
    unfolding says read_as forms_of long_of
    is_amend t e g = later place file _ late (ap (λ (t : Trade). call (amend t)) g ∙ reads_as place file kind 2 14 f e refl)

    pub is_exclude : (n : ℕ) → kind ≡ 3 → n ≡ field 2 (place + 3) file → says (Some (read.Exclude n)) (codes_at place file) ≡ record_at file place
    unfolding says read_as forms_of long_of
    is_exclude n e g = later place file _ late (ap (λ (n : ℕ). call (exclude n)) (g ∙ sym (field_body place file 2 1 3 (lit≤ tt))) ∙ reads_as place file kind 3 3 f e refl)

    pub is_roll_lem : kind ≡ 4 → says (Some read.Roll) (codes_at place file) ≡ record_at file place
    unfolding says read_as forms_of long_of
    is_roll_lem e = later place file _ late (reads_as place file kind 4 1 f e refl)

    module _ (a s q : ℕ) (ea : a ≡ field 1 1 (body_at 11 place file)) (es : s ≡ field 1 2 (body_at 11 place file)) (eq : q ≡ field 8 3 (body_at 11 place file)) where
      pub is_deposit : kind ≡ 5 → says (Some (read.Deposit a s q)) (codes_at place file) ≡ record_at file place
      unfolding says read_as forms_of long_of
      is_deposit e = later place file _ late (rw (ea, es, eq) (reads_as place file kind 5 11 f e refl))

      pub is_withdrawal : kind ≡ 6 → says (Some (read.Withdraw a s q)) (codes_at place file) ≡ record_at file place
      unfolding says read_as forms_of long_of
      is_withdrawal e = later place file _ late (rw (ea, es, eq) (reads_as place file kind 6 11 f e refl))

    pub is_run_lem : (s : ℕ) → kind ≡ 7 → s ≡ field 1 (place + 3) file → says (Some (read.Run s)) (codes_at place file) ≡ record_at file place
    unfolding says read_as forms_of long_of
    is_run_lem s e g = later place file _ late (ap (λ (s : ℕ). call (run s)) (g ∙ sym (field_body place file 1 1 2 (lit≤ tt))) ∙ reads_as place file kind 7 2 f e refl)
