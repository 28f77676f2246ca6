-- A record that can be read stands whole in its file.
use Rattle.std.specs.Prelude.{◌≡◌, refl, Bool, true, cond, ◌&&◌, ltb, length, false, List, [], ◌∷◌, ℕ, ◌+◌, ◌≤◌, eqb, take, drop}
use Rattle.std.proofs.Common.{sym, ◌∙◌, ap, arith, length-take, length-drop, ltb-false, eqb-true}
use Rattle.fields.specs.Field.{field}
use Rattle.rules.specs.Calls.{Call}
use Rattle.rules.specs.Records.{Record, create, call, unreadable, length_of, Form, forms_of, read_as, is_cut, front_of, record_at, in_place}
use Rattle.rules.specs.CallFile.{is_unreadable}
use Rattle.laws.specs.Cases.{by_test, true_false, both_hold, neither, cond_yes, cond_no}
use Rattle.callfile_format.specs.Reading.{CallsOnly}

unfoldable pub is_create : Record → Bool
is_create (create codes) = true
is_create (call c) = false
is_create unreadable = false

pub call_no_create : (place : ℕ) (c : Call) → is_create (in_place place (call c)) ≡ false
unfolding is_create in_place
call_no_create place c = by_test (eqb place 1) (λ e. ap is_create (cond_yes unreadable (call c) e)) (λ e. ap is_create (cond_no unreadable (call c) e))

calls_no_create : (place kind long : ℕ) (fs : List Form) → CallsOnly fs → is_create (in_place place (read_as kind long fs)) ≡ false
unfolding CallsOnly read_as in_place is_create
calls_no_create place kind long [] h = refl
calls_no_create place kind long (f ∷ fs) h =
    by_test (eqb kind f.kind && eqb long f.long)
    (λ e. ap (λ (r : Record). is_create (in_place place r)) (cond_yes f.says (read_as kind long fs) e ∙ h.0.1) ∙ call_no_create place h.0.0)
    (λ e. ap (λ (r : Record). is_create (in_place place r)) (cond_no f.says (read_as kind long fs) e) ∙ calls_no_create place kind long fs h.1)

-- of another length than 33 nothing is a create
other_no_create : (place kind long : ℕ) (body : List ℕ) → eqb kind 0 && eqb long 33 ≡ false → is_create (in_place place (read_as kind long (forms_of body))) ≡ false
unfolding read_as forms_of CallsOnly
other_no_create place kind long body e =
    ap (λ (b : Bool). is_create (in_place place (cond b (create (drop 1 body)) (read_as kind long (drop 1 (forms_of body)))))) e
    ∙ calls_no_create place kind long (drop 1 (forms_of body)) ((_, refl), ((_, refl), ((_, refl), ((_, refl), ((_, refl), ((_, refl), ((_, refl), tt)))))))

module _ (file : List ℕ) (place : ℕ) where
  -- a cut record is unreadable
  cut_there : is_cut (drop place file) ≡ true → record_at file place ≡ unreadable
  unfolding record_at front_of in_place
  cut_there e = ap (in_place place) (cond_yes unreadable _ e)

  pub whole_there : is_unreadable (record_at file place) ≡ false → is_cut (drop place file) ≡ false
  unfolding is_unreadable
  whole_there n = by_test (is_cut (drop place file)) (λ e. true_false (ap is_unreadable (cut_there e)) n) (λ e. e)

  -- so its length and its body are there
  pub body_there : is_unreadable (record_at file place) ≡ false → place + 2 + length_of (drop place file) ≤ length file
  unfolding is_cut
  body_there n =
      let bs : List ℕ = drop place file in
      let w = neither (ltb (length (take 2 bs)) 2) (ltb (length (take (length_of bs) (drop 2 bs))) (length_of bs)) (whole_there n) in
      omega (
        arith,
        ltb-false (length (take 2 bs)) 2 w.0,
        ltb-false (length (take (length_of bs) (drop 2 bs))) (length_of bs) w.1,
        length-take 2 bs,
        length-take (length_of bs) (drop 2 bs),
        length-drop 2 bs,
        length-drop place file,
      )

  -- a create has a body of 33 bytes
  pub create_long : (codes : List ℕ) → record_at file place ≡ create codes → length_of (drop place file) ≡ 33
  unfolding record_at front_of in_place is_create is_unreadable
  create_long codes e =
      let bs : List ℕ = drop place file in
      let whole : is_cut bs ≡ false = whole_there (ap is_unreadable e) in
      let body : List ℕ = take (length_of bs) (drop 2 bs) in
      by_test (eqb (field 1 2 bs) 0 && eqb (length_of bs) 33)
      (λ t. eqb-true (length_of bs) 33 (both_hold (eqb (field 1 2 bs) 0) (eqb (length_of bs) 33) t).1)
      (λ t. true_false (ap is_create (sym (ap (in_place place) (cond_no unreadable _ whole)) ∙ e)) (other_no_create place (field 1 2 bs) (length_of bs) body t))
