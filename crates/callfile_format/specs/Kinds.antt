-- The kind of the record at a place of a call file: what its kind byte and its length say, and where nothing can be read.
use Rattle.std.specs.Prelude.{◌≡◌, Option, Some, None, true, false, ◌&&◌, List, [], ◌∷◌, ℕ, ◌+◌, ◌≤◌, ◌<◌, ◌≢◌, eqb, ltb, length, take, drop, slice_get}
use Rattle.std.proofs.Common.{sym, ap, ◌∙◌, refl, arith, length-take, length-drop, lt-ltb, le-ltb, ltb-false, eqb-true, ne_eqb}
use Rattle.std.proofs.lemmas.Option.{slice_get_past, slice_get_within}
use Rattle.fields.specs.Field.{field}
use Rattle.fields.specs.FieldLaws.{field_from}
use Rattle.fields.specs.Codec.{field_at}
use Rattle.rules.specs.Records.{Record, unreadable, length_of, forms_of, read_as, is_cut, front_of}
use Rattle.laws.specs.Cases.{by_test, neither, cond_yes, cond_no, or_right}
use Rattle.callfile_format.specs.Bodies.{body_at}

-- ── kinds ──

-- how long the body of a kind of record is, if there is such a kind
unfoldable pub long_of : ℕ → Option ℕ
long_of kind = slice_get (33 ∷ 14 ∷ 14 ∷ 3 ∷ 1 ∷ 11 ∷ 11 ∷ 2 ∷ []) kind

pub no_kind : (kind : ℕ) → 8 ≤ kind → long_of kind ≡ None
unfolding long_of
no_kind kind h = slice_get_past (33 ∷ 14 ∷ 14 ∷ 3 ∷ 1 ∷ 11 ∷ 11 ∷ 2 ∷ []) kind h

-- a whole record of that kind stands in front
pub record Stands (bs : List ℕ) (kind : ℕ) : Type 0 where
  pub whole : is_cut bs ≡ false
  pub kind_of : field 1 2 bs ≡ kind
  pub long_of : long_of kind ≡ Some (length_of bs)

pub few_kinds : (bs : List ℕ) (kind : ℕ) → Stands bs kind → kind < 8
unfolding long_of
few_kinds bs kind s = slice_get_within (33 ∷ 14 ∷ 14 ∷ 3 ∷ 1 ∷ 11 ∷ 11 ∷ 2 ∷ []) kind (length_of bs) s.long_of

-- what the search for a kind finds: none where nothing can be read
abbrev pub Found : List ℕ → Option ℕ → Type 0
Found bs None = front_of bs ≡ unreadable
Found bs (Some kind) = Stands bs kind

-- ── nothing that can be read ──

module _ (bs : List ℕ) where
  cut_front : is_cut bs ≡ true → front_of bs ≡ unreadable
  unfolding front_of
  cut_front e = cond_yes unreadable _ e

  -- where no form fits, it does not matter whether the record is cut
  other_front : read_as (field 1 2 bs) (length_of bs) (forms_of (take (length_of bs) (drop 2 bs))) ≡ unreadable → front_of bs ≡ unreadable
  unfolding front_of
  other_front e = by_test (is_cut bs) (λ f. cond_yes unreadable _ f) (λ f. cond_no unreadable _ f ∙ e)

  no_length : length bs < 2 → is_cut bs ≡ true
  unfolding is_cut
  no_length h = rw (lt-ltb (length (take 2 bs)) 2 (omega (arith, length-take 2 bs)))

  no_body : 2 ≤ length bs → length bs < 2 + length_of bs → is_cut bs ≡ true
  unfolding is_cut
  no_body w h =
      or_right (ltb (length (take 2 bs)) 2)
      (lt-ltb (length (take (length_of bs) (drop 2 bs))) (length_of bs) (omega (arith, length-take (length_of bs) (drop 2 bs), length-drop 2 bs)))

  whole_front : 2 + length_of bs ≤ length bs → is_cut bs ≡ false
  unfolding is_cut
  whole_front h =
      rw (
        le-ltb (length (take 2 bs)) 2 (omega (arith, length-take 2 bs)),
        le-ltb (length (take (length_of bs) (drop 2 bs))) (length_of bs) (omega (arith, length-take (length_of bs) (drop 2 bs), length-drop 2 bs)),
      )

-- ── another kind or length ──

module _ (kind long : ℕ) (body : List ℕ) where
  -- no form has another length than that of its kind,
  missed : (i l : ℕ) → long_of i ≡ Some l → long_of kind ≢ Some long → eqb kind i && eqb long l ≡ false
  missed i l f h =
      by_test (eqb kind i)
      (λ e. rw (e, ne_eqb long l (λ g. h (ap long_of (eqb-true kind i e) ∙ f ∙ ap Some (sym g)))))
      (λ e. rw e)

  other_form : long_of kind ≢ Some long → read_as kind long (forms_of body) ≡ unreadable
  unfolding read_as forms_of long_of
  other_form h = rw (missed 0 33 refl h, missed 1 14 refl h, missed 2 14 refl h, missed 3 3 refl h, missed 4 1 refl h, missed 5 11 refl h, missed 6 11 refl h, missed 7 2 refl h)

  -- and none has an empty body
  empty : (i l : ℕ) → long ≡ 0 → 0 < l → eqb kind i && eqb long l ≡ false
  empty i l e h = by_test (eqb kind i) (λ f. rw (f, ne_eqb long l (λ g. omega arith))) (λ f. rw f)

  no_form : long ≡ 0 → read_as kind long (forms_of body) ≡ unreadable
  unfolding read_as forms_of
  no_form e =
      let p : (i l : ℕ) → 0 < l → eqb kind i && eqb long l ≡ false = λ i l. empty i l e in
      rw (p 0 33 (omega arith), p 1 14 (omega arith), p 2 14 (omega arith), p 3 3 (omega arith), p 4 1 (omega arith), p 5 11 (omega arith), p 6 11 (omega arith), p 7 2 (omega arith))

-- ── the search for a kind, in a file ──

module _ (place : ℕ) (file : List ℕ) where
  pub short_at : length file < place + 2 → Found (drop place file) None
  short_at h = cut_front (drop place file) (no_length (drop place file) (omega (arith, length-drop place file)))

  module _ (long : ℕ) (e : long ≡ field 2 place file) where
    long_at : length_of (drop place file) ≡ long
    unfolding length_of
    long_at = field_at 2 place file ∙ sym e

    pub cut_at : place + 2 ≤ length file → length file < place + 2 + long → Found (drop place file) None
    cut_at w h = cut_front (drop place file) (no_body (drop place file) (omega (arith, length-drop place file)) (omega (arith, length-drop place file, long_at)))

    pub none_at : long ≡ 0 → Found (drop place file) None
    none_at z = other_front (drop place file) (no_form _ _ _ (long_at ∙ z))

    module _ (kind : ℕ) (f : kind ≡ field 1 (place + 2) file) where
      kind_at : field 1 2 (drop place file) ≡ kind
      kind_at = field_from 1 2 place file ∙ sym f

      pub other_at : long_of kind ≢ Some long → Found (drop place file) None
      other_at h = other_front (drop place file) (other_form _ _ _ (λ z. h (sym (ap long_of kind_at) ∙ z ∙ ap Some long_at)))

      pub found_at : place + 2 + long ≤ length file → long_of kind ≡ Some long → Found (drop place file) (Some kind)
      found_at h g =
          record {
            whole = whole_front (drop place file) (omega (arith, length-drop place file, long_at));
            kind_of = kind_at;
            long_of = g ∙ ap Some (sym long_at);
          }

-- ── a record that stands ──

module _ (bs : List ℕ) (kind long : ℕ) (s : Stands bs kind) (e : long_of kind ≡ Some long) where
  long_is : length_of bs ≡ long
  long_is = let h = s.long_of in cc

  pub standing : front_of bs ≡ read_as kind long (forms_of (take long (drop 2 bs)))
  unfolding front_of
  standing = rw (s.whole, s.kind_of, long_is)

  body_fits : 2 + long ≤ length bs
  unfolding is_cut
  body_fits =
      let n = neither (ltb (length (take 2 bs)) 2) (ltb (length (take (length_of bs) (drop 2 bs))) (length_of bs)) s.whole in
      omega (
        arith,
        ltb-false (length (take 2 bs)) 2 n.0,
        ltb-false (length (take (length_of bs) (drop 2 bs))) (length_of bs) n.1,
        length-take 2 bs,
        length-take (length_of bs) (drop 2 bs),
        length-drop 2 bs,
        long_is,
      )

module _ (place : ℕ) (file : List ℕ) where
  -- what was found, by its kind
  pub room_at : (kind i long : ℕ) → Stands (drop place file) kind → kind ≡ i → long_of i ≡ Some long → place + (2 + long) ≤ length file
  room_at kind i long s e f = omega (arith, body_fits (drop place file) kind long s (ap long_of e ∙ f), length-drop place file)

  abbrev reads : ℕ → ℕ → Record
  reads kind long = read_as kind long (forms_of (body_at long place file))

  pub reads_as : (kind i long : ℕ) → Stands (drop place file) kind → kind ≡ i → long_of i ≡ Some long → reads i long ≡ front_of (drop place file)
  reads_as kind i long s e f = sym (standing (drop place file) kind long s (ap long_of e ∙ f) ∙ ap (λ (k : ℕ). reads k long) e)
