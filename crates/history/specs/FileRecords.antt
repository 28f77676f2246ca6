-- The records of a file of bytes: a call's arguments fit their types, and a create in its place has 32 currency codes, each one of the codes.
use Rattle.std.specs.Prelude.{◌≡◌, true, false, ◌&&◌, List, [], ◌∷◌, ℕ, zero, suc, ◌<◌, eqb, ltb, length, take, drop, get_or}
use Rattle.std.proofs.Common.{arith, length-take, length-drop, eqb-true, ltb-false}
use Rattle.fields.specs.Field.{field, Bytes}
use Rattle.fields.specs.FieldLaws.{field_lt}
use Rattle.fields.specs.Codec.{bytes_drop}
use Rattle.rules.specs.Words.{all}
use Rattle.rules.specs.Bounds.{securities}
use Rattle.rules.specs.Sound.{is_code}
use Rattle.rules.specs.Records.{Record, create, call, unreadable, Form, length_of, trade_in, forms_of, read_as, is_cut, front_of, in_place, record_at, other_version}
use Rattle.rules.specs.CallFile.{Placed, is_unreadable, records_from, behind_version, records_in}
use Rattle.laws.specs.Cases.{by_test, both_hold, neither}
use Rattle.laws.specs.Fitting.{TradeFits, HoldingFits, CallFits}

-- ── a record ──

-- codes that make an empty book
abbrev pub GoodCodes : List ℕ → Type 0
GoodCodes codes = (length codes ≡ securities) × (all is_code codes ≡ true)

-- what stands at a place: a create of so many codes, a call whose arguments fit
unfoldable Fair : Record → Type 0
Fair (create codes) = length codes ≡ securities
Fair (call c) = CallFits c
Fair unreadable = Unit {0}

-- and in its place: a create with good codes
unfoldable pub Proper : Record → Type 0
Proper (create codes) = GoodCodes codes
Proper (call c) = CallFits c
Proper unreadable = Unit {0}

place_proper : (place : ℕ) (r : Record) → Fair r → Proper (in_place place r)
unfolding Fair Proper in_place
place_proper place (create codes) f =
    by_test (eqb place 1 && all is_code codes) (λ y. rw y (f, (both_hold (eqb place 1) (all is_code codes) y).1)) (λ n. rw n tt)
place_proper place (call c) f = by_test (eqb place 1) (λ y. rw y tt) (λ n. rw n f)
place_proper place unreadable f = tt

-- ── the forms ──

-- each says something fair, if its length is the one that is read
unfoldable AllFair : ℕ → List Form → Type 0
AllFair long [] = Unit {0}
AllFair long (f ∷ fs) = (long ≡ f.long → Fair f.says) × AllFair long fs

read_fair : (kind long : ℕ) (fs : List Form) → AllFair long fs → Fair (read_as kind long fs)
unfolding AllFair read_as Fair
read_fair kind long [] a = tt
read_fair kind long (f ∷ fs) a =
    let ih = read_fair kind long fs a.1 in
    by_test (eqb kind f.kind && eqb long f.long)
    (λ y. rw y (a.0 (eqb-true long f.long (both_hold (eqb kind f.kind) (eqb long f.long) y).1)))
    (λ n. rw n ih)

trade_fits : (body : List ℕ) → Bytes body → TradeFits (trade_in body)
unfolding trade_in
trade_fits body h =
    record {
      number = field_lt 2 1 body h;
      buyer = field_lt 1 3 body h;
      seller = field_lt 1 4 body h;
      security = field_lt 1 5 body h;
      quantity = field_lt 4 6 body h;
      price = field_lt 4 10 body h;
    }

holding_fits : (body : List ℕ) → Bytes body → HoldingFits (field 1 1 body) (field 1 2 body) (field 8 3 body)
holding_fits body h = record { account = field_lt 1 1 body h; security = field_lt 1 2 body h; quantity = field_lt 8 3 body h }

forms_fair : (long : ℕ) (body : List ℕ) → Bytes body → length body ≡ long → AllFair long (forms_of body)
unfolding AllFair forms_of Fair CallFits
forms_fair long body h e = (
  λ l. omega (arith, length-drop 1 body),
  (
    λ l. trade_fits body h,
    (
      λ l. trade_fits body h,
      (λ l. field_lt 2 1 body h, (λ l. tt, (λ l. holding_fits body h, (λ l. holding_fits body h, (λ l. field_lt 1 1 body h, tt))))),
    ),
  ),
)

-- ── the record at the front of some bytes ──

bytes_take : (n : ℕ) (bs : List ℕ) → Bytes bs → Bytes (take n bs)
bytes_take n bs h = record { byte = at n bs h.byte }
  where
    at : (n : ℕ) (bs : List ℕ) → ((i : ℕ) → get_or bs i 0 < 256) → (i : ℕ) → get_or (take n bs) i 0 < 256
    at zero bs f i = omega arith
    at (suc n) [] f i = omega arith
    at (suc n) (b ∷ bs) f zero = f zero
    at (suc n) (b ∷ bs) f (suc i) = at n bs (λ j. f (suc j)) i

none_said : Fair unreadable
unfolding Fair
none_said = tt

not_cut : (bs : List ℕ) → is_cut bs ≡ false → length (take (length_of bs) (drop 2 bs)) ≡ length_of bs
unfolding is_cut
not_cut bs n =
    let c = neither (ltb (length (take 2 bs)) 2) (ltb (length (take (length_of bs) (drop 2 bs))) (length_of bs)) n in
    omega (arith, ltb-false (length (take (length_of bs) (drop 2 bs))) (length_of bs) c.1, length-take (length_of bs) (drop 2 bs))

front_fair : (bs : List ℕ) → Bytes bs → Fair (front_of bs)
unfolding front_of
front_fair bs h =
    let body = take (length_of bs) (drop 2 bs) in
    let fine = bytes_take (length_of bs) (drop 2 bs) (bytes_drop 2 bs h) in
    by_test (is_cut bs) (λ y. rw y none_said)
    (λ n. rw n (read_fair (field 1 2 bs) (length_of bs) (forms_of body) (forms_fair (length_of bs) body fine (not_cut bs n))))

-- the record at a place
pub record_proper : (file : List ℕ) (place : ℕ) → Bytes file → Proper (record_at file place)
unfolding record_at
record_proper file place h = place_proper place (front_of (drop place file)) (front_fair (drop place file) (bytes_drop place file h))

-- ── all records of a file ──

unfoldable pub AllProper : List Placed → Type 0
AllProper [] = Unit {0}
AllProper (r ∷ rs) = Proper r.says × AllProper rs

from_proper : (skip place : ℕ) (bs : List ℕ) → Bytes bs → AllProper (records_from skip place bs)
unfolding records_from AllProper
from_proper skip place [] h = tt
from_proper (suc skip) place (b ∷ bs) h = from_proper skip (suc place) bs (bytes_drop 1 (b ∷ bs) h)
from_proper zero place (b ∷ bs) h =
    let r = in_place place (front_of (b ∷ bs)) in
    let rest = from_proper (suc (length_of (b ∷ bs))) (suc place) bs (bytes_drop 1 (b ∷ bs) h) in
    (place_proper place (front_of (b ∷ bs)) (front_fair (b ∷ bs) h), by_test (is_unreadable r) (λ y. rw y tt) (λ n. rw n rest))

behind_proper : (bs : List ℕ) → Bytes bs → AllProper (behind_version bs)
unfolding behind_version AllProper Proper
behind_proper [] h = (tt, tt)
behind_proper (b ∷ bs) h = from_proper 0 1 (b ∷ bs) h

none_proper : AllProper (record { place = 0; says = unreadable } ∷ [])
unfolding AllProper Proper
none_proper = (tt, tt)

pub file_proper : (file : List ℕ) → Bytes file → AllProper (records_in file)
unfolding records_in
file_proper file h =
    let rest = behind_proper (drop 1 file) (bytes_drop 1 file h) in
    by_test (other_version file) (λ y. rw y none_proper) (λ n. rw n rest)
