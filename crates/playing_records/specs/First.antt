-- What stands first in a file: another version, nothing that can be read, or a create with calls behind it; and so its answers and its book.
use Rattle.std.specs.Prelude.{◌≡◌, Option, Some, None, is_some, Bool, true, false, ◌&&◌, List, [], ◌∷◌, ℕ, ◌*◌, ◌≤◌, eqb, length, drop, refl}
use Rattle.std.proofs.Common.{sym, ap, ◌∙◌, arith, length-append, eqb-true}
use Rattle.rules.specs.Words.{all, each}
use Rattle.rules.specs.Sound.{is_code}
use Rattle.rules.specs.Book.{empty_book}
use Rattle.rules.specs.Calls.{Call}
use Rattle.rules.specs.Records.{Record, create, call, unreadable, Form, length_of, forms_of, read_as, is_cut, front_of, in_place, record_at, other_version}
use Rattle.rules.specs.CallFile.{Contents, Answer, is_unreadable, behind_version, records_in, before, contents, contents_of, left, played, played_from, nineteen, file_of}
use Rattle.rules.specs.declared.Book.{Book}
use Rattle.laws.specs.Cases.{by_test, both_hold, true_false, cond_yes, cond_no}
use Rattle.history.specs.Histories.{made}
use Rattle.history.specs.FileHistory.{played_made}
use Rattle.callfile_format.specs.declared.reading.Read.{Read}
use Rattle.callfile_format.specs.declared.reading.Read.TheVariants as read
use Rattle.callfile_format.specs.Reading.{says}
use Rattle.callfile_format.specs.Walking.{next_of, first_then, records_next}
use Rattle.playing_records.specs.Steps.{left_at, is_create, readable_fits, number_left}
use Rattle.playing_records.specs.Playing.{text_of, nine, nine_long, answers_left}

-- ── what stands first ──

pub version_there : (file : List ℕ) → other_version file ≡ false → 1 ≤ length file
unfolding other_version
version_there [] e = true_false refl e
version_there (b ∷ bs) e = omega arith

pub first_is : (file : List ℕ) → other_version file ≡ false → records_in file ≡ first_then file 1
unfolding records_in behind_version record_at in_place front_of is_cut is_unreadable
first_is [] e = absurd (omega (arith, version_there [] e))
first_is (v ∷ []) e = cond_no _ _ e
first_is (v ∷ b ∷ bs) e = cond_no _ _ e ∙ records_next (v ∷ b ∷ bs) 1 (omega arith)

-- a call does not stand first
unfoldable pub is_call : Record → Bool
is_call (create codes) = false
is_call (call c) = true
is_call unreadable = false

pub no_first : (r : Record) → is_call (in_place 1 r) ≡ false
unfolding in_place is_call
no_first (create codes) = by_test (eqb 1 1 && all is_code codes) (λ y. rw y) (λ y. rw y)
no_first (call c) = refl
no_first unreadable = refl

module _ (file codes : List ℕ) where
  not_call : (c : Call) → call c ≡ record_at file 1 → record_at file 1 ≡ create codes
  unfolding record_at is_call
  not_call c e = true_false (sym (ap is_call e)) (no_first (front_of (drop 1 file)))

  pub first_create : (r : Option Read) → says r codes ≡ record_at file 1 → is_some r ≡ true → record_at file 1 ≡ create codes
  unfolding says
  first_create None e n = true_false n refl
  first_create (Some read.Create) e n = sym e
  first_create (Some (read.Enter t)) e n = not_call _ e
  first_create (Some (read.Amend t)) e n = not_call _ e
  first_create (Some (read.Exclude m)) e n = not_call _ e
  first_create (Some read.Roll) e n = not_call _ e
  first_create (Some (read.Deposit a s q)) e n = not_call _ e
  first_create (Some (read.Withdraw a s q)) e n = not_call _ e
  first_create (Some (read.Run s)) e n = not_call _ e

-- ── a create takes 35 bytes ──

unfoldable NoCreates : List Form → Type 0
NoCreates [] = Unit {0}
NoCreates (f ∷ fs) = (is_create f.says ≡ false) × NoCreates fs

others : (kind long : ℕ) (fs : List Form) → NoCreates fs → is_create (read_as kind long fs) ≡ false
unfolding NoCreates read_as is_create
others kind long [] h = refl
others kind long (f ∷ fs) h =
    by_test (eqb kind f.kind && eqb long f.long)
    (λ y. ap is_create (cond_yes f.says (read_as kind long fs) y) ∙ h.0)
    (λ y. ap is_create (cond_no f.says (read_as kind long fs) y) ∙ others kind long fs h.1)

read_create : (kind long : ℕ) (body : List ℕ) → is_create (read_as kind long (forms_of body)) ≡ true → long ≡ 33
unfolding read_as forms_of NoCreates is_create
read_create kind long body e =
    by_test (eqb kind 0 && eqb long 33)
    (λ y. eqb-true long 33 (both_hold (eqb kind 0) (eqb long 33) y).1)
    (λ y. true_false e
    (ap is_create (cond_no (create (drop 1 body)) (read_as kind long (drop 1 (forms_of body))) y)
    ∙ others kind long (drop 1 (forms_of body)) (refl, (refl, (refl, (refl, (refl, (refl, (refl, tt)))))))))

front_create : (bs : List ℕ) → is_create (front_of bs) ≡ true → length_of bs ≡ 33
unfolding front_of is_create
front_create bs e =
    by_test (is_cut bs)
    (λ y. true_false e (ap is_create (cond_yes unreadable _ y)))
    (λ y. read_create _ (length_of bs) _ (sym (ap is_create (cond_no unreadable _ y)) ∙ e))

place_create : (place : ℕ) (r : Record) → is_create (in_place place r) ≡ true → is_create r ≡ true
unfolding in_place is_create
place_create place (create codes) e = refl
place_create place (call c) e = true_false e (by_test (eqb place 1) (λ y. rw y) (λ y. rw y))
place_create place unreadable e = e

module _ (file codes : List ℕ) (e : record_at file 1 ≡ create codes) where
  pub behind_create : next_of file 1 ≡ 36
  unfolding record_at is_create
  behind_create = omega (arith, front_create (drop 1 file) (place_create 1 (front_of (drop 1 file)) (ap is_create e)))

  pub create_fits : 36 ≤ length file
  unfolding is_unreadable
  create_fits = omega (arith, behind_create, readable_fits file 1 (ap is_unreadable e))

-- ── what the file says ──

pub other_says : (file : List ℕ) → other_version file ≡ true → contents_of file ≡ record { codes = None; calls = []; place = Some 0 }
unfolding contents_of records_in contents before
other_says file e = ap contents (cond_yes _ _ e)

module _ (file : List ℕ) (ours : other_version file ≡ false) where
  pub none_first : record_at file 1 ≡ unreadable → contents_of file ≡ record { codes = None; calls = []; place = Some 1 }
  unfolding contents_of contents before
  none_first e = ap contents (first_is file ours) ∙ rw e refl

  pub create_first : (codes : List ℕ) → record_at file 1 ≡ create codes
      → contents_of file ≡ record { codes = Some codes; calls = (left_at file 36).calls; place = (left_at file 36).place }
  unfolding contents_of contents before is_unreadable left_at
  create_first codes e = ap contents (first_is file ours) ∙ rw (e, behind_create file codes e) refl

-- ── the answers and the book of the file ──

module _ (file : List ℕ) where
  pub unread : (p : ℕ) → contents_of file ≡ record { codes = None; calls = []; place = Some p } → file_of file ≡ record { answers = record { number = 19; figure = p } ∷ []; book = None }
  unfolding file_of played_from nineteen
  unread p e = rw e refl

  pub begun : (codes : List ℕ) → contents_of file ≡ record { codes = Some codes; calls = (left_at file 36).calls; place = (left_at file 36).place }
      → file_of file ≡ record { answers = record { number = 0; figure = 0 } ∷ answers_left (empty_book codes) (left_at file 36); book = Some (made (empty_book codes) (left_at file 36).calls) }
  unfolding file_of played_from answers_left
  begun codes e = rw (e, sym (played_made (empty_book codes) (left_at file 36).calls)) refl

-- how many answers
played_long : (k : Book) (cs : List Call) → length (played k cs).answers ≡ length cs
unfolding played
played_long k [] = refl
played_long k (c ∷ cs) = omega (arith, played_long (left k c) cs)

pub left_long : (k : Book) (c : Contents) → length (answers_left k c) ≡ number_left c
unfolding answers_left number_left
left_long k c = omega (arith, length-append (played k c.calls).answers (nineteen c.place), played_long k c.calls)

pub text_long : (l : List Answer) → length (text_of l) ≡ 9 * length l
unfolding text_of each
text_long [] = refl
text_long (a ∷ l) = omega (arith, length-append (nine a.number a.figure) (text_of l), nine_long a.number a.figure, text_long l)
