-- Calls over the bytes of a sound book, accepted or refused: the bytes that they leave are those of a sound book, the one that the rules
-- leave. And on bytes that are no sound book every call is refused, and leaves them.
use Rattle.std.specs.Prelude.{◌≡◌, refl, true, false, List, [], ◌∷◌, ℕ, eqb, length}
use Rattle.std.proofs.Common.{sym, ap, ◌∙◌, subst, eqb-true, eq-eqb}
use Rattle.std.proofs.lemmas.Bool.{not-false}
use Rattle.fields.specs.Field.{Bytes}
use Rattle.rules.specs.Words.{first}
use Rattle.rules.specs.Layout.{book, book_length, book_of, bytes_of}
use Rattle.rules.specs.LayoutLaws.{book_bytes, book_fits, bytes_long}
use Rattle.rules.specs.Sound.{sound, not_sound}
use Rattle.rules.specs.Calls.{Call, after, answer, answer_bytes, after_bytes}
use Rattle.rules.specs.CallFile.{left}
use Rattle.rules.specs.declared.Book.{Book}
use Rattle.laws.specs.Cases.{both_hold}
use Rattle.laws.specs.Accepted.{passed, bytes_accepted}
use Rattle.laws.specs.Shaped.{fits_shaped}
use Rattle.laws.specs.Fitting.{CallFits}
use Rattle.history.specs.Histories.{made}
use Rattle.history.specs.Lent.{made_bytes, AllFit}
use Rattle.history.specs.Steps.{Good, left_yes, answer_sound_lem, made_good}
use Rattle.history.specs.AllBytes.{bytes_of_lem}
use Rattle.history.specs.LentHistory.{made_fits}
use Rattle.history.proofs.Theorems.{any_bytes}

unsound_stay : (bs : List ℕ) (c : Call) → not_sound bs ≡ true → after_bytes bs c ≡ bs
unfolding after_bytes answer_bytes first
unsound_stay bs c e = rw e

pub unsound_kept : (bs : List ℕ) (cs : List Call) → not_sound bs ≡ true → made_bytes bs cs ≡ bs
unfolding made_bytes
unsound_kept bs [] e = refl
unsound_kept bs (c ∷ cs) e = rw (unsound_stay bs c e) (unsound_kept bs cs e)

fine_bytes : (k : Book) → book.Ok k → sound k ≡ true → not_sound (bytes_of k) ≡ false
unfolding not_sound
fine_bytes k ok e = rw (book_bytes k ok, eq-eqb (length (bytes_of k)) book_length (bytes_long k ok), e)

module _ (bs : List ℕ) (bytes : Bytes bs) (fine : not_sound bs ≡ false) where
  parts : (length bs ≡ book_length) × (sound (book_of bs) ≡ true)
  unfolding not_sound
  parts =
      let p = both_hold (eqb (length bs) book_length) (sound (book_of bs)) (not-false _ fine) in
      (eqb-true (length bs) book_length p.0, p.1)

  fits : book.Ok (book_of bs)
  fits = book_fits bs bytes parts.0

  good : Good (book_of bs)
  good = record { sound = parts.1; shaped = fits_shaped (book_of bs) fits }

  -- one after another
  module _ (cs : List Call) (fit : AllFit cs) where
    made_stored : made_bytes bs cs ≡ bytes_of (made (book_of bs) cs)
    made_stored = any_bytes bs cs bytes parts.0 parts.1 fit

    pub made_book : book_of (made_bytes bs cs) ≡ made (book_of bs) cs
    made_book = ap book_of made_stored ∙ book_bytes (made (book_of bs) cs) (made_fits (book_of bs) cs good fits fit)

    pub made_clean : Bytes (made_bytes bs cs)
    made_clean = subst Bytes (sym made_stored) (bytes_of_lem (made (book_of bs) cs))

    pub made_fine : not_sound (made_bytes bs cs) ≡ false
    made_fine = ap not_sound made_stored ∙ fine_bytes (made (book_of bs) cs) (made_fits (book_of bs) cs good fits fit) (made_good (book_of bs) cs good).sound

  -- one call
  module _ (c : Call) (fit : CallFits c) where
    pub stored_book : book_of (after_bytes bs c) ≡ left (book_of bs) c
    unfolding made_bytes made AllFit
    stored_book = made_book (c ∷ []) (fit, tt)

    pub stored_fine : not_sound (after_bytes bs c) ≡ false
    unfolding made_bytes AllFit
    stored_fine = made_fine (c ∷ []) (fit, tt)

-- ── accepted ──

pub accepted_fine : (bs : List ℕ) (c : Call) → answer_bytes bs c ≡ 0 → not_sound bs ≡ false
unfolding answer_bytes
accepted_fine bs c e = (passed (not_sound bs) 0 _ e).0

pub stored_after : (bs : List ℕ) → Bytes bs → (c : Call) → CallFits c → answer_bytes bs c ≡ 0 → book_of (after_bytes bs c) ≡ after (book_of bs) c
stored_after bs bytes c fit e =
    let a = bytes_accepted bs c e in
    stored_book bs bytes (accepted_fine bs c e) c fit
    ∙ left_yes (book_of bs) c (eq-eqb (answer (book_of bs) c) 0 (answer_sound_lem (book_of bs) c a.1.0 ∙ a.1.1))
