-- The calls behind the create meet the book one after another, over lent bytes: what is left decides the answers and the book at the end.
use Rattle.std.specs.Prelude.{◌≡◌, Option, false, ℕ, ◌+◌, ◌≤◌, ◌<◌, refl, List, [], ◌∷◌, ◌++◌, length}
use Rattle.std.proofs.Common.{sym, ap, ap₂, subst, ◌∙◌, arith, length-append, eq-eqb}
use Rattle.fields.specs.Field.{digits, stored}
use Rattle.fields.specs.FieldLaws.{after, length_digits, length_stored, stored_none}
use Rattle.rules.specs.Words.{each}
use Rattle.rules.specs.Layout.{book, book_length, book_of, bytes_of}
use Rattle.rules.specs.LayoutLaws.{book_bytes, bytes_long}
use Rattle.rules.specs.Sound.{not_sound}
use Rattle.rules.specs.Calls.{Call, figure, answer_bytes, figure_bytes, after_bytes}
use Rattle.rules.specs.Records.{call, unreadable, record_at}
use Rattle.rules.specs.CallFile.{Contents, Answer, answered, left, played, nineteen}
use Rattle.rules.specs.declared.Book.{Book}
use Rattle.laws.specs.Fitting.{CallFits}
use Rattle.history.specs.Histories.{made}
use Rattle.history.specs.Lent.{made_bytes, AllFit}
use Rattle.history.specs.LentHistory.{answer_bytes_lem, figure_bytes_lem, made_bytes_lem}
use Rattle.history.specs.Steps.{Good, left_good}
use Rattle.history.specs.SoundFits.{left_fits}
use Rattle.callfile_format.specs.declared.reading.Read.{Read}
use Rattle.callfile_format.specs.Reading.{says}
use Rattle.playing_records.specs.Applying.{number_by, figure_by, bytes_by, Applied}
use Rattle.playing_records.specs.Steps.{next_in, left_at, left_end, left_call, left_none, left_stops, Shows, a_call, nothing, shows}

-- ── the answers in bytes ──

unfoldable pub text_of : List Answer → List ℕ
text_of l = each (λ a. digits 1 a.number ++ digits 8 a.figure) l

abbrev pub nine : ℕ → ℕ → List ℕ
nine number figure = digits 1 number ++ digits 8 figure

pub nine_long : (n f : ℕ) → length (nine n f) ≡ 9
nine_long n f = omega (arith, length-append (digits 1 n) (digits 8 f), length_digits 1 n, length_digits 8 f)

-- the answers of what is left, on a book
unfoldable pub answers_left : Book → Contents → List Answer
answers_left k c = (played k c.calls).answers ++ nineteen c.place

unfoldable pub text_left : Book → Contents → List ℕ
text_left k c = text_of (answers_left k c)

-- ── bytes that are a sound book ──

pub record Holds (bs : List ℕ) : Type 0 where
  pub same : bytes_of (book_of bs) ≡ bs
  pub good : Good (book_of bs)
  pub fits : book.Ok (book_of bs)

pub holds_of : (k : Book) → Good k → book.Ok k → Holds (bytes_of k)
holds_of k g ok = let e = book_bytes k ok in record { same = ap bytes_of e; good = subst Good (sym e) g; fits = subst (λ (j : Book). book.Ok j) (sym e) ok }

module _ (bs : List ℕ) (h : Holds bs) where
  pub holds_sound : not_sound bs ≡ false
  unfolding not_sound
  holds_sound = rw (eq-eqb (length bs) book_length (ap length (sym h.same) ∙ bytes_long (book_of bs) h.fits), h.good.sound)

  module _ (c : Call) where
    pub number_is : answer_bytes bs c ≡ (answered (book_of bs) c).number
    unfolding answered
    number_is = ap (λ (l : List ℕ). answer_bytes l c) (sym h.same) ∙ answer_bytes_lem (book_of bs) h.fits c

    pub figure_is : figure_bytes bs c ≡ (answered (book_of bs) c).figure
    unfolding answered
    figure_is = ap (λ (l : List ℕ). figure_bytes l c) (sym h.same) ∙ figure_bytes_lem (book_of bs) h.fits c

    module _ (fit : CallFits c) where
      after_is : after_bytes bs c ≡ bytes_of (left (book_of bs) c)
      unfolding made_bytes made AllFit
      after_is = ap (λ (l : List ℕ). after_bytes l c) (sym h.same) ∙ made_bytes_lem (book_of bs) (c ∷ []) h.good h.fits (fit, tt)

      left_ok : book.Ok (left (book_of bs) c)
      left_ok = left_fits (book_of bs) h.good h.fits c fit

      pub after_reads : book_of (after_bytes bs c) ≡ left (book_of bs) c
      after_reads = ap book_of after_is ∙ book_bytes (left (book_of bs) c) left_ok

      pub after_holds : Holds (after_bytes bs c)
      after_holds = subst Holds (sym after_is) (holds_of (left (book_of bs) c) (left_good (book_of bs) h.good c) left_ok)

-- ── what is left, one record further ──

module _ (file : List ℕ) (place : ℕ) (there : place < length file) (k : Book) where
  abbrev next : Contents
  next = left_at file (next_in file place)

  text_call : (c : Call) → record_at file place ≡ call c → text_left k (left_at file place) ≡ nine (answered k c).number (answered k c).figure ++ text_left (left k c) next
  unfolding text_left text_of answers_left played each
  text_call c e = rw (left_call file place there c e) refl

  made_call : (c : Call) → record_at file place ≡ call c → made k (left_at file place).calls ≡ made (left k c) next.calls
  unfolding made
  made_call c e = rw (left_call file place there c e) refl

  pub fit_call : (c : Call) → record_at file place ≡ call c → AllFit (left_at file place).calls → CallFits c × AllFit next.calls
  unfolding AllFit
  fit_call c e f = subst (λ (l : Contents). AllFit l.calls) (left_call file place there c e) f

  text_none : record_at file place ≡ unreadable → text_left k (left_at file place) ≡ nine 19 place ++ text_left k next
  unfolding text_left text_of answers_left played nineteen each
  text_none e = rw (left_none file place there e, left_stops file place there e) refl

  made_none : record_at file place ≡ unreadable → made k (left_at file place).calls ≡ made k next.calls
  made_none e = rw (left_none file place there e, left_stops file place there e) refl

  fit_none : record_at file place ≡ unreadable → AllFit next.calls
  unfolding AllFit
  fit_none e = rw (left_stops file place there e) tt

-- ── the loop ──

-- behind the create: a sound book, room for the answers, calls that fit
pub record Ready (bs file answers : List ℕ) : Type 0 where
  pub holds : Holds bs
  pub fit : AllFit (left_at file 36).calls
  pub within : 36 ≤ length file
  pub room : 9 + length (text_left (book_of bs) (left_at file 36)) ≤ length answers

-- what is left makes the whole
pub record State (file bs answers : List ℕ) (place at : ℕ) (lastBook lastAnswers : List ℕ) : Type 0 where
  pub holds : Holds bs
  pub fit : AllFit (left_at file place).calls
  pub late : 1 < place
  pub within : place ≤ length file
  pub room : at + length (text_left (book_of bs) (left_at file place)) ≤ length answers
  pub answers_end : stored answers at (text_left (book_of bs) (left_at file place)) ≡ lastAnswers
  pub book_end : bytes_of (made (book_of bs) (left_at file place).calls) ≡ lastBook

abbrev pub end_answers : List ℕ → List ℕ → List ℕ → List ℕ
end_answers bs file answers = stored answers 9 (text_left (book_of bs) (left_at file 36))

abbrev pub end_book : List ℕ → List ℕ → List ℕ
end_book bs file = bytes_of (made (book_of bs) (left_at file 36).calls)

pub begins : (bs file answers : List ℕ) → Ready bs file answers → State file bs answers 36 9 (end_book bs file) (end_answers bs file answers)
begins bs file answers r =
    record { holds = r.holds; fit = r.fit; late = omega arith; within = r.within; room = r.room; answers_end = refl; book_end = refl }

module _ (file bs answers : List ℕ) (place at : ℕ) (B A : List ℕ) (s : State file bs answers place at B A) where
  -- at the end nothing is left
  pub ends : length file ≤ place → (answers ≡ A) × (bs ≡ B)
  unfolding text_left text_of answers_left played nineteen each made
  ends h =
      let e = left_end file place h in (
        stored_none answers at ∙ ap (λ (c : Contents). stored answers at (text_left (book_of bs) c)) (sym e) ∙ s.answers_end,
        sym s.holds.same ∙ ap (λ (c : Contents). bytes_of (made (book_of bs) c.calls)) (sym e) ∙ s.book_end,
      )

  module _ (there : place < length file) where
    -- the room for one answer
    module _ (n f : ℕ) (k : Book) (bs' answers' : List ℕ) (place' at' : ℕ) where
      -- one answer written, one record further
      further : Holds bs' → book_of bs' ≡ k → AllFit (left_at file (next_in file place)).calls
          → text_left (book_of bs) (left_at file place) ≡ nine n f ++ text_left k (left_at file (next_in file place))
          → made (book_of bs) (left_at file place).calls ≡ made k (left_at file (next_in file place)).calls
          → answers' ≡ stored answers at (nine n f) → place' ≡ next_in file place → place' ≤ length file → place < place' → at' ≡ at + 9
          → State file bs' answers' place' at' B A
      further h ek fit et em ea ep le lt eat =
          let t = text_left k (left_at file (next_in file place)) in
          let l = length-append (nine n f) t in
          let w : stored answers' at' t ≡ stored answers at (nine n f ++ t) = after answers answers' (stored answers' at' t) at at' (nine n f) t ea refl (omega (arith, nine_long n f, eat)) in
          let moved : text_left (book_of bs') (left_at file place') ≡ t = ap₂ (λ (j : Book) (p : ℕ). text_left j (left_at file p)) ek ep in
          record {
            holds = h;
            fit = subst (λ (p : ℕ). AllFit (left_at file p).calls) (sym ep) fit;
            late = omega (arith, s.late, lt);
            within = le;
            room = omega (arith, s.room, ap length et, l, nine_long n f, ap length moved, ap length ea, length_stored answers at (nine n f), eat);
            answers_end = ap (stored answers' at') moved ∙ w ∙ ap (stored answers at) (sym et) ∙ s.answers_end;
            book_end = ap₂ (λ (j : Book) (p : ℕ). bytes_of (made j (left_at file p).calls)) ek ep ∙ ap bytes_of (sym em) ∙ s.book_end;
          }

    -- ── by the record that was read ──

    module _ (n f : ℕ) (bs' answers' : List ℕ) (place' at' : ℕ) (ea : answers' ≡ stored answers at (nine n f)) (ep : place' ≡ next_in file place)
        (le : place' ≤ length file) (lt : place < place') (eat : at' ≡ at + 9) where
      by_shows : (found : Option Read) → Applied bs place found n f bs' → Shows found (record_at file place) → State file bs' answers' place' at' B A
      unfolding number_by figure_by bytes_by
      by_shows found a (a_call c ec er) =
          let h = s.holds in
          let k = book_of bs in
          let fits = fit_call file place there k c er s.fit in
          let en : n ≡ (answered k c).number = a.0 ∙ ap (number_by bs) ec ∙ number_is bs h c in
          let ef : f ≡ (answered k c).figure = a.1 ∙ ap (figure_by bs place) ec ∙ figure_is bs h c in
          let eb : bs' ≡ after_bytes bs c = a.2 ∙ ap (bytes_by bs) ec in
          further n f (left k c) bs' answers' place' at' (subst Holds (sym eb) (after_holds bs h c fits.0)) (ap book_of eb ∙ after_reads bs h c fits.0) fits.1
          (text_call file place there k c er ∙ ap₂ (λ (x y : ℕ). nine x y ++ text_left (left k c) (left_at file (next_in file place))) (sym en) (sym ef))
          (made_call file place there k c er) ea ep le lt eat
      by_shows found a (nothing ec er) =
          let k = book_of bs in
          let en : n ≡ 19 = a.0 ∙ ap (number_by bs) ec in
          let ef : f ≡ place = a.1 ∙ ap (figure_by bs place) ec in
          let eb : bs' ≡ bs = a.2 ∙ ap (bytes_by bs) ec in
          further n f k bs' answers' place' at' (subst Holds (sym eb) s.holds) (ap book_of eb) (fit_none file place there k er)
          (text_none file place there k er ∙ ap₂ (λ (x y : ℕ). nine x y ++ text_left k (left_at file (next_in file place))) (sym en) (sym ef))
          (made_none file place there k er) ea ep le lt eat

      pub step : (found : Option Read) (codes : List ℕ) → says found codes ≡ record_at file place → Applied bs place found n f bs' → State file bs' answers' place' at' B A
      step found codes e a = by_shows found a (shows file place (λ z. omega (arith, s.late, z)) found codes e)

    room_by : (found : Option Read) → Shows found (record_at file place) → at + 9 ≤ length answers
    room_by found (a_call c ec er) =
        let k = book_of bs in
        omega (
          arith,
          s.room,
          ap length (text_call file place there k c er),
          length-append (nine (answered k c).number (answered k c).figure) (text_left (left k c) (left_at file (next_in file place))),
          nine_long (answered k c).number (answered k c).figure,
        )
    room_by found (nothing ec er) =
        let k = book_of bs in
        omega (arith, s.room, ap length (text_none file place there k er), length-append (nine 19 place) (text_left k (left_at file (next_in file place))), nine_long 19 place)

    pub one_more : (found : Option Read) (codes : List ℕ) → says found codes ≡ record_at file place → at + 9 ≤ length answers
    one_more found codes e = room_by found (shows file place (λ z. omega (arith, s.late, z)) found codes e)

-- ── lengths ──

pub holds_long : (bs : List ℕ) → Holds bs → length bs ≡ book_length
holds_long bs h = ap length (sym h.same) ∙ bytes_long (book_of bs) h.fits

pub answers_long : (file bs answers : List ℕ) (place at : ℕ) (first old : List ℕ) → State file bs answers place at (end_book first file) (end_answers first file old) → length answers ≡ length old
answers_long file bs answers place at first old s =
    sym (length_stored answers at (text_left (book_of bs) (left_at file place)))
    ∙ ap length s.answers_end
    ∙ length_stored old 9 (text_left (book_of first) (left_at file 36))
