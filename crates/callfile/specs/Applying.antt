-- What stands at a place is done by its call: the answer and the bytes of the record, from those of the call.
use Rattle.std.specs.Prelude.{◌≡◌, refl, true, false, ◌&&◌, List, [], ℕ, ◌+◌, ◌-◌, ◌≤◌, eqb, length, take, drop, pos, Result}
use Rattle.std.proofs.Common.{sym, ap, subst, ◌∙◌, arith, length-take, length-drop, eq-eqb, eqb-true}
use Rattle.units.specs.Units.{shares}
use Rattle.units.specs.declared.Shares.{Shares}
use Rattle.rules.specs.Words.{all, first}
use Rattle.rules.specs.Bounds.{securities}
use Rattle.rules.specs.Book.{empty_book}
use Rattle.rules.specs.Layout.{book_length, book_of, bytes_of}
use Rattle.rules.specs.Sound.{is_code}
use Rattle.rules.specs.Calls.{Call, run, figure, answer_bytes, figure_bytes, after_bytes, run_answer, create_tests, create_answer, create_bytes}
use Rattle.rules.specs.Records.{Record, create, call, unreadable, length_of, in_place, record_at, file_refused}
use Rattle.rules.specs.CallFile.{is_unreadable}
use Rattle.rules.specs.declared.RecordAnswer.{RecordAnswer}
use Rattle.rules.specs.declared.RecordAnswer.TheVariants.{Answered, Unreadable}
use Rattle.laws.specs.Cases.{by_test, true_false, both_hold, cond_yes, cond_no}
use Rattle.callfile_format.specs.Bodies.{codes_at}
use Rattle.callfile.specs.Rooms.{is_create, call_no_create, body_there, create_long}
use Rattle.callfile.specs.Answering.{Done, Ready, ran_as, not_refused, none_there, call_there, create_there}

-- ── a create's codes are good ──

unfoldable codes_in : Record → List ℕ
codes_in (create codes) = codes
codes_in (call c) = []
codes_in unreadable = []

good_codes : (place : ℕ) (r : Record) (codes : List ℕ) → in_place place r ≡ create codes → all is_code codes ≡ true
unfolding in_place is_create codes_in
good_codes place (create cs) codes e =
    by_test (eqb place 1 && all is_code cs)
    (λ t. subst (λ (l : List ℕ). all is_code l ≡ true) (ap codes_in (sym (cond_yes (create cs) unreadable t) ∙ e)) (both_hold (eqb place 1) (all is_code cs) t).1)
    (λ t. true_false (ap is_create e) (ap is_create (cond_no (create cs) unreadable t)))
good_codes place (call c) codes e = true_false (ap is_create e) (call_no_create place c)
good_codes place unreadable codes e = true_false (ap is_create e) refl

-- ── figures ──

no_figure : (bs : List ℕ) (c : Call) → figure (book_of bs) c ≡ 0 → figure_bytes bs c ≡ 0
unfolding figure_bytes
no_figure bs c e =
    by_test (eqb (answer_bytes bs c) 0) (λ t. cond_yes (figure (book_of bs) c) 0 t ∙ e) (λ t. cond_no (figure (book_of bs) c) 0 t)

ran_is : (bs : List ℕ) (s m : ℕ) → ran_as (run_answer bs s) m ≡ Answered (answer_bytes bs (run s)) (shares (pos (figure_bytes bs (run s)))) m
unfolding run_answer ran_as figure_bytes
ran_is bs s m =
    by_test (eqb (answer_bytes bs (run s)) 0)
    (λ t. rw (t, eqb-true (answer_bytes bs (run s)) 0 t))
    (λ t. rw t)

-- ── the record ──

module _ (book file : List ℕ) (place : ℕ) (r : Ready book file place) where
  abbrev next : ℕ
  next = place + 2 + length_of (drop place file)

  taken : file_refused book file ≡ false
  taken = not_refused book file place r.short r.long

  readable : is_unreadable (record_at file place) ≡ false → place + 2 ≤ length file
  readable n = omega (arith, body_there file place n)

  pub none_done : unreadable ≡ record_at file place → Done book file place (Unreadable place) book
  none_done e = none_there book file place taken r.ours r.there (sym e)

  pub call_done : (c : Call) (n m : ℕ) (a : RecordAnswer) (new : List ℕ) → call c ≡ record_at file place → figure (book_of book) c ≡ 0
      → (n ≡ answer_bytes book c) × (new ≡ after_bytes book c) → (place + 2 ≤ length file → m ≡ next) → a ≡ Answered n (shares (pos 0)) m → Done book file place a new
  unfolding is_unreadable
  call_done c n m a new e z d em ea =
      rw ea
      (call_there book file place taken r.ours r.there c n (shares (pos 0)) m new (sym e) d.0
      (ap (λ (k : ℕ). shares (pos k)) (sym (no_figure book c z))) (em (readable (ap is_unreadable (sym e)))) d.1)

  pub run_done : (s m : ℕ) (t : Result Shares ℕ) (a : RecordAnswer) (new : List ℕ) → call (run s) ≡ record_at file place → t ≡ run_answer book s
      → new ≡ after_bytes book (run s) → (place + 2 ≤ length file → m ≡ next) → a ≡ ran_as t m → Done book file place a new
  unfolding is_unreadable
  run_done s m t a new e et f em ea =
      rw (ea, et, ran_is book s m)
      (call_there book file place taken r.ours r.there (run s) (answer_bytes book (run s))
      (shares (pos (figure_bytes book (run s)))) m new (sym e) refl refl (em (readable (ap is_unreadable (sym e)))) f)

  module _ (e : create (codes_at place file) ≡ record_at file place) where
    pub codes_there : place + 35 ≤ length file
    unfolding is_unreadable
    codes_there = omega (arith, body_there file place (ap is_unreadable (sym e)), create_long file place (codes_at place file) (sym e))

    accepted : create_answer book (codes_at place file) ≡ 0
    unfolding create_answer create_tests first record_at
    accepted =
        let codes : List ℕ = codes_at place file in
        let l : length codes ≡ securities = omega (arith, length-take 32 (drop (place + 3) file), length-drop (place + 3) file, codes_there) in
        rw (eq-eqb (length book) book_length r.long, eq-eqb (length codes) securities l, good_codes place _ codes (sym e))

    created : create_bytes book (codes_at place file) ≡ bytes_of (empty_book (codes_at place file))
    unfolding create_bytes
    created = cond_yes _ _ (eq-eqb _ 0 accepted)

    pub create_answered : (codes : List ℕ) → codes ≡ codes_at place file → (n m : ℕ) (a : RecordAnswer) (new : List ℕ)
        → (n ≡ create_answer book codes) × (new ≡ create_bytes book codes) → (place + 2 ≤ length file → m ≡ next) → a ≡ Answered n (shares (pos 0)) m
        → Done book file place a new
    unfolding is_unreadable
    create_answered codes ec n m a new d em ea =
        rw (ea, d.0 ∙ ap (create_answer book) ec ∙ accepted)
        (create_there book file place taken r.ours r.there (codes_at place file) (shares (pos 0)) m new (sym e) refl (em (readable (ap is_unreadable (sym e))))
        (d.1 ∙ ap (create_bytes book) ec ∙ created))

    -- a create that stands first is accepted
    pub create_done : (m : ℕ) (a : RecordAnswer) (new : List ℕ) → (place + 2 ≤ length file → m ≡ next) → a ≡ Answered 0 (shares (pos 0)) m
        → new ≡ create_bytes book (take (place + 35 - (place + 3)) (drop (place + 3) file)) → Done book file place a new
    create_done m a new em ea f =
        let g : place + 35 - (place + 3) ≡ 32 = omega arith in
        create_answered (codes_at place file) refl 0 m a new (sym accepted, f ∙ ap (λ (n : ℕ). create_bytes book (take n (drop (place + 3) file))) g) em ea
