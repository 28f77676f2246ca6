-- A call over lent bytes that are no sound book; and creation, by the ways that its code takes.
use Rattle.std.specs.Prelude.{◌≡◌, Bool, true, false, ◌||◌, ℕ, eqb, length, pos, Ok, Err}
use Rattle.std.proofs.Math.Path.{sym}
use Rattle.std.proofs.Common.{ap, ◌∙◌, arith}
use Rattle.std.proofs.Math.Bool.{not}
use mathlib.Core.List.{List, [], ◌∷◌}
use borrow.Author.Tests.{eq-eqb, ne_eqb}
use Rattle.units.specs.Units.{shares}
use Rattle.rules.specs.Words.{all, Test, first}
use Rattle.rules.specs.Bounds.{securities}
use Rattle.rules.specs.Book.{empty_book}
use Rattle.rules.specs.Layout.{book_length, book_of, bytes_of}
use Rattle.rules.specs.Sound.{not_sound, is_code}
use Rattle.rules.specs.Calls.{Call, run, tests, after, answer_bytes, after_bytes, figure_bytes, run_answer, create_tests, create_answer, create_bytes}
use Rattle.laws.specs.Cases.{cond_no}

-- what a test that was made gives
pub stopped : (b : Bool) (n : ℕ) (ts : List Test) → b ≡ true → n ≡ first ((b, n) ∷ ts)
unfolding first
stopped b n ts e = rw e

pub gone_on : (b : Bool) (n : ℕ) (ts : List Test) → b ≡ false → first ts ≡ first ((b, n) ∷ ts)
unfolding first
gone_on b n ts e = rw e

-- ── no sound book ──

module _ (bs : List ℕ) (h : not_sound bs ≡ true) where
  pub unsound : (c : Call) → (1 ≡ answer_bytes bs c) × (bs ≡ after_bytes bs c)
  unfolding answer_bytes after_bytes
  unsound c =
      let e : 1 ≡ answer_bytes bs c = stopped (not_sound bs) 1 (tests (book_of bs) c) h in
      (e, sym (cond_no (bytes_of (after (book_of bs) c)) bs (ne_eqb (answer_bytes bs c) 0 (λ z. omega (arith, e, z)))))

  pub run_unsound : (s : ℕ) → (Err 1 ≡ run_answer bs s) × (bs ≡ after_bytes bs (run s))
  unfolding run_answer
  run_unsound s =
      let u = unsound (run s) in
      (ap Err u.0 ∙ sym (cond_no (Ok (shares (pos (figure_bytes bs (run s))))) _ (ne_eqb (answer_bytes bs (run s)) 0 (λ z. omega (arith, u.0, z)))), u.1)

-- ── creation ──

module _ (bs codes : List ℕ) where
  create_keeps : (n : ℕ) → n ≡ create_answer bs codes → (n ≡ 0 → ⊥) → (n ≡ create_answer bs codes) × (bs ≡ create_bytes bs codes)
  unfolding create_bytes
  create_keeps n e z = (e, rw (sym e, ne_eqb n 0 z))

  pub no_room : (length bs ≡ book_length → ⊥) → (18 ≡ create_answer bs codes) × (bs ≡ create_bytes bs codes)
  unfolding create_answer create_tests
  no_room h = create_keeps 18 (stopped _ 18 _ (rw (ne_eqb (length bs) book_length h))) (λ z. omega arith)

  pub no_codes : length bs ≡ book_length → (length codes ≡ securities → ⊥) → (18 ≡ create_answer bs codes) × (bs ≡ create_bytes bs codes)
  unfolding create_answer create_tests
  no_codes l h = create_keeps 18 (stopped _ 18 _ (rw (eq-eqb (length bs) book_length l, ne_eqb (length codes) securities h))) (λ z. omega arith)

  rooms : length bs ≡ book_length → length codes ≡ securities → not (eqb (length bs) book_length) || not (eqb (length codes) securities) ≡ false
  rooms l h = rw (eq-eqb (length bs) book_length l, eq-eqb (length codes) securities h)

  pub bad_codes : length bs ≡ book_length → length codes ≡ securities → all is_code codes ≡ false → (3 ≡ create_answer bs codes) × (bs ≡ create_bytes bs codes)
  unfolding create_answer create_tests
  bad_codes l h e = create_keeps 3 (stopped (not (all is_code codes)) 3 [] (ap not e) ∙ gone_on _ 18 _ (rooms l h)) (λ z. omega arith)

  create_fine : length bs ≡ book_length → length codes ≡ securities → all is_code codes ≡ true → create_answer bs codes ≡ 0
  unfolding create_answer create_tests first
  create_fine l h e = rw (rooms l h, e)

  pub created : (out : List ℕ) → length bs ≡ book_length → length codes ≡ securities → all is_code codes ≡ true → out ≡ bytes_of (empty_book codes) → (0 ≡ create_answer bs codes) × (out ≡ create_bytes bs codes)
  unfolding create_bytes
  created out l h e o = let z = create_fine l h e in (sym z, rw (z, o))
