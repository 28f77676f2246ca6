-- Marks of a sound book: the tests that follow the one for soundness, in their order, and the answer. That this is what marks over the lent
-- bytes answer.
use Rattle.std.specs.Prelude.{◌≡◌, true, false, cond, ◌||◌, List, [], ◌∷◌, ℕ, eqb, Result, Ok, Err}
use Rattle.rules.specs.Words.{any, Test, first}
use Rattle.rules.specs.Layout.{book_of}
use Rattle.rules.specs.Trades.{no_account}
use Rattle.rules.specs.Sound.{not_sound}
use Rattle.rules.specs.Prices.{entry_above}
use Rattle.rules.specs.Marks.{Terms, marked_of, lacks_price, due_and_sums, wrong_terms, bad_rates, passes_limit, marks_tests, marks_number, marks}
use Rattle.rules.specs.declared.Book.{Book}
use Rattle.rules.specs.declared.Marks.{Marks}

-- 2, 18, 5, 15, which look at no book, and the tests behind them
unfoldable pub terms_tests : ℕ → Terms → List Test → List Test
terms_tests a t rest =
    (no_account a, 2) ∷
    (wrong_terms t, 18) ∷
    (entry_above t.intraday || entry_above t.closing, 5) ∷
    (bad_rates t, 15) ∷
    rest

-- 17, 16
unfoldable pub book_tests : Book → ℕ → Terms → List Test
book_tests k a t =
    (any (lacks_price t) (marked_of k a), 17) ∷
    (passes_limit k t (marked_of k a), 16) ∷
    []

unfoldable pub number_sound : Book → ℕ → Terms → ℕ
number_sound k a t = first (terms_tests a t (book_tests k a t))

unfoldable pub marks_sound : Book → ℕ → Terms → Result Marks ℕ
marks_sound k a t = cond (eqb (number_sound k a t) 0) (Ok (due_and_sums k t (marked_of k a))) (Err (number_sound k a t))

-- ── over the lent bytes ──

module _ (bs : List ℕ) (a : ℕ) (t : Terms) where
  pub marks_sound_lem : not_sound bs ≡ false → marks bs a t ≡ marks_sound (book_of bs) a t
  unfolding marks marks_number marks_tests marks_sound number_sound terms_tests book_tests first
  marks_sound_lem e = rw e

  pub marks_unsound : not_sound bs ≡ true → marks bs a t ≡ Err 1
  unfolding marks marks_number marks_tests first
  marks_unsound e = rw e
