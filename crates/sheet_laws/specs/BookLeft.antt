-- The book that a file of bytes leaves is sound, and its values fit.
use Rattle.std.specs.Prelude.{◌≡◌, refl, Bool, true, false, List, [], ℕ, Option, Some, None}
use Rattle.std.proofs.Common.{sym, ap, subst, ◌∙◌}
use Rattle.fields.specs.Field.{Bytes}
use Rattle.rules.specs.Book.{empty_book}
use Rattle.rules.specs.Layout.{book}
use Rattle.rules.specs.Sound.{sound}
use Rattle.rules.specs.CallFile.{contents_of, played_from, file_of}
use Rattle.rules.specs.declared.Book.{Book}
use Rattle.laws.specs.Cases.{true_false}
use Rattle.laws.specs.Fitting.{empty_fits}
use Rattle.history.specs.Histories.{made}
use Rattle.history.specs.Steps.{empty_good}
use Rattle.history.specs.LentHistory.{made_fits}
use Rattle.history.proofs.Theorems.{every_book_sound, file_codes, file_calls, file_history}

unfoldable pub is_there : {A : Type 0} → Option A → Bool
is_there None = false
is_there (Some a) = true

pub record Left (m : Book) : Type 0 where
  pub fits : book.Ok m
  pub is_sound : sound m ≡ true

reached_left : (file codes : List ℕ) → Bytes file → (contents_of file).codes ≡ Some codes → Left (made (empty_book codes) (contents_of file).calls)
reached_left file codes h e =
    let known = file_codes file codes h e in
    record {
      fits =
          made_fits (empty_book codes) (contents_of file).calls (empty_good codes known.0 known.1) (empty_fits codes known.0 known.1)
          (file_calls file codes h e);
      is_sound = every_book_sound codes known.0 known.1 (contents_of file).calls;
    }

abbrev book_in : Option Book → Book
book_in None = empty_book []
book_in (Some m) = m

no_book : (file : List ℕ) → (contents_of file).codes ≡ None → (file_of file).book ≡ None
unfolding file_of played_from
no_book file e = rw e

pub file_left : (file : List ℕ) → Bytes file → (m : Book) → (file_of file).book ≡ Some m → Left m
unfolding is_there
file_left file h m is = go (contents_of file).codes refl
  where
    go : (c : Option (List ℕ)) → (contents_of file).codes ≡ c → Left m
    go None e = true_false refl (ap is_there (sym is ∙ no_book file e))
    go (Some codes) e = subst Left (ap book_in (sym (file_history file codes h e) ∙ is)) (reached_left file codes h e)
