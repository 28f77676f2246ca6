-- The records of a file, as the code walks them: from the record at a place to the next, until one is unreadable or the file ends.
use Rattle.std.specs.Prelude.{◌≡◌, cond, List, [], ◌∷◌, ℕ, suc, ◌+◌, ◌≤◌, ◌<◌, length, get_or, drop}
use Rattle.std.proofs.Common.{sym, ap, ◌∙◌, arith, drop_of_length-le, drop-cons, drop-drop}
use Rattle.rules.specs.Records.{length_of, record_at}
use Rattle.rules.specs.CallFile.{Placed, is_unreadable, records_from}
use Rattle.laws.specs.Files.{records_skip}

-- the records from a place on
abbrev pub records_at : List ℕ → ℕ → List Placed
records_at file place = records_from 0 place (drop place file)

-- where the record behind the one at a place begins
abbrev pub next_of : List ℕ → ℕ → ℕ
next_of file place = place + 2 + length_of (drop place file)

module _ (file : List ℕ) (place : ℕ) where
  pub records_end : length file ≤ place → records_at file place ≡ []
  unfolding records_from
  records_end h = ap (records_from 0 place) (drop_of_length-le file h)

  -- what stands first, and the rest behind it
  abbrev pub first_then : List Placed
  first_then = record { place = place; says = record_at file place } ∷ cond (is_unreadable (record_at file place)) [] (records_at file (next_of file place))

  rest_is : (l : ℕ) → records_from (suc l) (suc place) (drop (suc place) file) ≡ records_at file (place + 2 + l)
  rest_is l =
      records_skip (suc l) (suc place) (drop (suc place) file)
      ∙ ap (records_from 0 (suc place + suc l)) (drop-drop (suc l) (suc place) file)
      ∙ ap (records_at file) (omega arith)

  first_is : (b : ℕ) → drop place file ≡ b ∷ drop (suc place) file → records_from 0 place (b ∷ drop (suc place) file) ≡ first_then
  unfolding records_from record_at
  first_is b e = rw (rest_is (length_of (b ∷ drop (suc place) file)), sym e)

  pub records_next : place < length file → records_at file place ≡ first_then
  records_next h = let e = drop-cons file place 0 h in ap (records_from 0 place) e ∙ first_is (get_or file place 0) e
