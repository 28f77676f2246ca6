-- A call file is a history: the create's codes make an empty book, the calls behind it fit their types, and the book that the file leaves is the one that these
-- calls reach from it.
use Rattle.std.specs.Prelude.{◌≡◌, refl, Bool, true, false, List, [], ◌∷◌, ℕ, Option, Some, None}
use Rattle.std.proofs.Common.{sym, ap, subst}
use Rattle.fields.specs.Field.{Bytes}
use Rattle.rules.specs.Book.{empty_book}
use Rattle.rules.specs.Calls.{Call}
use Rattle.rules.specs.Records.{Record, create, call, unreadable}
use Rattle.rules.specs.CallFile.{Placed, Contents, records_in, before, contents, contents_of, left, played, played_from, file_of}
use Rattle.rules.specs.declared.Book.{Book}
use Rattle.laws.specs.Cases.{true_false}
use Rattle.history.specs.Histories.{made}
use Rattle.history.specs.Lent.{AllFit}
use Rattle.history.specs.FileRecords.{GoodCodes, Proper, AllProper, file_proper}

-- ── what was read ──

pub record WellRead (c : Contents) : Type 0 where
  pub codes : (codes : List ℕ) → c.codes ≡ Some codes → GoodCodes codes
  pub calls : AllFit c.calls

abbrev codes_in : Option (List ℕ) → List ℕ
codes_in None = []
codes_in (Some codes) = codes

abbrev is_some : Option (List ℕ) → Bool
is_some None = false
is_some (Some codes) = true

before_well : (r : Placed) (x : Record) (rest : Contents) → Proper x → WellRead rest → WellRead (before r x rest)
unfolding before Proper AllFit
before_well r (create codes) rest p w = record { codes = λ ds e. subst GoodCodes (ap codes_in e) p; calls = w.calls }
before_well r (call c) rest p w = record { codes = w.codes; calls = (p, w.calls) }
before_well r unreadable rest p w = record { codes = λ ds e. true_false refl (sym (ap is_some e)); calls = tt }

contents_well : (rs : List Placed) → AllProper rs → WellRead (contents rs)
unfolding contents AllProper AllFit
contents_well [] a = record { codes = λ ds e. true_false refl (sym (ap is_some e)); calls = tt }
contents_well (r ∷ rs) a = before_well r r.says (contents rs) a.0 (contents_well rs a.1)

pub file_well : (file : List ℕ) → Bytes file → WellRead (contents_of file)
unfolding contents_of
file_well file h = contents_well (records_in file) (file_proper file h)

-- ── the book that is left ──

pub played_made : (k : Book) (cs : List Call) → (played k cs).book ≡ Some (made k cs)
unfolding played made
played_made k [] = refl
played_made k (c ∷ cs) = played_made (left k c) cs

pub file_made : (file codes : List ℕ) → (contents_of file).codes ≡ Some codes → (file_of file).book ≡ Some (made (empty_book codes) (contents_of file).calls)
unfolding file_of played_from
file_made file codes e = rw e (played_made (empty_book codes) (contents_of file).calls)
