-- Every public call over the lent bytes of a book, and histories of them (demand 3: "make any calls but creation, in any order"; docs/PROMISES.md lists the calls).
-- Seven alter the book. The price question, marks and a line leave it. A record of a call file is the call that it holds. A create record, a whole file and a
-- whole sheet begin with creation, and so a new history; where they are refused, or unreadable at the front, they alter nothing.
use Rattle.std.specs.Prelude.{Bool, true, false, cond, ◌||◌, List, [], ◌∷◌, ◌++◌, ℕ, eqb, Option, Some, None}
use Rattle.fields.specs.Field.{Bytes}
use Rattle.rules.specs.Book.{empty_book}
use Rattle.rules.specs.Layout.{bytes_of}
use Rattle.rules.specs.Marks.{Terms}
use Rattle.rules.specs.Calls.{Call, after_bytes, create_answer, create_bytes}
use Rattle.rules.specs.Records.{Record, create, call, unreadable, record_at, too_long, record_answer, record_bytes, applies}
use Rattle.rules.specs.CallFile.{contents_of, whole_refused, whole_bytes}
use Rattle.rules.specs.Sheet.{sheet_refused, sheet_book}
use Rattle.rules.specs.declared.Line.{Line}
use Rattle.rules.specs.declared.Tally.{Tally}
use Rattle.laws.specs.Fitting.{CallFits}
use Rattle.history.specs.Histories.{made}
use Rattle.history.specs.Lent.{made_bytes}

pub data Public : Type 0 where
  creation : (codes : List ℕ) → Public
  single : Call → Public
  price : (intraday closing : List ℕ) (security : ℕ) → Public
  marks : (account : ℕ) → Terms → Public
  line : (buffer : List ℕ) → Line → Tally → Public
  file_record : (file : List ℕ) (place : ℕ) → Public
  whole_file : (file answers : List ℕ) → Public
  whole_sheet : (file buffer : List ℕ) → Public

-- the bytes that the call leaves, by the definitions that its contract names; a book that is only read, or not lent, keeps them
unfoldable pub leaves : List ℕ → Public → List ℕ
leaves bs (creation codes) = create_bytes bs codes
leaves bs (single c) = after_bytes bs c
leaves bs (price intraday closing s) = bs
leaves bs (marks a t) = bs
leaves bs (line buffer l t) = bs
leaves bs (file_record file place) = record_bytes bs file place
leaves bs (whole_file file answers) = whole_bytes bs file answers
leaves bs (whole_sheet file buffer) = sheet_book bs file buffer

-- the bytes after the calls, made one after another
unfoldable pub left_by : List ℕ → List Public → List ℕ
left_by bs [] = bs
left_by bs (p ∷ ps) = left_by (leaves bs p) ps

-- ── what a public call does, in the seven calls and creation ──

-- it begins a new history: creation with these codes, and then these calls; or it makes these calls, one or none
pub data Deed : Type 0 where
  begins : (codes : List ℕ) (cs : List Call) → Deed
  makes : (cs : List Call) → Deed

unfoldable pub deed_of_record : Record → Deed
deed_of_record (create codes) = begins codes []
deed_of_record (call c) = makes (c ∷ [])
deed_of_record unreadable = makes []

unfoldable pub deed_of_file : Option (List ℕ) → List Call → Deed
deed_of_file None cs = makes []
deed_of_file (Some codes) cs = begins codes cs

unfoldable pub deed : List ℕ → Public → Deed
deed bs (creation codes) = cond (eqb (create_answer bs codes) 0) (begins codes []) (makes [])
deed bs (single c) = makes (c ∷ [])
deed bs (price intraday closing s) = makes []
deed bs (marks a t) = makes []
deed bs (line buffer l t) = makes []
deed bs (file_record file place) = cond (applies (record_answer bs file place)) (deed_of_record (record_at file place)) (makes [])
deed bs (whole_file file answers) = cond (whole_refused bs file answers) (makes []) (deed_of_file (contents_of file).codes (contents_of file).calls)
deed bs (whole_sheet file buffer) = cond (sheet_refused bs file buffer || too_long file) (makes []) (deed_of_file (contents_of file).codes (contents_of file).calls)

-- the bytes that a deed leaves
unfoldable pub done : List ℕ → Deed → List ℕ
done bs (begins codes cs) = bytes_of (made (empty_book codes) cs)
done bs (makes cs) = made_bytes bs cs

-- ── a history without creation, and the calls of the seven in it ──

unfoldable pub creates : Deed → Bool
creates (begins codes cs) = true
creates (makes cs) = false

unfoldable pub calls_in : Deed → List Call
calls_in (begins codes cs) = cs
calls_in (makes cs) = cs

-- a creation is accepted among the calls, whichever call makes it
unfoldable pub creates_any : List ℕ → List Public → Bool
creates_any bs [] = false
creates_any bs (p ∷ ps) = creates (deed bs p) || creates_any (leaves bs p) ps

unfoldable pub calls_of : List ℕ → List Public → List Call
calls_of bs [] = []
calls_of bs (p ∷ ps) = calls_in (deed bs p) ++ calls_of (leaves bs p) ps

-- the arguments fit their types: those of the seven, and a file is bytes (the others do not reach the book)
unfoldable pub PublicFits : Public → Type 0
PublicFits (creation codes) = Unit {0}
PublicFits (single c) = CallFits c
PublicFits (price intraday closing s) = Unit {0}
PublicFits (marks a t) = Unit {0}
PublicFits (line buffer l t) = Unit {0}
PublicFits (file_record file place) = Bytes file
PublicFits (whole_file file answers) = Bytes file
PublicFits (whole_sheet file buffer) = Bytes file

unfoldable pub AllPublicFit : List Public → Type 0
AllPublicFit [] = Unit {0}
AllPublicFit (p ∷ ps) = PublicFits p × AllPublicFit ps
