-- Histories of all public calls are histories of the seven: each public call leaves the bytes that its deed leaves, whatever the bytes before it.
use Rattle.std.specs.Prelude.{◌≡◌, refl, false, ◌||◌, List, [], ◌∷◌, ◌++◌, ℕ, eqb, Option, Some, None}
use Rattle.std.proofs.Common.{sym, ap, subst, ◌∙◌, eqb-true}
use Rattle.rules.specs.Book.{empty_book}
use Rattle.rules.specs.Layout.{bytes_of}
use Rattle.rules.specs.Calls.{Call, after_bytes, create_answer, create_bytes}
use Rattle.rules.specs.Records.{Record, create, call, unreadable, record_at, too_long, record_answer, record_bytes, bytes_after, applies}
use Rattle.rules.specs.CallFile.{contents_of, played_from, file_of, bytes_left, whole_refused, whole_bytes}
use Rattle.rules.specs.Sheet.{sheet_refused, sheet_book}
use Rattle.laws.specs.Cases.{by_test, true_false, neither}
use Rattle.laws.specs.Accepted.{may_create}
use Rattle.history.specs.Histories.{made}
use Rattle.history.specs.Lent.{made_bytes, AllFit}
use Rattle.history.specs.FileRecords.{GoodCodes, Proper, record_proper}
use Rattle.history.specs.FileHistory.{file_well, played_made}
use Rattle.history.proofs.TidyFits.{fit_both}
use Rattle.history.specs.Publics.{Public, creation, single, price, marks, line, file_record, whole_file, whole_sheet, leaves, left_by, Deed, begins, makes, deed_of_record, deed_of_file, deed, done, creates, calls_in, creates_any, calls_of, PublicFits, AllPublicFit}

-- ── one call ──

record_deed : (bs : List ℕ) (r : Record) → bytes_after bs r ≡ done bs (deed_of_record r)
unfolding bytes_after done deed_of_record made made_bytes
record_deed bs (create codes) = refl
record_deed bs (call c) = refl
record_deed bs unreadable = refl

file_deed : (bs : List ℕ) (codes : Option (List ℕ)) (cs : List Call) → bytes_left bs (played_from codes cs).book ≡ done bs (deed_of_file codes cs)
unfolding bytes_left played_from done deed_of_file made_bytes
file_deed bs None cs = refl
file_deed bs (Some codes) cs = rw (played_made (empty_book codes) cs)

pub one_deed : (bs : List ℕ) (p : Public) → leaves bs p ≡ done bs (deed bs p)
unfolding leaves deed done made made_bytes create_bytes record_bytes whole_bytes sheet_book file_of
one_deed bs (creation codes) = by_test (eqb (create_answer bs codes) 0) (λ y. rw y) (λ n. rw n)
one_deed bs (single c) = refl
one_deed bs (price intraday closing s) = refl
one_deed bs (marks a t) = refl
one_deed bs (line buffer l t) = refl
one_deed bs (file_record file place) = by_test (applies (record_answer bs file place)) (λ y. rw y (record_deed bs (record_at file place))) (λ n. rw n)
one_deed bs (whole_file file answers) =
    by_test (whole_refused bs file answers) (λ y. rw y) (λ n. rw n (file_deed bs (contents_of file).codes (contents_of file).calls))
one_deed bs (whole_sheet file buffer) =
    by_test (sheet_refused bs file buffer || too_long file) (λ y. rw y) (λ n. rw n (file_deed bs (contents_of file).codes (contents_of file).calls))

-- ── arguments ──

-- the calls of a deed fit their types, and codes make an empty book
unfoldable pub Fit : Deed → Type 0
Fit (begins codes cs) = GoodCodes codes × AllFit cs
Fit (makes cs) = AllFit cs

nothing_fits : Fit (makes [])
unfolding Fit AllFit
nothing_fits = tt

record_fits_lem : (r : Record) → Proper r → Fit (deed_of_record r)
unfolding Fit AllFit deed_of_record Proper
record_fits_lem (create codes) p = (p, tt)
record_fits_lem (call c) p = (p, tt)
record_fits_lem unreadable p = tt

file_fits : (codes : Option (List ℕ)) (cs : List Call) → ((ds : List ℕ) → codes ≡ Some ds → GoodCodes ds) → AllFit cs → Fit (deed_of_file codes cs)
unfolding Fit AllFit deed_of_file
file_fits None cs g f = tt
file_fits (Some ds) cs g f = (g ds refl, f)

pub deed_fits : (bs : List ℕ) (p : Public) → PublicFits p → Fit (deed bs p)
unfolding deed PublicFits deed_of_record Proper
deed_fits bs (creation codes) h =
    by_test (eqb (create_answer bs codes) 0)
    (λ y. rw y (record_fits_lem (create codes) (may_create bs codes (eqb-true (create_answer bs codes) 0 y))))
    (λ n. rw n nothing_fits)
deed_fits bs (single c) h = record_fits_lem (call c) h
deed_fits bs (price intraday closing s) h = nothing_fits
deed_fits bs (marks a t) h = nothing_fits
deed_fits bs (line buffer l t) h = nothing_fits
deed_fits bs (file_record file place) h =
    by_test (applies (record_answer bs file place)) (λ y. rw y (record_fits_lem (record_at file place) (record_proper file place h))) (λ n. rw n nothing_fits)
deed_fits bs (whole_file file answers) h =
    let w = file_well file h in
    by_test (whole_refused bs file answers) (λ y. rw y nothing_fits)
    (λ n. rw n (file_fits (contents_of file).codes (contents_of file).calls w.codes w.calls))
deed_fits bs (whole_sheet file buffer) h =
    let w = file_well file h in
    by_test (sheet_refused bs file buffer || too_long file) (λ y. rw y nothing_fits)
    (λ n. rw n (file_fits (contents_of file).codes (contents_of file).calls w.codes w.calls))

-- ── one after another ──

bytes_append : (bs : List ℕ) (cs ds : List Call) → made_bytes bs (cs ++ ds) ≡ made_bytes (made_bytes bs cs) ds
unfolding made_bytes
bytes_append bs [] ds = refl
bytes_append bs (c ∷ cs) ds = bytes_append (after_bytes bs c) cs ds

quiet_done : (bs : List ℕ) (d : Deed) → creates d ≡ false → done bs d ≡ made_bytes bs (calls_in d)
unfolding creates done calls_in
quiet_done bs (begins codes cs) e = true_false refl e
quiet_done bs (makes cs) e = refl

pub calls_left : (bs : List ℕ) (ps : List Public) → creates_any bs ps ≡ false → left_by bs ps ≡ made_bytes bs (calls_of bs ps)
unfolding left_by calls_of creates_any made_bytes
calls_left bs [] e = refl
calls_left bs (p ∷ ps) e =
    let q = neither (creates (deed bs p)) (creates_any (leaves bs p) ps) e in
    let cs = calls_in (deed bs p) in
    let this = one_deed bs p ∙ quiet_done bs (deed bs p) q.0 in
    calls_left (leaves bs p) ps q.1
    ∙ ap (λ (l : List ℕ). made_bytes l (calls_of (leaves bs p) ps)) this
    ∙ sym (bytes_append bs cs (calls_of (leaves bs p) ps))

deed_calls : (d : Deed) → Fit d → AllFit (calls_in d)
unfolding Fit calls_in
deed_calls (begins codes cs) f = f.1
deed_calls (makes cs) f = f

pub calls_fit : (bs : List ℕ) (ps : List Public) → AllPublicFit ps → AllFit (calls_of bs ps)
unfolding AllPublicFit calls_of AllFit
calls_fit bs [] f = tt
calls_fit bs (p ∷ ps) f =
    fit_both (calls_in (deed bs p)) (calls_of (leaves bs p) ps) (deed_calls (deed bs p) (deed_fits bs p f.0)) (calls_fit (leaves bs p) ps f.1)

-- ── a new history ──

pub begun : (bs : List ℕ) (p : Public) (codes : List ℕ) (cs : List Call) → PublicFits p → deed bs p ≡ begins codes cs
    → (leaves bs p ≡ bytes_of (made (empty_book codes) cs)) × (GoodCodes codes × AllFit cs)
unfolding done Fit
begun bs p codes cs h e = (one_deed bs p ∙ ap (done bs) e, subst Fit e (deed_fits bs p h))
