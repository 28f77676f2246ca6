-- `playing_records::walking::next_place` meets its contract: behind an unreadable record, behind a readable one. Assumes nothing.
use Rattle.std.proofs.Common.{◌≡◌, Option, is_none, sym, ap, ◌∙◌, Bool, List, ℕ, arith}
use Rattle.rules.specs.Records.{record_at}
use Rattle.rules.specs.CallFile.{is_unreadable}
use Rattle.callfile_format.specs.Bodies.{codes_at}
use Rattle.callfile_format.specs.Reading.{says}
use Rattle.callfile_format.specs.declared.Read.{Read}
use Rattle.playing_records.specs.Steps.{none_says, readable_fits, next_end, next_more, next_is}
use Rattle.playing_records.proofs.walking.next_place.Goals as goal

-- what stands at the place can be read, or not
readable : (file : List ℕ) (place : ℕ) (found : Option Read) (v : Bool)
    → says found (codes_at place file) ≡ record_at file place → is_none found ≡ v → is_unreadable (record_at file place) ≡ v
readable file place found v f g = sym (none_says found _ ∙ ap is_unreadable f) ∙ g

pub returns-in-None : goal.returns-in-None
returns-in-None c =
    let f = c.args.file.now in
    let p = c.args.place in
    (next_end f p (readable f p _ _ c.requires.1 (ap is_none c.in-None.is)), omega arith, λ h. h)

pub get-requires : goal.get-requires
get-requires c =
    let f = c.args.file.now in
    let p = c.args.place in
    (omega arith, omega (arith, readable_fits f p (readable f p _ _ c.requires.1 (ap is_none c.in-Some.is))))

pub returns-in-Some : goal.returns-in-Some
returns-in-Some c =
    let f = c.args.file.now in
    let p = c.args.place in
    let e = readable f p _ _ c.requires.1 (ap is_none c.in-Some.is) in
    let l = next_is f p c.get.result c.get.ensures.0 in
    (next_more f p e _ l, omega (arith, readable_fits f p e, l), λ h. omega arith)
