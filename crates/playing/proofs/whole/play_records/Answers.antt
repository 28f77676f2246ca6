-- `playing::whole::play_records` meets its contract: another version, nothing that can be read, or a create and what is behind it. Assumes nothing.
use Rattle.std.proofs.Common.{length, sym, ap, ◌∙◌, arith}
use Rattle.fields.specs.Field.{Bytes}
use Rattle.fields.specs.FieldLaws.{length_stored}
use Rattle.playing_records.specs.Steps.{none_there}
use Rattle.playing_records.specs.Playing.{nine}
use Rattle.playing_records.specs.First.{other_says, none_first, first_create, create_fits}
use Rattle.playing.specs.Whole.{one_room, one_answer, first_room, ready, all_played}
use Rattle.playing.proofs.whole.play_records.Goals as goal

pub put_answer-requires : goal.put_answer-requires
put_answer-requires c =
    let other = other_says _ (sym c.if-other_version.ensures) in
    omega (arith, one_room _ 0 other, c.requires)

pub returns-then-other_version : goal.returns-then-other_version
returns-then-other_version c =
    let other = other_says _ (sym c.if-other_version.ensures) in
    one_answer _ 0 other _ _ _ c.put_answer.ensures

pub put_answer-requires-then-is_none : goal.put_answer-requires-then-is_none
put_answer-requires-then-is_none c =
    let ours = sym c.if-other_version.ensures in
    let no_record = none_first _ ours (none_there _ _ _ c.record_at.ensures c.if-is_none.ensures) in
    omega (arith, one_room _ 1 no_record, c.requires)

pub returns-then-is_none : goal.returns-then-is_none
returns-then-is_none c =
    let ours = sym c.if-other_version.ensures in
    let no_record = none_first _ ours (none_there _ _ _ c.record_at.ensures c.if-is_none.ensures) in
    one_answer _ 1 no_record _ _ _ c.put_answer-then-is_none.ensures

pub slice_bounds-codes-end : goal.slice_bounds-codes-end
slice_bounds-codes-end c =
    let first = first_create _ _ _ c.record_at.ensures c.if-is_none.ensures in
    omega (arith, create_fits _ _ first)

pub put_answer-requires-2 : goal.put_answer-requires-2
put_answer-requires-2 c =
    let ours = sym c.if-other_version.ensures in
    let first = first_create _ _ _ c.record_at.ensures c.if-is_none.ensures in
    omega (arith, first_room _ _ ours first, c.requires)

pub play_calls-requires : goal.play_calls-requires
play_calls-requires c =
    let ours = sym c.if-other_version.ensures in
    let first = first_create _ _ _ c.record_at.ensures c.if-is_none.ensures in
    let bytes : Bytes c.args.file.now = record { byte = λ i. (c.type_inv.file i).fits } in
    ready _ _ ours first bytes _ c.told-book _ c.create.ensures.1 c.args.answers.now _
    (ap length c.put_answer-2.ensures ∙ length_stored c.args.answers.now 0 (nine 0 0)) c.requires

pub returns : goal.returns
returns c =
    let ours = sym c.if-other_version.ensures in
    let first = first_create _ _ _ c.record_at.ensures c.if-is_none.ensures in
    let bytes : Bytes c.args.file.now = record { byte = λ i. (c.type_inv.file i).fits } in
    all_played _ _ ours first bytes _ c.told-book _ c.create.ensures.1 _ _ _ _ c.put_answer-2.ensures
    c.play_calls.ensures.0 c.play_calls.ensures.1
