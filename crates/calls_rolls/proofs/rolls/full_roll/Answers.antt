-- `calls_rolls::rolls::full_roll` meets its contract: refusal 10, refusal 14, acceptance. Assumes nothing.
use Rattle.std.proofs.Common.{◌≡◌, sym, ap, ◌∙◌, arith}
use Rattle.std.proofs.lemmas.Result.{err_from_is_err_and}
use Rattle.rules.specs.Refusals.{answered}
use Rattle.rules.specs.Layout.{book_of, bytes_of}
use Rattle.rules.specs.Roll.{offset}
use Rattle.rules.specs.Calls.{roll}
use Rattle.laws.specs.SoundBytes.{shaped, is_sound, refused, accepted}
use Rattle.calls_rolls.specs.Rolls.{too_many, last_day_lem, may, rolled_by, ready}
use Rattle.calls_rolls.proofs.rolls.full_roll.Goals as goal

pub with_nets-requires : goal.with_nets-requires
with_nets-requires c = is_sound _ c.requires

pub returns-in_err-netted : goal.returns-in_err-netted
returns-in_err-netted c =
    let past = c.in_err-netted.ensures in
    let ten : answered c.from_residual.result ≡ 10 = let p = err_from_is_err_and c.from_residual.result c.from_residual.ensures.1 in rw (p.1, p.2) past.1 in
    rw ten (refused c.args.book.now c.requires roll 10 (too_many _ past.0) (λ z. omega arith))

pub returns-then-day : goal.returns-then-day
returns-then-day c =
    refused c.args.book.now c.requires roll 14 (last_day_lem _ c.in_ok-netted.ensures.0 (sym c.day_at-day.ensures ∙ c.if-day.true)) (λ z. omega arith)

pub before_offset-requires : goal.before_offset-requires
before_offset-requires c = (is_sound _ c.requires, c.in_ok-netted.ensures)

pub offset_due-requires : goal.offset_due-requires
offset_due-requires c =
    let r = ready (book_of c.args.book.now) (is_sound _ c.requires) (shaped c.args.book.now) c.in_ok-netted.ensures.0 in
    (rw c.before_offset.ensures r.0, rw c.before_offset.ensures r.1)

pub returns : goal.returns
returns c =
    let bs = c.args.book.now in
    accepted bs c.requires roll _ (may _ c.in_ok-netted.ensures.0 (λ z. c.if-day.false (c.day_at-day.ensures ∙ z)))
    (c.offset_due.ensures.0 ∙ ap bytes_of (ap offset c.before_offset.ensures ∙ rolled_by (book_of bs)))
