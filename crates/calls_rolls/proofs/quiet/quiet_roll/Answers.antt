-- `calls_rolls::quiet::quiet_roll` meets its contract: refusal 14, acceptance. Assumes nothing.
use Rattle.std.proofs.Common.{ℕ, ◌+◌, ap, sym, ◌∙◌, arith}
use Rattle.rules.specs.Layout.{book_of, bytes_of}
use Rattle.rules.specs.Calls.{roll}
use Rattle.laws.specs.SoundParts.{day_small}
use Rattle.laws.specs.SoundBytes.{shaped, is_sound, refused, accepted}
use Rattle.calls_rolls.specs.Rolls.{last_day_lem, may}
use Rattle.calls_rolls.specs.Quiet.{few, rolled_quietly, written}
use Rattle.calls_rolls.proofs.quiet.quiet_roll.Goals as goal

pub returns-then-day : goal.returns-then-day
returns-then-day c = refused c.args.b.now c.requires.0 roll 14 (last_day_lem _ (few _ (is_sound _ c.requires.0) (shaped _) c.requires.1) (sym c.day_at-day.ensures ∙ c.if-day.true)) (λ z. omega arith)

pub overflow_add-day : goal.overflow_add-day
overflow_add-day c = omega (arith, c.day_at-day.ensures, day_small _ (is_sound _ c.requires.0))

pub returns : goal.returns
returns c =
    let bs = c.args.b.now in
    accepted bs c.requires.0 roll _ (may _ (few _ (is_sound _ c.requires.0) (shaped _) c.requires.1) (λ z. c.if-day.false (c.day_at-day.ensures ∙ z)))
    (written bs _ _ _ (ap (λ (n : ℕ). n + 1) c.day_at-day.ensures) c.put_day.ensures.1 c.clear_charges.ensures.0
    ∙ ap bytes_of (rolled_quietly (book_of bs) (is_sound bs c.requires.0) (shaped bs) c.requires.1))
