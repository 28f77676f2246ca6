-- `wickdamson::creation::wick_sound` meets its contract: 1 where the test for soundness finds nothing, else 0. Assumes nothing.
use Rattle.wickdamson.specs.Figures.{unsound_told, sound_told}
use Rattle.wickdamson.proofs.creation.wick_sound.Goals as goal

pub returns-then-not_sound : goal.returns-then-not_sound
returns-then-not_sound c = unsound_told _ c.not_sound.ensures c.if-not_sound.true

pub returns : goal.returns
returns c = sound_told _ c.not_sound.ensures c.if-not_sound.false
