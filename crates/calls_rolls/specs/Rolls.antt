-- The day roll on a sound book: its answers, and what its steps may count on.
use Rattle.std.specs.Prelude.{◌≡◌, true, ◌≤◌, ◌<◌}
use Rattle.std.proofs.Math.Path.{refl, subst}
use mathlib.Core.List.{List}
use borrow.Author.Tests.{eq-eqb, ne_eqb, lt-ltb, le-ltb}
use Rattle.std.proofs.Math.ListN.{length}
use Rattle.rules.specs.Words.{first}
use Rattle.rules.specs.Bounds.{most_records, last_day}
use Rattle.rules.specs.Sound.{sound}
use Rattle.rules.specs.Book.{open_of, list_of, with_open, with_list, with_charges, with_day}
use Rattle.rules.specs.Roll.{uncharged, netted, emptied, next_day, open_plus_nets, rolled, offset}
use Rattle.rules.specs.Calls.{roll, tests, answer_sound, after}
use Rattle.rules.specs.declared.Position.{Position}
use Rattle.rules.specs.declared.Book.{Book}
use Rattle.laws.specs.SoundParts.{sound_parts}
use Rattle.laws.specs.Shaped.{Shaped}
use Rattle.laws.specs.OffsetKept.{Ready}
use Rattle.laws.specs.Rolling.{rolling, rolling_open, rolling_ready}
use Rattle.parts.specs.Packing.{PackAsks}
use Rattle.offsetting.specs.Result.{rolling_asks}

module _ (k : Book) where
  pub too_many : most_records < open_plus_nets k → 10 ≡ answer_sound k roll
  unfolding answer_sound tests first
  too_many h = rw (lt-ltb most_records (open_plus_nets k) h)

  pub last_day_lem : open_plus_nets k ≤ most_records → k.day ≡ last_day → 14 ≡ answer_sound k roll
  unfolding answer_sound tests first
  last_day_lem h e = rw (le-ltb most_records (open_plus_nets k) h, eq-eqb k.day last_day e)

  pub may : open_plus_nets k ≤ most_records → (k.day ≡ last_day → ⊥) → 0 ≡ answer_sound k roll
  unfolding answer_sound tests first
  may h n = rw (le-ltb most_records (open_plus_nets k) h, ne_eqb k.day last_day n)

  pub rolled_by : offset (rolling k) ≡ after k roll
  unfolding after rolled rolling
  rolled_by = refl

  -- the book before offsetting is ready for it, and nothing stands behind its records
  few : sound k ≡ true → Shaped k → open_plus_nets k ≤ most_records → (rolling k).records ≤ most_records
  unfolding rolling next_day emptied netted uncharged with_day with_list with_open with_charges open_of list_of
  few e s h = subst (λ (ps : List Position). length ps ≤ most_records) (rolling_open k) (rolling_ready k (sound_parts k e) s h).few

  pub ready : sound k ≡ true → Shaped k → open_plus_nets k ≤ most_records → Ready (rolling k) × PackAsks (rolling k)
  ready e s h = (rolling_ready k (sound_parts k e) s h, rolling_asks k (few e s h))
