-- The run of a sound book: the walk is the run, refusal 13 is never given, and all that can be given is given.
use Rattle.std.specs.Prelude.{◌≡◌, true, false, ◌&&◌, ℕ, ◌+◌, ◌≤◌, ◌<◌, eqb, leb, length, drop}
use Rattle.std.proofs.Common.{arith, leb-true}
use Rattle.rules.specs.Words.{all, keep, above}
use Rattle.rules.specs.Bounds.{most_records}
use Rattle.rules.specs.Book.{open_of, due_of}
use Rattle.rules.specs.Sound.{ascends, is_blank, records_fit, is_due, one_sign, balanced, due_balanced, sound}
use Rattle.rules.specs.Run.{deliverable, wanted, shares_moved}
use Rattle.rules.specs.declared.Book.{Book}
use Rattle.laws.specs.Cases.{both_hold}
use Rattle.laws.specs.SoundParts.{sound_parts}
use Rattle.laws.specs.Walk.{walked}
use Rattle.laws.specs.WalkIsRun.{ruled, walk_is_run}
use Rattle.laws.specs.Deliveries.{test_13, all_given}

-- what the run asks of a book
pub record Runnable (b : Book) : Type 0 where
  pub few : b.records ≤ most_records
  pub order : ascends (open_of b) ≡ true
  pub signs : one_sign (keep (is_due b.day) (open_of b)) ≡ true
  pub zero_sum : balanced (keep (is_due b.day) (open_of b)) ≡ true

pub sound_runnable : (b : Book) → sound b ≡ true → Runnable b
unfolding records_fit due_balanced
sound_runnable b e =
    let c = sound_parts b e in
    let r = both_hold (leb b.records most_records) (ascends (open_of b) && all is_blank (drop b.records b.positions)) c.records in
    record {
      few = leb-true b.records most_records r.0;
      order = (both_hold (ascends (open_of b)) (all is_blank (drop b.records b.positions)) r.1).0;
      signs = c.signs;
      zero_sum = (both_hold (balanced (keep (is_due b.day) (open_of b))) (balanced (keep (λ p. eqb (due_of p) (b.day + 1)) (open_of b))) c.balances).0;
    }

module _ (b : Book) (s : ℕ) (hs : s < 32) (ok : sound b ≡ true) where
  pub sound_walk : length b.holdings ≡ 2048 → length b.positions ≡ 1024 → walked b s ≡ ruled b s
  sound_walk wide room =
      let r = sound_runnable b ok in
      walk_is_run b s hs wide (omega (arith, r.few)) r.order r.signs

  pub sound_test_13 : above (wanted b s) (deliverable b s) ≡ false
  sound_test_13 = test_13 b s hs (sound_runnable b ok).zero_sum

  pub sound_moved : shares_moved b s ≡ deliverable b s
  sound_moved = all_given b s hs (sound_runnable b ok).zero_sum
