-- A run in which nothing can be given: it moves nothing, and the book stays as it is.
use Rattle.std.specs.Prelude.{◌≡◌, true, ℕ, ◌-◌, ◌<◌}
use Rattle.std.proofs.Math.Path.{sym, ap}
use Rattle.std.proofs.Common.{◌∙◌, arith}
use mathlib.Core.List.{List, ◌++◌}
use Rattle.std.proofs.Math.ListN.{length, replicate}
use Rattle.rules.specs.Words.{keep}
use Rattle.rules.specs.Bounds.{most_records}
use Rattle.rules.specs.Book.{open_of, no_position, with_open, with_holdings, with_charges}
use Rattle.rules.specs.Sound.{sound}
use Rattle.rules.specs.Roll.{remains}
use Rattle.rules.specs.Run.{deliverable}
use Rattle.rules.specs.Calls.{run, after, figure}
use Rattle.rules.specs.declared.Position.{Position}
use Rattle.rules.specs.declared.Book.{Book}
use Rattle.laws.specs.Blanks.{open_long, positions_whole}
use Rattle.laws.specs.Keeping.{keep_whole}
use Rattle.laws.specs.SoundParts.{sound_parts}
use Rattle.laws.specs.SoundRun.{sound_moved}
use Rattle.laws.specs.Shaped.{Shaped}
use Rattle.laws.specs.Walk.{walked}
use Rattle.laws.specs.WalkIsRun.{unwalked}
use Rattle.laws.specs.RunLeaves.{closed, settled_is, end_shares}
use Rattle.settling.specs.Steps.{search_same}

module _ (b : Book) (ok : sound b ≡ true) (shape : Shaped b) where
  -- every record of a sound book remains
  all_remain : keep (remains b.day) (open_of b) ≡ open_of b
  unfolding remains
  all_remain = keep_whole (remains b.day) (open_of b) (sound_parts b ok).due_nonzero_lem

  -- nothing is walked: the book is what it was
  closed_same : closed b (unwalked b) ≡ b
  unfolding with_open with_holdings with_charges
  closed_same =
      let e : length (keep (remains b.day) (open_of b)) ≡ b.records = ap length all_remain ∙ open_long b (sound_parts b ok).records shape in
      let f : keep (remains b.day) (open_of b) ++ replicate (most_records - length (keep (remains b.day) (open_of b))) no_position ≡ b.positions =
      ap (λ (l : List Position). l ++ replicate (most_records - length l) no_position) all_remain ∙ sym (positions_whole b (sound_parts b ok).records shape) in
      λ i. record {
        day = b.day;
        currency = b.currency;
        records = e i;
        positions = f i;
        holdings = b.holdings;
        charges = b.charges;
        entries = b.entries;
        trades = b.trades;
      }

  module _ (s : ℕ) (hs : s < 32) (none : deliverable b s ≡ 0) where
    walked_same : walked b s ≡ unwalked b
    unfolding walked
    walked_same = search_same b s hs b.records 0 (unwalked b) (omega (arith, none, end_shares b s hs ok shape, sound_moved b s hs ok))

    pub idle_book : b ≡ after b (run s)
    unfolding after
    idle_book = sym (settled_is b s hs ok shape ∙ ap (closed b) walked_same ∙ closed_same)

    pub idle_figure : 0 ≡ figure b (run s)
    unfolding figure
    idle_figure = sym (sound_moved b s hs ok ∙ none)
