-- What the run answers, and the book that it leaves, as the code makes them.
use Rattle.std.specs.Prelude.{◌≡◌, true, false, ◌++◌, ℕ, ◌-◌, ◌<◌, ltb, length, take, drop, replicate}
use Rattle.std.proofs.Common.{sym, ap, ap₂, ◌∙◌, arith, length-drop}
use borrow.Author.Tests.{ltb-false}
use Rattle.rules.specs.Words.{keep, first, above}
use Rattle.rules.specs.Bounds.{securities, last_security, most_records}
use Rattle.rules.specs.Book.{open_of, no_position, unlisted, with_open, with_holdings, with_charges}
use Rattle.rules.specs.Sound.{sound}
use Rattle.rules.specs.Trades.{no_security, bad_security}
use Rattle.rules.specs.Roll.{remains}
use Rattle.rules.specs.Run.{deliverable, wanted}
use Rattle.rules.specs.Calls.{run, tests, answer_sound}
use Rattle.rules.specs.declared.Book.{Book}
use Rattle.laws.specs.Blanks.{behind_records, records_few}
use Rattle.laws.specs.Cases.{neither}
use Rattle.laws.specs.SoundParts.{sound_parts}
use Rattle.laws.specs.Shaped.{Shaped}
use Rattle.laws.specs.RunLeaves.{closed}
use Rattle.settling.specs.Loops.{tables_of, walking}
use Rattle.settling.specs.Meetings.{Beside}
use Rattle.parts.specs.Packing.{PackAsks}

-- ── the refusals ──

module _ (k : Book) (s : ℕ) where
  pub refused_3 : bad_security k s ≡ true → 3 ≡ answer_sound k (run s)
  unfolding answer_sound tests first
  refused_3 e = rw e

  pub security_below : bad_security k s ≡ false → s < securities
  unfolding bad_security no_security
  security_below e = omega (arith, ltb-false last_security s (neither (ltb last_security s) (unlisted k s) e).0)

  module _ (listed : bad_security k s ≡ false) where
    pub refused_13 : above (wanted k s) (deliverable k s) ≡ true → 13 ≡ answer_sound k (run s)
    unfolding answer_sound tests first
    refused_13 e = rw (listed, e)

    pub accepted : above (wanted k s) (deliverable k s) ≡ false → 0 ≡ answer_sound k (run s)
    unfolding answer_sound tests first
    accepted e = rw (listed, e)

-- ── the book ──

-- behind the records of a walk the table is zero still
pub pack_asks : (b k : Book) → sound b ≡ true → Shaped b → Beside b k → PackAsks k
pack_asks b k ok shape e =
    let fit = (sound_parts b ok).records in
    let few = records_few b fit in
    let rest : length (drop b.records b.positions) ≡ most_records - b.records = omega (arith, length-drop b.records b.positions, shape.positions) in
    record {
      few = omega (arith, e.records);
      blank =
          ap (λ (n : ℕ). drop n k.positions) e.records ∙ e.unused ∙ behind_records b fit
          ∙ ap (λ (n : ℕ). replicate n no_position) (rest ∙ ap (λ (n : ℕ). most_records - n) (sym e.records));
    }

-- the tables of a walk, with the records that remain
pub closed_is : (b k : Book) (whole left : ℕ) → Beside b k → with_open k (keep (remains k.day) (open_of k)) ≡ closed b (walking b.records whole (tables_of k left))
unfolding with_open with_holdings with_charges open_of
closed_is b k whole left e =
    let left_open : keep (remains k.day) (take k.records k.positions) ≡ keep (remains b.day) (take b.records k.positions) =
    ap₂ (λ (d n : ℕ). keep (remains d) (take n k.positions)) e.day e.records in
    λ i. record {
      day = e.day i;
      currency = e.currency i;
      records = length (left_open i);
      positions = left_open i ++ replicate (most_records - length (left_open i)) no_position;
      holdings = k.holdings;
      charges = k.charges;
      entries = e.entries i;
      trades = e.trades i;
    }
