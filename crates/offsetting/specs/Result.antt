-- The book that offsetting leaves: the rows that the walk leaves, packed, and its charges.
use Rattle.std.specs.Prelude.{◌≡◌, ◌++◌, ℕ, ◌-◌, ◌≤◌, length, drop, replicate}
use Rattle.std.proofs.Common.{sym, ap, ap₂, ◌∙◌, arith}
use Rattle.std.proofs.Math.Seq.{drop-append_seam}
use Rattle.rules.specs.Words.{keep}
use Rattle.rules.specs.Bounds.{most_records}
use Rattle.rules.specs.Book.{no_position, open_of, list_of, with_open, with_list, with_charges, with_day}
use Rattle.rules.specs.Roll.{remains, offset, uncharged, netted, emptied, next_day}
use Rattle.rules.specs.declared.Book.{Book}
use Rattle.laws.specs.OffsetKept.{met_of}
use Rattle.laws.specs.Rolling.{rolling, new_nets}
use Rattle.parts.specs.Packing.{PackAsks, remaining_in}
use Rattle.offsetting.specs.Walk.{Walking, in_use, all_met}
use Rattle.offsetting.specs.Rows.{Beside, Walked}

-- ── what packing asks ──

-- the book of a roll, before its offsetting, has nothing behind its records
pub rolling_asks : (k : Book) → (rolling k).records ≤ most_records → PackAsks (rolling k)
unfolding rolling next_day emptied netted uncharged with_day with_list with_open with_charges open_of list_of
rolling_asks k h =
    let ps = open_of k ++ new_nets k in
    record { few = h; blank = drop-append_seam ps (replicate (most_records - length ps) no_position) }

-- behind the records of a walk the table is zero still
pub pack_asks : (b k : Book) → PackAsks b → Beside b k → PackAsks k
pack_asks b k a e =
    record {
      few = omega (arith, a.few, e.records);
      blank =
          ap (λ (n : ℕ). drop n k.positions) e.records ∙ e.unused ∙ a.blank
          ∙ ap (λ (n : ℕ). replicate (most_records - n) no_position) (sym e.records);
    }

-- ── what comes of it ──

pub offset_is : (b k : Book) → Walked b k → with_open k (remaining_in k) ≡ offset b
unfolding offset with_charges with_open open_of all_met met_of
offset_is b k w =
    let e = w.beside in
    let left : remaining_in k ≡ keep (remains b.day) (all_met b).rows =
    ap₂ (λ (d n : ℕ). keep (remains d) (in_use n k).rows) e.day e.records ∙ ap (λ (x : Walking). keep (remains b.day) x.rows) w.met in
    λ i. record {
      day = e.day i;
      currency = e.currency i;
      records = length (left i);
      positions = left i ++ replicate (most_records - length (left i)) no_position;
      holdings = e.holdings i;
      charges = (w.met i).charges;
      entries = e.entries i;
      trades = e.trades i;
    }
