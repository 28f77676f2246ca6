-- `offsetting::walk::offset_rows` meets its contract. Both loops' invariants say that what is left to do from here comes to what the rule
-- comes to: `Outside` between two newly due rows; `Inside` while row i meets the older ones, kept for whatever the turn of row i comes to. Assumes
-- nothing.
use Rattle.std.proofs.Common.{◌≡◌, false, ℕ, ◌+◌, ◌-◌, ◌<◌, List, length, get_or, sym, ◌∙◌, arith}
use Rattle.rules.specs.Bounds.{most_records}
use Rattle.rules.specs.Book.{no_position}
use Rattle.rules.specs.Layout.{book_of}
use Rattle.rules.specs.Sound.{same_pair}
use Rattle.rules.specs.declared.Position.{Position}
use Rattle.rules.specs.declared.Book.{Book}
use Rattle.offsetting.specs.Walk.{Walking, in_use, pass, whole}
use Rattle.offsetting.specs.Rows.{RowsAsk, met_in}
use Rattle.offsetting.specs.Bytes.{Started, Inside, started, outside_start, row_below, code_below, whole_room, inside_start, outside_next, outside_end, inside_passed, meet_asks, inside_met}
use Rattle.offsetting.proofs.walk.offset_rows.Goals as goal
use Rattle.offsetting.proofs.walk.offset_rows.Goals.{After-codes_of-codes, After-put_charge, then-same_pair, else-same_pair}

-- ── the outer loop ──

begun : (c : After-codes_of-codes) → Started (book_of c.args.b.now) c.args.older c.args.due c.codes_of-codes.result
begun c = started _ _ _ _ c.requires c.codes_of-codes.ensures

pub newly-init : goal.newly-init
newly-init c = outside_start _ _ _ _ c.told-b (begun (goal.at.newly-init c).After-codes_of-codes)

pub position_at-fresh-requires : goal.position_at-fresh-requires
position_at-fresh-requires c = row_below (begun (goal.at.position_at-fresh-requires c).After-codes_of-codes) c.newly.i c.newly.b c.newly-test.true c.newly.invariant

pub place_of-at-requires : goal.place_of-at-requires
place_of-at-requires c =
    code_below (begun (goal.at.place_of-at-requires c).After-codes_of-codes) c.newly.i c.newly.b c.newly-test.true c.newly.invariant _ c.position_at-fresh.ensures

pub with_whole-charge-requires : goal.with_whole-charge-requires
with_whole-charge-requires c =
    whole_room (begun (goal.at.with_whole-charge-requires c).After-codes_of-codes) c.newly.i c.newly.b c.newly-test.true c.newly.invariant _ c.position_at-fresh.ensures
    _ c.place_of-at.ensures.0 c.place_of-at.ensures.1 _ c.charge_at.ensures

-- ── the inner loop: row j of the older ones, which is the one that is read ──

module _ {b : Book} {older i : ℕ} {fresh : Position} {at : ℕ} (j : ℕ) {w : Walking} {bs : List ℕ} (h : j < older) (c : Inside b older i fresh at (older - j) w bs) {row : ℕ} (same : row ≡ j) where
  here : older - (older - j) ≡ row
  here = omega (arith, same)

  next : older - (j + 1) ≡ (older - j) - 1
  next = omega arith

  older_below : row < most_records
  older_below = omega (arith, c.behind, c.below, c.few, same)

  may_meet : RowsAsk (book_of bs) i row at
  may_meet = rw here at (meet_asks b older i fresh at (older - j) w bs (omega arith) c)

  passed : (o : Position) → o ≡ get_or (book_of bs).positions row no_position → same_pair fresh o ≡ false → Inside b older i fresh at (older - (j + 1)) w bs
  passed o eo e = rw next (inside_passed b older i fresh at (older - j) w bs (omega arith) c o (rw here eo) e)

  met : (new : List ℕ) → length new ≡ length bs → book_of new ≡ met_in (book_of bs) i row at → Inside b older i fresh at (older - (j + 1)) w new
  met new long e = rw next (inside_met b older i fresh at (older - j) w bs (omega arith) c new long (rw here e))

-- row i is charged, and begins its turn
entered : (c : After-put_charge)
    → let b = book_of c.args.b.now in
    Inside b c.args.older c.newly.i c.position_at-fresh.result c.place_of-at.result c.args.older (pass b c.newly.i c.args.older 0 (whole b c.newly.i (in_use b.records (book_of c.newly.b)))) c.put_charge.new.b
entered c =
    inside_start (started _ _ _ _ c.requires c.codes_of-codes.ensures)
    c.newly.i c.newly.b c.newly-test.true c.newly.invariant _ c.position_at-fresh.ensures _ c.place_of-at.ensures.0 c.place_of-at.ensures.1 _ c.charge_at.ensures
    _ c.with_whole-charge.ensures _ (c.put_charge.array_long ∙ sym c.newly.invariant.long) c.put_charge.ensures.1

pub position_at-o-requires : goal.position_at-o-requires
position_at-o-requires c = older_below c.older.j c.older-test.true (c.older.invariant _ (entered (goal.at.position_at-o-requires c).After-put_charge)) (omega arith)

pub meet-requires : goal.meet-requires
meet-requires c = may_meet c.older.j c.older-test.true (c.older.invariant _ (entered (goal.at.meet-requires c).After-put_charge)) (omega arith)

pub older-preserved : goal.older-preserved
older-preserved c =
    λ w start. let inside = c.older.invariant w start in
    elim c.if-same_pair.branch [
      | then-same_pair x ↦ met c.older.j c.older-test.true inside {row = c.older.j} (omega arith) _ (c.if-same_pair.array_long ∙ sym inside.long) (cc)
      | else-same_pair x ↦ rw x.b-is (passed c.older.j c.older-test.true inside {row = c.older.j} (omega arith) _ c.position_at-o.ensures (sym c.same_pair.ensures ∙ x.if-same_pair.false))
    ]

-- ── the next newly due row, and the end ──

pub newly-preserved : goal.newly-preserved
newly-preserved c =
    outside_next (begun (goal.at.newly-preserved c).After-codes_of-codes) c.newly.i c.newly.b c.newly-test.true c.newly.invariant _ _ _ c.older.b (omega arith)
    (c.older.invariant _ (entered (goal.at.newly-preserved c).After-put_charge))

pub returns : goal.returns
returns c = outside_end _ _ _ c.newly.i _ c.newly-test.false c.newly.invariant
