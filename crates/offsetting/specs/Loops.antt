-- The two loops of the walk: what is left to do decides. From where a loop stands, the rest of the walk comes to what the whole comes to.
use Rattle.std.specs.Prelude.{◌≡◌, List, ◌++◌, length, take, nat_abs}
use Rattle.std.proofs.Common.{sym, ◌∙◌, subst, add-one, length-append, get_or-take}
use Rattle.std.proofs.Math.Path.{ap}
use Prim.Native.Nat.{ℕ, suc, ◌+◌, ◌*◌, ◌-◌, ◌<◌, ◌≤◌, ◌^◌}
use native.Mathlib.Omega.{arith}
use Rattle.units.specs.Units.{mils_of, most_mils}
use Rattle.units.specs.declared.Mils.{Mils}
use Rattle.rules.specs.Bounds.{currencies, most_records}
use Rattle.rules.specs.Book.{quantity_of, money_of, is_zero, account_of, security_of, no_position, open_of, currency_of}
use Rattle.rules.specs.declared.Position.{Position}
use Rattle.rules.specs.declared.Book.{Book}
use Rattle.laws.specs.Cases.{by_test}
use Rattle.laws.specs.Numbers.{account_below}
use Rattle.laws.specs.Rows.{row}
use Rattle.laws.specs.DueDays.{parts_whole}
use Rattle.laws.specs.OffsetKept.{older_of, newly_of, later_of}
use Rattle.offsetting_meetings.specs.Meeting.{MeetAsks}
use Rattle.offsetting.specs.Walk.{Walking, walking, meet, pass, whole, walk, WalkAsks, all_met}
use Rattle.offsetting.specs.WalkIsRule.{walked_is}
use Rattle.offsetting.specs.Holding.{Held, held_within, row_sized, row_currency, charge_within, held_meet, held_whole, held_start}
use Rattle.offsetting.specs.Turns.{place_of, charge_of, meet_number, meet_place}

-- ── the inner walk: row i meets the older rows, of which some are left ──

-- how large a charge may be when row i has its turn
abbrev pub bound : ℕ → ℕ
bound i = (most_records + i) * most_mils

-- row i stands behind the older ones, and has the number that it had when its turn began
pub record Inner (b : Book) (older i number at left : ℕ) (x w : Walking) : Type 0 where
  pub within : left ≤ older
  pub held : Held b (bound (i + 1)) x
  pub same : (row x.rows i).number ≡ number
  pub place : place_of b (row x.rows i) ≡ at
  pub rest : pass b i left (older - left) x ≡ w

module _ (b : Book) (older i number at left : ℕ) (x w : Walking) (few : b.records ≤ most_records) (hi : i < b.records)
    (inv : Inner b older i number at left x w) where
  abbrev p : Position
  p = row x.rows i

  charge_room : nat_abs (mils_of (charge_of x.charges at)) ≤ bound (i + 1)
  charge_room = subst (λ (n : ℕ). nat_abs (mils_of (charge_of x.charges n)) ≤ bound (i + 1)) inv.place
      (charge_within b (bound (i + 1)) x inv.held (account_of p) (currency_of b (security_of p)) (account_below p) (row_currency b (bound (i + 1)) x inv.held i hi))

  -- it may meet any row
  pub inner_asks : (j : ℕ) → j < b.records → MeetAsks (charge_of x.charges at) p (row x.rows j)
  inner_asks j hj =
      record {
        newly = row_sized b (bound (i + 1)) x inv.held i hi;
        older = row_sized b (bound (i + 1)) x inv.held j hj;
        room = omega (arith, charge_room);
      }

  module _ (behind : older ≤ i) (some : 0 < left) where
    abbrev j : ℕ
    j = older - left

    next_inner : Inner b older i number at (left - 1) (meet b i j x) w
    unfolding pass
    next_inner =
        let one : left ≡ suc (left - 1) = omega arith in
        let next : suc j ≡ older - (left - 1) = omega (arith, inv.within) in
        let step : pass b i (suc (left - 1)) j x ≡ w = ap (λ (n : ℕ). pass b i n j x) (sym one) ∙ inv.rest in
        record {
          within = omega (arith, inv.within);
          held = held_meet b (bound (i + 1)) x inv.held i j hi (omega (arith, inv.within)) (λ e. omega (arith, inv.within));
          same = meet_number b i j x (omega (arith, inv.held.long)) ∙ inv.same;
          place = meet_place b i j x (omega (arith, inv.held.long)) ∙ inv.place;
          rest = ap (λ (n : ℕ). pass b i (left - 1) n (meet b i j x)) (sym next) ∙ step;
        }

    -- y is what the meeting leaves
    pub inner_next : (y : Walking) → meet b i j x ≡ y → Inner b older i number at (left - 1) y w
    inner_next y e = subst (λ (z : Walking). Inner b older i number at (left - 1) z w) e next_inner

-- the same of a table
pub table_asks : (b : Book) (older i number at left : ℕ) (ps : List Position) (cs : List Mils) (w : Walking) → b.records ≤ most_records → i < b.records
    → Inner b older i number at left (walking (take b.records ps) cs) w → (j : ℕ) → j < b.records → MeetAsks (charge_of cs at) (row ps i) (row ps j)
table_asks b older i number at left ps cs w few hi inv j hj =
    rw (get_or-take b.records ps i no_position hi, get_or-take b.records ps j no_position hj) at
    (inner_asks b older i number at left (walking (take b.records ps) cs) w few hi inv j hj)

-- ── the outer walk: the rows from i on ──

pub record Outer (b : Book) (older due i : ℕ) (x : Walking) : Type 0 where
  pub behind : older ≤ i
  pub within : i ≤ due
  pub held : Held b (bound i) x
  pub rest : walk b older (due - i) i x ≡ all_met b

module _ (b : Book) (older due i : ℕ) (x : Walking) (few : due ≤ b.records) (room : b.records ≤ most_records) (hi : i < due)
    (inv : Outer b older due i x) where
  abbrev q : Position
  q = row x.rows i

  abbrev currency : ℕ
  currency = currency_of b (security_of q)

  pub outer_currency : currency < currencies
  outer_currency = row_currency b (bound i) x inv.held i (omega arith)

  pub outer_room : nat_abs (mils_of (charge_of x.charges (place_of b q))) + nat_abs (money_of q) < 2 ^ 63
  outer_room =
      omega (
        arith,
        charge_within b (bound i) x inv.held (account_of q) currency (account_below q) outer_currency,
        (row_sized b (bound i) x inv.held i (omega arith)).money,
      )

  abbrev met : Walking
  met = pass b i older 0 (whole b i x)

  start_inner : (at : ℕ) → place_of b q ≡ at → Inner b older i q.number at older (whole b i x) met
  unfolding whole
  start_inner at e =
      record {
        within = omega arith;
        held = held_within b (bound i + most_mils) (bound (i + 1)) (whole b i x) (omega arith) (held_whole b (bound i) x inv.held i (omega arith));
        same = by_test (is_zero (quantity_of q)) (λ z. rw z) (λ z. rw z);
        place = by_test (is_zero (quantity_of q)) (λ z. rw z e) (λ z. rw z e);
        rest = ap (λ (j : ℕ). pass b i older j (whole b i x)) (omega arith);
      }

  -- row i is charged whole if it has no shares, which leaves y, and begins
  pub inner_start : (number at : ℕ) (y : Walking) → q.number ≡ number → place_of b q ≡ at → whole b i x ≡ y → Inner b older i number at older y met
  inner_start number at y n e f =
      subst (λ (m : ℕ). Inner b older i m at older y met) n (subst (λ (z : Walking). Inner b older i q.number at older z met) f (start_inner at e))

  -- it has met all older rows, which leaves y
  pub outer_next : (number at left : ℕ) (y : Walking) → left ≡ 0 → Inner b older i number at left y met → Outer b older due (i + 1) y
  unfolding pass walk
  outer_next number at left y none end =
      let all : y ≡ met = ap (λ (n : ℕ). pass b i n (older - n) y) (sym none) ∙ end.rest in
      let one : due - i ≡ suc (due - (i + 1)) = omega arith in
      let step : walk b older (suc (due - (i + 1))) i x ≡ all_met b = ap (λ (n : ℕ). walk b older n i x) (sym one) ∙ inv.rest in
      record {
        behind = omega (arith, inv.behind);
        within = omega arith;
        held = end.held;
        rest = ap (walk b older (due - (i + 1)) (i + 1)) all ∙ ap (λ (n : ℕ). walk b older (due - (i + 1)) n met) (add-one i) ∙ step;
      }

-- all newly due rows have met the older ones
pub outer_done : (b : Book) (older due i : ℕ) (x : Walking) → due ≤ i → Outer b older due i x → x ≡ all_met b
unfolding walk
outer_done b older due i x h inv =
    let none : due - i ≡ 0 = omega arith in
    ap (λ (n : ℕ). walk b older n i x) (sym none) ∙ inv.rest

-- ── before the walk ──

module _ (b : Book) (older due : ℕ) (asks : WalkAsks b older due) (long : length (open_of b) ≡ b.records) where
  pub due_few : due ≤ b.records
  due_few =
      omega (
        arith,
        ap length (parts_whole b.day (open_of b) asks.ready.order),
        length-append (older_of b) (newly_of b ++ later_of b),
        length-append (newly_of b) (later_of b),
        asks.due_are,
      )

  pub outer_start : Outer b older due older (walking (open_of b) b.charges)
  outer_start =
      let newly : due - older ≡ length (newly_of b) = omega (arith, asks.older_are, asks.due_are) in
      record {
        behind = omega arith;
        within = omega (arith, asks.older_are, asks.due_are);
        held = held_within b (most_records * most_mils) (bound older) (walking (open_of b) b.charges) (omega arith) (held_start b asks.ready long);
        rest = rw (newly, asks.older_are) (walked_is b asks.ready);
      }
