-- The two loops of the walk, over the book's positions, holdings and charges: what each keeps, how it starts, goes on and ends; and that the walk may be left when
-- nothing is left to give.
use Rattle.std.specs.Prelude.{◌≡◌, refl, Bool, true, false, ◌&&◌, List, ℕ, ◌+◌, ◌-◌, ◌/◌, ◌%◌, min, ◌<◌, ◌≤◌, length, get_or, pos}
use Rattle.std.proofs.Math.Path.{sym, ap, subst}
use Rattle.std.proofs.Common.{◌∙◌, get_or-take, leb-true, le-leb}
use native.Mathlib.Omega.{arith}
use Rattle.std.proofs.Math.Dec.{leb}
use Rattle.std.proofs.Math.ListN.{take, length-take}
use Rattle.std.proofs.Math.IntN.{nat_abs}
use Rattle.units.specs.Units.{mils_of, mils, most_shares, most_mils}
use Rattle.units_rounded.specs.PartLaws.{PartAsks}
use Rattle.units.specs.declared.Mils.{Mils}
use Rattle.rules.specs.Words.{all}
use Rattle.rules.specs.Bounds.{securities, currencies, most_held, most_at_stake}
use Rattle.rules.specs.Book.{quantity_of, money_of, account_of, open_of, unlisted, no_position, holding_at, charge_at}
use Rattle.rules.specs.Sound.{is_position, sizes_fit, totals_held, total_held, holdings_fit, sound}
use Rattle.rules.specs.Parts.{without}
use Rattle.rules.specs.Run.{deliverable}
use Rattle.rules.specs.declared.Position.{Position}
use Rattle.rules.specs.declared.Book.{Book}
use Rattle.laws.specs.Cases.{both_hold, and_hold}
use Rattle.laws.specs.All.{all_so}
use Rattle.laws.specs.Rows.{row}
use Rattle.laws.specs.Taking.{without_size, without_sizes}
use Rattle.laws.specs.Charging.{charge_in, weight, open_money_lem}
use Rattle.laws.specs.Numbers.{account_below}
use Rattle.laws.specs.Walk.{Walking, owes, wants, left_to_give, met_at, search, walked}
use Rattle.laws.specs.WalkIsRun.{unwalked}
use Rattle.laws.specs.SoundParts.{sound_parts}
use Rattle.laws.specs.SoundRun.{sound_runnable, sound_moved}
use Rattle.laws.specs.Shaped.{Shaped}
use Rattle.laws.specs.Stakes.{stake_within}
use Rattle.laws.specs.Totals.{held_part}
use Rattle.laws.specs.MovedTotals.{total_within}
use Rattle.laws.specs.RunKeeps.{Loses, Meets, Steady, steady_met}
use Rattle.laws.specs.RunLeaves.{room, end_shares, met_pass}
use Rattle.laws.specs.RunHoldings.{met_total}
use Rattle.laws.specs.RunMoney.{met_weight}
use Rattle.settling.specs.Passing.{Full, Apart, full_more, apart_start}
use Rattle.settling.specs.Steps.{inner_rest, outer_rest, rest_enter, rest_full, rest_spent, rest_leave, rest_none, rest_same}

-- the tables that the walk alters, and what is left to give
pub record Tables : Type 0 where
  pub positions : List Position
  pub holdings : List ℕ
  pub charges : List Mils
  pub left : ℕ

abbrev pub tables_of : Book → ℕ → Tables
tables_of k left = record { positions = k.positions; holdings = k.holdings; charges = k.charges; left = left }

-- these tables, of which n rows are in use, as a walk that has given what is no longer left of `whole`
abbrev pub walking : ℕ → ℕ → Tables → Walking
walking n whole t = record { records = take n t.positions; holdings = t.holdings; charges = t.charges; shares = whole - t.left }

-- a listed security of a sound book, and all that can be given of it
pub record WalkAsks (k : Book) (s whole : ℕ) : Type 0 where
  pub ok : sound k ≡ true
  pub security : s < securities
  pub listed : unlisted k s ≡ false
  pub gives : whole ≡ deliverable k s

-- ── what every step needs of the tables ──

-- sizes that a part may have
abbrev pub small : Position → Bool
small p = leb (nat_abs (quantity_of p)) most_shares && leb (nat_abs (money_of p)) most_mils

small_fits : (p : Position) → sizes_fit p ≡ true → small p ≡ true
unfolding sizes_fit
small_fits p e =
    let u = both_hold (leb (nat_abs (quantity_of p)) most_shares) (leb (nat_abs (money_of p)) most_mils && is_position p) e in
    and_hold u.0 (both_hold (leb (nat_abs (money_of p)) most_mils) (is_position p) u.1).0

small_rest : (b : Book) (s : ℕ) (p : Position) (k : ℕ) → Loses b s p k → small p ≡ true → small (without p k) ≡ true
small_rest b s p k h e =
    let u = both_hold (leb (nat_abs (quantity_of p)) most_shares) (leb (nat_abs (money_of p)) most_mils) e in
    and_hold (le-leb (nat_abs (quantity_of (without p k))) most_shares (omega (arith, without_size p k, leb-true (nat_abs (quantity_of p)) most_shares u.0)))
    (le-leb (nat_abs (money_of (without p k))) most_mils (omega (arith, without_sizes p k h.within, leb-true (nat_abs (money_of p)) most_mils u.1)))

-- numbers and lengths are the book's, sizes fit, no account and currency has more at stake than before, and no security's total has changed
pub record Ready (b : Book) (x : Walking) : Type 0 where
  pub steady : Steady b x
  pub sizes : all small x.records ≡ true
  pub stakes : (a c : ℕ) → c < currencies → weight b a c x.charges x.records ≤ weight b a c b.charges (open_of b)
  pub totals : (u : ℕ) → u < securities → total_held x.holdings u ≡ total_held b.holdings u

pub part_asks : (b : Book) (s : ℕ) (p : Position) (k : ℕ) → Loses b s p k → small p ≡ true → PartAsks (money_of p) (quantity_of p) k
part_asks b s p k h e =
    let u = both_hold (leb (nat_abs (quantity_of p)) most_shares) (leb (nat_abs (money_of p)) most_mils) e in
    record {
      money = leb-true (nat_abs (money_of p)) most_mils u.1;
      some = omega (arith, h.some, h.within);
      shares = leb-true (nat_abs (quantity_of p)) most_shares u.0;
      within = h.within;
    }

-- ── what the two loops keep ──

-- between two givers: the rows before g have given what they can, those before r want nothing more
pub record Outer (b : Book) (s whole g r : ℕ) (t : Tables) : Type 0 where
  pub giver : g ≤ b.records
  pub receiver : r ≤ b.records
  pub some : t.left ≤ whole
  pub ready : Ready b (walking b.records whole t)
  pub apart : Apart b.day s (take b.records t.positions)
  pub full : Full b.day s (take b.records t.positions) r
  pub rest : outer_rest b s g (walking b.records whole t) ≡ walked b s

-- while row g gives
pub record Inner (b : Book) (s whole g r : ℕ) (t : Tables) : Type 0 where
  pub receiver : r ≤ b.records
  pub some : t.left ≤ whole
  pub ready : Ready b (walking b.records whole t)
  pub apart : Apart b.day s (take b.records t.positions)
  pub full : Full b.day s (take b.records t.positions) r
  pub rest : inner_rest b s g r (walking b.records whole t) ≡ walked b s

-- the rows of the tables are those of the walk
pub row_here : {n : ℕ} (t : Tables) (g : ℕ) → g < n → row (take n t.positions) g ≡ row t.positions g
row_here {n} t g h = get_or-take n t.positions g no_position h

module _ (b : Book) (s : ℕ) (shape : Shaped b) (whole : ℕ) (asks : WalkAsks b s whole) where
  abbrev n : ℕ
  n = b.records

  abbrev d : ℕ
  d = b.day

  abbrev hs : s < 32
  hs = asks.security

  pub open_long : length (open_of b) ≡ n
  unfolding open_of
  open_long = omega (arith, length-take b.records b.positions, room b s hs asks.ok shape)

  -- all that can be given is what the walk moves
  pub whole_moved : (walked b s).shares ≡ whole
  whole_moved = end_shares b s hs asks.ok shape ∙ sound_moved b s hs asks.ok ∙ sym asks.gives

  -- ── a meeting keeps it ──

  ready_start : Ready b (unwalked b)
  ready_start =
      record {
        steady = record { numbers = refl; wide = refl; charges = refl };
        sizes = all_so sizes_fit small (open_of b) small_fits (sound_parts b asks.ok).sizes;
        stakes = λ a c h. omega arith;
        totals = λ u h. refl;
      }

  pub ready_met : (x : Walking) (g r k : ℕ) → Meets b s x g r k → Ready b x → Ready b (met_at b s x g r k)
  ready_met x g r k m c =
      record {
        steady = steady_met b s x g r k m c.steady;
        sizes = met_pass b s hs asks.ok shape small (small_rest b s) x g r k c.steady m c.sizes;
        stakes = λ a u h. met_weight b s hs asks.ok shape asks.listed a u h x g r k c.steady m (c.stakes a u h);
        totals = λ u h. met_total b s hs asks.ok shape u h x g r k c.steady m (c.totals u h);
      }

  -- ── what is known of charges and holdings ──

  pub charge_within : (x : Walking) → Ready b x → (i : ℕ) → i < 256 → nat_abs (mils_of (get_or x.charges i (mils (pos 0)))) ≤ most_at_stake
  unfolding charge_at
  charge_within x c i h =
      let e : nat_abs (mils_of (get_or x.charges i (mils (pos 0)))) ≡ nat_abs (charge_in x.charges (i / 4) (i % 4)) =
      ap (λ (j : ℕ). nat_abs (mils_of (get_or x.charges j (mils (pos 0))))) (omega arith) in
      omega (
        arith,
        c.stakes (i / 4) (i % 4) (omega arith),
        open_money_lem b (open_of b) (i / 4) (i % 4),
        stake_within b (sound_parts b asks.ok).money (i / 4) (i % 4) (omega arith) (omega arith),
      )

  pub holding_within : (x : Walking) → Ready b x → (p : Position) → get_or x.holdings (holding_at (account_of p) s) 0 ≤ most_held
  unfolding holdings_fit
  holding_within x c p =
      omega (
        arith,
        held_part x.holdings (c.steady.wide ∙ shape.holdings) (account_of p) s (account_below p) hs,
        c.totals s hs,
        total_within b.holdings shape.holdings most_held s (both_hold (all (λ h. leb h most_held) b.holdings) (all (λ t. leb t most_held) (totals_held b.holdings)) (sound_parts b asks.ok).holdings).1 hs,
      )

  -- ── the loops ──

  pub outer_start : (t : Tables) → t.positions ≡ b.positions → t.holdings ≡ b.holdings → t.charges ≡ b.charges → t.left ≡ whole → Outer b s whole 0 0 t
  unfolding open_of walked
  outer_start t ep eh ec el =
      let z : whole - t.left ≡ 0 = omega arith in
      let e : unwalked b ≡ walking n whole t = λ i. record { records = take n (sym ep i); holdings = sym eh i; charges = sym ec i; shares = sym z i } in
      record {
        giver = omega arith;
        receiver = omega arith;
        some = omega arith;
        ready = subst (Ready b) e ready_start;
        apart = subst (λ (x : Walking). Apart d s x.records) e (apart_start d s (open_of b) (sound_runnable b asks.ok).signs);
        full = λ j h. absurd (omega arith);
        rest = ap (outer_rest b s 0) (sym e) ∙ ap (λ (m : ℕ). search b s m 0 (unwalked b)) (omega arith);
      }

  pub inner_start : (g r : ℕ) (t : Tables) → g < n → Outer b s whole g r t → Inner b s whole g r t
  inner_start g r t h c =
      record {
        receiver = c.receiver;
        some = c.some;
        ready = c.ready;
        apart = c.apart;
        full = c.full;
        rest = sym (rest_enter b s hs g r (walking n whole t) h c.receiver c.full) ∙ c.rest;
      }

  -- on to the next giver: this one has nothing left to give, or nobody wants any more
  outer_after : (g r : ℕ) (t : Tables) → g < n → Inner b s whole g r t → inner_rest b s g r (walking n whole t) ≡ outer_rest b s (g + 1) (walking n whole t) → Outer b s whole (g + 1) r t
  outer_after g r t h c e =
      record {
        giver = omega arith;
        receiver = c.receiver;
        some = c.some;
        ready = c.ready;
        apart = c.apart;
        full = c.full;
        rest = sym e ∙ c.rest;
      }

  pub outer_spent : (g r : ℕ) (t : Tables) → g < n → (at : ℕ) → at ≡ holding_at (account_of (row t.positions g)) s
      → min (owes d s (row t.positions g)) (get_or t.holdings at 0) ≡ 0 → Inner b s whole g r t → Outer b s whole (g + 1) r t
  unfolding left_to_give
  outer_spent g r t h at ea z c =
      outer_after g r t h c (rest_spent b s hs g r (walking n whole t) (rw (row_here t g h, ← ea) z))

  pub outer_next : (g r : ℕ) (t : Tables) → g < n → n ≤ r → Inner b s whole g r t → Outer b s whole (g + 1) r t
  outer_next g r t h l c = outer_after g r t h c (rest_leave b s hs g r (walking n whole t) l)

  -- on to the next receiver: this one wants nothing
  pub inner_next : (g r : ℕ) (t : Tables) → r < n → wants d s (row t.positions r) ≡ 0 → Inner b s whole g r t → Inner b s whole g (r + 1) t
  inner_next g r t h z c =
      let w : wants d s (row (take n t.positions) r) ≡ 0 = ap (wants d s) (row_here t r h) ∙ z in
      record {
        receiver = omega arith;
        some = c.some;
        ready = c.ready;
        apart = c.apart;
        full = full_more d s (take n t.positions) r c.full w;
        rest = sym (rest_full b s hs g r (walking n whole t) h w) ∙ c.rest;
      }

  -- ── the ends ──

  pub outer_end : (g r : ℕ) (t : Tables) → n ≤ g → Outer b s whole g r t → walking n whole t ≡ walked b s
  outer_end g r t h c = sym (rest_none b s hs g (walking n whole t) h) ∙ c.rest

  -- nothing is left to give
  pub left_by_label : (g r : ℕ) (t : Tables) → t.left ≡ 0 → Inner b s whole g r t → walking n whole t ≡ walked b s
  left_by_label g r t z c =
      sym (rest_same b s hs g r (walking n whole t) (omega (arith, ap (λ (x : Walking). x.shares) c.rest, whole_moved))) ∙ c.rest
