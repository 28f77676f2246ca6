-- A meeting in the inner loop: what it asks of the tables, and that the loop keeps what it keeps.
use Rattle.std.specs.Prelude.{◌≡◌, true, ℕ, ◌+◌, ◌-◌, min, ◌<◌, ◌≤◌, ◌^◌, get_or, take}
use Rattle.std.proofs.Math.Path.{sym, ap}
use Rattle.std.proofs.Common.{◌∙◌, subst, length-take, get_or-set_same, get_or-set_other}
use mathlib.Core.List.{List}
use native.Mathlib.Omega.{arith}
use Rattle.std.proofs.Math.ListN.{set}
use Rattle.std.proofs.Math.Seq.{take-set-lt}
use Rattle.units_rounded.specs.PartLaws.{PartAsks}
use Rattle.units.specs.declared.Mils.{Mils}
use Rattle.rules.specs.Book.{quantity_of, money_of, account_of, security_of, currency_of, no_position, holding_at}
use Rattle.rules.specs.Parts.{without, charged_to, charged_both}
use Rattle.rules.specs.Run.{moved}
use Rattle.rules.specs.declared.Position.{Position}
use Rattle.rules.specs.declared.Book.{Book}
use Rattle.laws.specs.Walks.{all_at}
use Rattle.laws.specs.Rows.{row, without_both}
use Rattle.laws.specs.Walk.{Walking, owes, wants, left_to_give, size_of, met_at, meet}
use Rattle.laws.specs.Searching.{meet_some}
use Rattle.laws.specs.Shaped.{Shaped}
use Rattle.laws.specs.RunKeeps.{Meets, steady_long, meets}
use Rattle.laws.specs.RunMoney.{currency_below}
use Rattle.settling.specs.Charges.{ChargeAsks, charged_part, charged_parts}
use Rattle.laws.specs.RunShares.{owes_less}
use Rattle.settling.specs.Passing.{Full, Apart, full_still, apart_still, none_more}
use Rattle.settling.specs.Steps.{rest_meet, rest_met, rest_grows}
use Rattle.settling.specs.Loops.{Tables, walking, WalkAsks, small, part_asks, Ready, Inner, row_here, open_long, whole_moved, ready_met, charge_within, holding_within}

-- rows g and r, the place of the giver's holding, and the shares k of their meeting: some, for the one has something left to give and the other
-- wants something
pub record Turn (b : Book) (s whole g r : ℕ) (t : Tables) (at k : ℕ) : Type 0 where
  pub shape : Shaped b
  pub asks : WalkAsks b s whole
  pub giver : g < b.records
  pub receiver : r < b.records
  pub inner : Inner b s whole g r t
  pub place : at ≡ holding_at (account_of (row t.positions g)) s
  pub size : k ≡ min (min (owes b.day s (row t.positions g)) (get_or t.holdings at 0)) (wants b.day s (row t.positions r))
  pub some : 0 < k

module _ {b : Book} {s whole g r : ℕ} {t : Tables} {at k : ℕ} (u : Turn b s whole g r t at k) where
  abbrev n : ℕ
  n = b.records

  abbrev d : ℕ
  d = b.day

  abbrev x : Walking
  x = walking n whole t

  abbrev c : Inner b s whole g r t
  c = u.inner

  hs : s < 32
  hs = u.asks.security

  size_is : k ≡ size_of d s x g r
  unfolding size_of left_to_give
  size_is = rw (row_here t g u.giver, row_here t r u.receiver, ← u.place) u.size

  -- the giver's account holds the shares at that moment
  pub holds_enough : k ≤ get_or t.holdings at 0
  holds_enough = omega (arith, u.size)

  met : meet b s g r x ≡ met_at b s x g r k
  met = meet_some b s hs g r x (omega (arith, size_is, u.some)) ∙ ap (met_at b s x g r) (sym size_is)

  meeting : Meets b s x g r k
  meeting =
      let long = steady_long b x c.ready.steady ∙ open_long b s u.shape whole u.asks in
      subst (Meets b s x g r) (sym size_is) (meets b s x g r (omega (arith, u.giver)) (omega (arith, u.receiver)) (omega (arith, size_is, u.some)))

  -- the walk moves these shares too
  pub within_left : k ≤ t.left
  unfolding met_at
  within_left =
      omega (
        arith,
        c.some,
        rest_grows b s hs g (r + 1) (meet b s g r x),
        ap (λ (y : Walking). y.shares) (sym (rest_meet b s hs g r x u.receiver) ∙ c.rest),
        ap (λ (y : Walking). y.shares) met,
        whole_moved b s u.shape whole u.asks,
      )

  giver_small : small (row (take n t.positions) g) ≡ true
  giver_small = all_at small (take n t.positions) g no_position c.ready.sizes meeting.giver_row

  taker_small : small (row (take n t.positions) r) ≡ true
  taker_small = all_at small (take n t.positions) r no_position c.ready.sizes meeting.taker_row

  -- what taking the parts, charging them and moving the shares ask
  pub giver_asks : PartAsks (money_of (row t.positions g)) (quantity_of (row t.positions g)) k
  giver_asks =
      subst (λ (p : Position). PartAsks (money_of p) (quantity_of p) k) (row_here t g u.giver) (part_asks b s (row x.records g) k meeting.giver giver_small)

  taker_asks : PartAsks (money_of (row t.positions r)) (quantity_of (row t.positions r)) k
  taker_asks =
      subst (λ (p : Position). PartAsks (money_of p) (quantity_of p) k) (row_here t r u.receiver) (part_asks b s (row x.records r) k meeting.taker taker_small)

  code_below : (p : Position) → security_of p ≡ s → get_or b.currency (security_of p) 0 < 4
  unfolding currency_of
  code_below p e = rw e (currency_below b s hs u.asks.ok u.shape u.asks.listed)

  pub charges_ask : ChargeAsks t.charges b.currency (row t.positions g) (row t.positions r) k
  charges_ask =
      record {
        giver = giver_asks;
        receiver = taker_asks;
        giver_code = code_below (row t.positions g) (sym (ap security_of (row_here t g u.giver)) ∙ meeting.giver.security);
        receiver_code = code_below (row t.positions r) (sym (ap security_of (row_here t r u.receiver)) ∙ meeting.taker.security);
        within = charge_within b s u.shape whole u.asks x c.ready;
      }

  pub holds_room : (to : ℕ) → to ≡ holding_at (account_of (row t.positions r)) s → get_or t.holdings to 0 + k < 2 ^ 64
  holds_room to e =
      let h = rw (← e) at (holding_within b s u.shape whole u.asks x c.ready (row t.positions r)) in
      omega (arith, giver_asks.shares, giver_asks.within)

  -- the giver owes less behind it
  pub less_owed : (j : ℕ) (p q : Position) → j ≡ k → p ≡ without (row t.positions g) j → owes d s (row (set (set t.positions g p) r q) g) < owes d s (row t.positions g)
  less_owed j p q ej ep =
      let e : row (set (set t.positions g p) r q) g ≡ p =
      get_or-set_other (set t.positions g p) r g q no_position (λ h. meeting.apart (sym h))
      ∙ get_or-set_same t.positions g p no_position (omega (arith, length-take n t.positions, meeting.giver_row)) in
      omega (arith, ap (owes d s) (e ∙ ep), owes_less d s (row t.positions g) j, u.size, u.some)

  -- the tables after the meeting: both records without the part, which is of j = k shares; holdings moved; both parts charged
  module _ (to j : ℕ) (p q : Position) (held : List ℕ) (charges : List Mils) (eto : to ≡ holding_at (account_of (row t.positions r)) s) (ej : j ≡ k)
      (ep : p ≡ without (row t.positions g) j) (eq : q ≡ without (row t.positions r) j) (eh : held ≡ moved t.holdings at to k)
      (ec : charges ≡ charged_parts t.charges b.currency (row t.positions g) (row t.positions r) j) where
    abbrev next : Tables
    next = record { positions = set (set t.positions g p) r q; holdings = held; charges = charges; left = t.left - k }

    records_are : take n (set (set t.positions g p) r q) ≡ without_both (take n t.positions) g r k
    unfolding without_both
    records_are =
        take-set-lt n (set t.positions g p) r q u.receiver
        ∙ ap (λ (l : List Position). set l r q) (take-set-lt n t.positions g p u.giver)
        ∙ rw (ep, eq, ej, row_here t g u.giver, row_here t r u.receiver)

    holdings_are : held ≡ moved t.holdings (holding_at (account_of (row x.records g)) s) (holding_at (account_of (row x.records r)) s) k
    holdings_are = eh ∙ rw (u.place, eto, row_here t g u.giver, row_here t r u.receiver)

    charges_are : charges ≡ charged_both b t.charges (row x.records g) (row x.records r) k
    unfolding charged_both charged_to charged_parts charged_part currency_of
    charges_are = ec ∙ rw (ej, row_here t g u.giver, row_here t r u.receiver)

    shares_are : whole - (t.left - k) ≡ x.shares + k
    shares_are = omega (arith, within_left, c.some)

    met_is : met_at b s x g r k ≡ walking n whole next
    unfolding met_at
    met_is = λ i. record { records = sym records_are i; holdings = sym holdings_are i; charges = sym charges_are i; shares = sym shares_are i }

    met_records : without_both (take n t.positions) g r k ≡ take n next.positions
    met_records = sym records_are

    pub inner_met : Inner b s whole g r next
    inner_met =
        record {
          receiver = c.receiver;
          some = omega (arith, c.some);
          ready = subst (Ready b) met_is (ready_met b s u.shape whole u.asks x g r k meeting c.ready);
          apart = subst (Apart d s) met_records (apart_still x.records g r k meeting.giver_row meeting.taker_row meeting.apart d s c.apart);
          full = subst (λ (ps : List Position). Full d s ps r) met_records (full_still x.records g r k meeting.giver_row meeting.taker_row meeting.apart d s r c.full);
          rest = rest_met b s hs g r x (walking n whole next) u.receiver (met ∙ met_is)
              (subst (λ (y : Walking). size_of d s y g r ≡ 0) met_is (none_more b s hs x g r k meeting (c.ready.steady.wide ∙ u.shape.holdings) c.apart size_is))
              ∙ c.rest;
        }
