-- The two loops of the walk, over the bytes: at every turn these are a book whose rows and charges are those of the walk (Loops), and beside these nothing is
-- altered.
use Rattle.std.specs.Prelude.{◌≡◌, false, ℕ, ◌+◌, ◌*◌, ◌-◌, ◌<◌, ◌≤◌, ◌^◌, length, set, pos, nat_abs, ◌+ℤ◌}
use Rattle.std.proofs.Math.Path.{refl, sym, ap, ap₂, subst}
use Rattle.std.proofs.Common.{◌∙◌, arith, get_or-take, length-take-le}
use Rattle.std.proofs.Math.Bool.{cond}
use mathlib.Core.List.{List}
use Rattle.std.proofs.Math.ListN.{get_or}
use Rattle.units.specs.Units.{mils_of, mils}
use Rattle.units.specs.declared.Mils.{Mils}
use Rattle.rules.specs.Bounds.{accounts, currencies, most_records}
use Rattle.rules.specs.Book.{quantity_of, money_of, is_zero, account_of, security_of, no_position, open_of, currency_of, charge_at, with_charges}
use Rattle.rules.specs.Layout.{book_length, book_of}
use Rattle.rules.specs.Sound.{same_pair}
use Rattle.rules.specs.declared.Position.{Position}
use Rattle.rules.specs.declared.Book.{Book}
use Rattle.laws.specs.Rows.{row}
use Rattle.book.specs.Views.{positions_long, charges_long}
use Rattle.offsetting.specs.Walk.{Walking, in_use, pass, whole, WalkAsks}
use Rattle.offsetting.specs.Turns.{place_of, number_pair, table_meets, table_passes, table_charged}
use Rattle.offsetting.specs.Loops.{Inner, table_asks, inner_next, Outer, outer_currency, outer_room, inner_start, outer_next, outer_done, due_few, outer_start}
use Rattle.offsetting.specs.Rows.{RowsAsk, meeting_in, met_in, Beside, beside_start, beside_met, beside_charged, Walked}

-- ── what the two loops keep ──

-- the book that the walk began with, and the codes as the code has them
pub record Started (b : Book) (older due : ℕ) (codes : List ℕ) : Type 0 where
  pub asks : WalkAsks b older due
  pub many : length (open_of b) ≡ b.records
  pub codes_are : codes ≡ b.currency

-- between two newly due rows
pub record Outside (b : Book) (older due i : ℕ) (bs : List ℕ) : Type 0 where
  pub long : length bs ≡ book_length
  pub beside : Beside b (book_of bs)
  pub outer : Outer b older due i (in_use b.records (book_of bs))

-- while row i, whose record was `fresh`, meets the older ones, of which some are left; w is what comes of it
pub record Inside (b : Book) (older i : ℕ) (fresh : Position) (at left : ℕ) (w : Walking) (bs : List ℕ) : Type 0 where
  pub long : length bs ≡ book_length
  pub beside : Beside b (book_of bs)
  pub few : b.records ≤ most_records
  pub below : i < b.records
  pub behind : older ≤ i
  pub charge : at < accounts * currencies
  pub inner : Inner b older i fresh.number at left (in_use b.records (book_of bs)) w

pub started : (bs : List ℕ) (older due : ℕ) (codes : List ℕ) → WalkAsks (book_of bs) older due → codes ≡ (book_of bs).currency → Started (book_of bs) older due codes
unfolding open_of
started bs older due codes asks e =
    record { asks = asks; many = length-take-le (book_of bs).records (book_of bs).positions (omega (arith, positions_long bs, asks.few)); codes_are = e }

pub outside_start : (bs : List ℕ) (older due : ℕ) (codes : List ℕ) → length bs ≡ book_length → Started (book_of bs) older due codes → Outside (book_of bs) older due older bs
unfolding open_of
outside_start bs older due codes l st =
    record { long = l; beside = beside_start (book_of bs); outer = outer_start (book_of bs) older due st.asks st.many }

-- ── a newly due row ──

module _ {b : Book} {older due : ℕ} {codes : List ℕ} (st : Started b older due codes) (i : ℕ) (bs : List ℕ) (hi : i < due) (c : Outside b older due i bs) where
  abbrev x : Walking
  x = in_use b.records (book_of bs)

  abbrev cs : List Mils
  cs = (book_of bs).charges

  due_within : due ≤ b.records
  due_within = due_few b older due st.asks st.many

  in_use_lem : i < b.records
  in_use_lem = omega (arith, due_within)

  pub row_below : i < most_records
  row_below = omega (arith, in_use_lem, st.asks.few)

  module _ (p : Position) (ep : p ≡ get_or (book_of bs).positions i no_position) where
    here : row x.rows i ≡ p
    here = get_or-take b.records (book_of bs).positions i no_position in_use_lem ∙ sym ep

    pub code_below : get_or codes (security_of p) 0 < currencies
    unfolding currency_of
    code_below =
        rw st.codes_are
        (subst (λ (q : Position). currency_of b (security_of q) < currencies) here (outer_currency b older due i x due_within st.asks.few hi c.outer))

    module _ (at : ℕ) (ea : at ≡ account_of p * 4 + get_or codes (security_of p) 0) (below : at < accounts * currencies) where
      placed : place_of b (row x.rows i) ≡ at
      unfolding charge_at currency_of
      placed = ap (place_of b) here ∙ ap (λ (l : List ℕ). account_of p * 4 + get_or l (security_of p) 0) (sym st.codes_are) ∙ sym ea

      module _ (m : Mils) (em : m ≡ get_or cs at (mils (pos 0))) where
        pub whole_room : nat_abs (mils_of m) + nat_abs (money_of p) < 2 ^ 63
        whole_room = rw em (rw (placed, here) at (outer_room b older due i x due_within st.asks.few hi c.outer))

        module _ (v : Mils) (ev : v ≡ cond (is_zero (quantity_of p)) (mils (mils_of m +ℤ money_of p)) m) (new : List ℕ) (long : length new ≡ length bs)
            (e : book_of new ≡ with_charges (book_of bs) (set cs at v)) where
          charged_is : whole b i x ≡ in_use b.records (book_of new)
          unfolding with_charges
          charged_is =
              table_charged b b.records (book_of bs).positions cs i at in_use_lem placed (omega (arith, charges_long bs)) v
              (ev ∙ ap₂ (λ (q : Position) (d : Mils). cond (is_zero (quantity_of q)) (mils (mils_of d +ℤ money_of q)) d) ep em)
              ∙ ap (in_use b.records) (sym e)

          -- it is charged whole if it has no shares, and begins
          pub inside_start : Inside b older i p at older (pass b i older 0 (whole b i x)) new
          inside_start =
              record {
                long = long ∙ c.long;
                beside = beside_charged b (book_of bs) (book_of new) at v e c.beside;
                few = st.asks.few;
                below = in_use_lem;
                behind = c.outer.behind;
                charge = below;
                inner = inner_start b older due i x due_within st.asks.few hi c.outer p.number at (in_use b.records (book_of new))
                    (ap (λ (q : Position). q.number) here) placed charged_is;
              }

  -- it has met all older rows
  pub outside_next : (fresh : Position) (at left : ℕ) (new : List ℕ) → left ≡ 0 → Inside b older i fresh at left (pass b i older 0 (whole b i x)) new
      → Outside b older due (i + 1) new
  outside_next fresh at left new none end =
      record {
        long = end.long;
        beside = end.beside;
        outer = outer_next b older due i x due_within st.asks.few hi c.outer fresh.number at left (in_use b.records (book_of new)) none end.inner;
      }

-- all of them have
pub outside_end : (b : Book) (older due i : ℕ) (bs : List ℕ) → due ≤ i → Outside b older due i bs → Walked b (book_of bs)
outside_end b older due i bs h c =
    record { met = outer_done b older due i (in_use b.records (book_of bs)) h c.outer; beside = c.beside }

-- ── an older row, the first of those that are left ──

module _ (b : Book) (older i : ℕ) (fresh : Position) (at left : ℕ) (w : Walking) (bs : List ℕ) (some : 0 < left) (c : Inside b older i fresh at left w bs) where
  abbrev n : ℕ
  n = b.records

  abbrev ps : List Position
  ps = (book_of bs).positions

  abbrev j : ℕ
  j = older - left

  in_front_lem : j < n
  in_front_lem = omega (arith, c.inner.within, c.behind, c.below)

  at_below : at < length (book_of bs).charges
  at_below = omega (arith, c.charge, charges_long bs)

  -- of another account or security: it is passed
  pub inside_passed : (o : Position) → o ≡ get_or ps j no_position → same_pair fresh o ≡ false → Inside b older i fresh at (left - 1) w bs
  inside_passed o eo e =
      let number = sym (ap (λ (q : Position). q.number) (get_or-take n ps i no_position c.below)) ∙ c.inner.same in
      record {
        long = c.long;
        beside = c.beside;
        few = c.few;
        below = c.below;
        behind = c.behind;
        charge = c.charge;
        inner = inner_next b older i fresh.number at left (in_use n (book_of bs)) w c.few c.below c.inner c.behind some (in_use n (book_of bs))
            (table_passes b n ps (book_of bs).charges i at c.below c.inner.place at_below j in_front_lem
            (number_pair (row ps i) fresh (row ps j) number ∙ ap (same_pair fresh) (sym eo) ∙ e));
      }

  pub meet_asks : RowsAsk (book_of bs) i j at
  meet_asks =
      record {
        newly = omega (arith, c.below, c.few);
        older = omega (arith, in_front_lem, c.few);
        charge = c.charge;
        meeting = table_asks b older i fresh.number at left ps (book_of bs).charges w c.few c.below c.inner j in_front_lem;
      }

  pub inside_met : (new : List ℕ) → length new ≡ length bs → book_of new ≡ met_in (book_of bs) i j at → Inside b older i fresh at (left - 1) w new
  unfolding met_in
  inside_met new long e =
      record {
        long = long ∙ c.long;
        beside = subst (Beside b) (sym e) (beside_met b (book_of bs) i j at c.below in_front_lem c.beside);
        few = c.few;
        below = c.below;
        behind = c.behind;
        charge = c.charge;
        inner = inner_next b older i fresh.number at left (in_use n (book_of bs)) w c.few c.below c.inner c.behind some (in_use n (book_of new))
            (table_meets b n ps (book_of bs).charges i at c.below c.inner.place at_below j in_front_lem (meeting_in (book_of bs) i j at) refl
            ∙ ap (in_use n) (sym e));
      }
