-- The two loops of the walk, over the bytes: at every turn these are a book whose tables are those of the walk (Loops), and beside these nothing is altered.
use Rattle.std.specs.Prelude.{◌≡◌, ℕ, ◌+◌, ◌-◌, min, ◌<◌, ◌≤◌, length, get_or}
use Rattle.std.proofs.Math.Path.{refl, ap, subst}
use Rattle.std.proofs.Common.{sym, ◌∙◌}
use mathlib.Core.List.{List}
use native.Mathlib.Omega.{arith}
use Rattle.rules.specs.Book.{account_of, holding_at}
use Rattle.rules.specs.Layout.{book_length, book_of}
use Rattle.rules.specs.Parts.{without}
use Rattle.rules.specs.Run.{moved}
use Rattle.rules.specs.declared.Position.{Position}
use Rattle.rules.specs.declared.Book.{Book}
use Rattle.laws.specs.Rows.{row}
use Rattle.laws.specs.Walk.{owes, wants, walked}
use Rattle.laws.specs.SoundRun.{sound_runnable}
use Rattle.laws.specs.Shaped.{Shaped}
use Rattle.laws.specs.SoundBytes.{shaped}
use Rattle.settling.specs.Charges.{charged_parts, asks_same}
use Rattle.settling.specs.Loops.{tables_of, walking, WalkAsks, Outer, Inner, outer_start, inner_start, inner_next, outer_spent, outer_next, outer_end, left_by_label}
use Rattle.settling.specs.Turns.{Turn, inner_met, less_owed, within_left, charges_ask, holds_enough, holds_room}
use Rattle.settling.specs.Meetings.{MeetAsks, met_in, Beside, beside_start, beside_met}

-- the book that the walk began with; its day and its count of records, as the code has them
pub record Started (b : Book) (s whole d n : ℕ) : Type 0 where
  pub shape : Shaped b
  pub asks : WalkAsks b s whole
  pub day : d ≡ b.day
  pub count : n ≡ b.records

-- what a record can give, of the record as the code has it
pub gives_same : {x : ℕ} {p q : Position} (d s : ℕ) (hs : List ℕ) → x ≡ min (owes d s p) (get_or hs (holding_at (account_of p) s) 0) → p ≡ q
    → x ≡ min (owes d s q) (get_or hs (holding_at (account_of q) s) 0)
gives_same d s hs e f = e ∙ ap (λ (p : Position). min (owes d s p) (get_or hs (holding_at (account_of p) s) 0)) f

-- between two givers, and while row g gives
pub record Outside (b : Book) (s whole g r : ℕ) (bs : List ℕ) (left : ℕ) : Type 0 where
  pub long : length bs ≡ book_length
  pub beside : Beside b (book_of bs)
  pub outer : Outer b s whole g r (tables_of (book_of bs) left)

pub record Inside (b : Book) (s whole g r : ℕ) (bs : List ℕ) (left : ℕ) : Type 0 where
  pub long : length bs ≡ book_length
  pub beside : Beside b (book_of bs)
  pub inner : Inner b s whole g r (tables_of (book_of bs) left)

-- what the walk promises
pub record Ended (b : Book) (s whole : ℕ) (bs : List ℕ) (left : ℕ) : Type 0 where
  pub tables : walking b.records whole (tables_of (book_of bs) left) ≡ walked b s
  pub some : left ≤ whole
  pub beside : Beside b (book_of bs)

pub outside_start : (bs : List ℕ) (s whole : ℕ) → length bs ≡ book_length → WalkAsks (book_of bs) s whole → Outside (book_of bs) s whole 0 0 bs whole
outside_start bs s whole l asks =
    record { long = l; beside = beside_start (book_of bs); outer = outer_start (book_of bs) s (shaped bs) whole asks (tables_of (book_of bs) whole) refl refl refl refl }

module _ {b : Book} {s whole d n : ℕ} (st : Started b s whole d n) (g r : ℕ) (bs : List ℕ) (left : ℕ) where
  abbrev giver : Position
  giver = row (book_of bs).positions g

  abbrev receiver : Position
  receiver = row (book_of bs).positions r

  abbrev held : ℕ
  held = get_or (book_of bs).holdings (holding_at (account_of giver) s) 0

  -- ── from giver to giver, and from receiver to receiver ──

  pub inside_start : g < n → Outside b s whole g r bs left → Inside b s whole g r bs left
  inside_start h c =
      record { long = c.long; beside = c.beside; inner = inner_start b s st.shape whole st.asks g r (tables_of (book_of bs) left) (omega (arith, st.count)) c.outer }

  -- a receiver that wants nothing is passed over
  pub inside_next : r < n → wants d s receiver ≡ 0 → Inside b s whole g r bs left → Inside b s whole g (r + 1) bs left
  inside_next h z c =
      record {
        long = c.long;
        beside = c.beside;
        inner = inner_next b s st.shape whole st.asks g r (tables_of (book_of bs) left) (omega (arith, st.count)) (ap (λ (e : ℕ). wants e s receiver) (sym st.day) ∙ z) c.inner;
      }

  -- nobody wants any more, or this giver has nothing left to give
  pub outside_next : g < n → n ≤ r → Inside b s whole g r bs left → Outside b s whole (g + 1) r bs left
  outside_next h l c =
      record {
        long = c.long;
        beside = c.beside;
        outer = outer_next b s st.shape whole st.asks g r (tables_of (book_of bs) left) (omega (arith, st.count)) (omega (arith, st.count)) c.inner;
      }

  pub outside_spent : g < n → min (owes d s giver) held ≡ 0 → Inside b s whole g r bs left → Outside b s whole (g + 1) r bs left
  outside_spent h z c =
      record {
        long = c.long;
        beside = c.beside;
        outer = outer_spent b s st.shape whole st.asks g r (tables_of (book_of bs) left) (omega (arith, st.count)) (holding_at (account_of giver) s) refl
            (ap (λ (e : ℕ). min (owes e s giver) held) (sym st.day) ∙ z) c.inner;
      }

  -- no giver is left
  pub outside_end : n ≤ g → Outside b s whole g r bs left → Ended b s whole bs left
  outside_end h c =
      record {
        tables = outer_end b s st.shape whole st.asks g r (tables_of (book_of bs) left) (omega (arith, st.count)) c.outer;
        some = c.outer.some;
        beside = c.beside;
      }

  -- ── a meeting of k shares ──

  module _ (k : ℕ) (hg : g < n) (hr : r < n) (size : k ≡ min (min (owes d s giver) held) (wants d s receiver)) (some : 0 < k) (c : Inside b s whole g r bs left) where
    turn : Turn b s whole g r (tables_of (book_of bs) left) (holding_at (account_of giver) s) k
    turn =
        record {
          shape = st.shape;
          asks = st.asks;
          giver = omega (arith, st.count);
          receiver = omega (arith, st.count);
          inner = c.inner;
          place = refl;
          size = size ∙ ap (λ (e : ℕ). min (min (owes e s giver) held) (wants e s receiver)) st.day;
          some = some;
        }

    few : n ≤ 1024
    few = omega (arith, st.count, (sound_runnable b st.asks.ok).few)

    pub meet_asks : MeetAsks (book_of bs) s g r k
    meet_asks =
        record {
          security = st.asks.security;
          giver = omega (arith, few);
          receiver = omega (arith, few);
          charges = asks_same refl c.beside.currency refl refl refl (charges_ask turn);
          held = holds_enough turn;
          room = holds_room turn (holding_at (account_of receiver) s) refl;
        }

    pub meet_left : k ≤ left
    meet_left = within_left turn

    module _ (new : List ℕ) (long : length new ≡ length bs) (e : book_of new ≡ met_in (book_of bs) s g r k) where
      pub inside_met : Inside b s whole g r new (left - k)
      unfolding met_in
      inside_met =
          record {
            long = long ∙ c.long;
            beside = subst (Beside b) (sym e) (beside_met b (book_of bs) s g r k (omega (arith, st.count)) (omega (arith, st.count)) c.beside);
            inner = subst (λ (j : Book). Inner b s whole g r (tables_of j (left - k))) (sym e)
                (inner_met turn (holding_at (account_of receiver) s) k (without giver k) (without receiver k)
                (moved (book_of bs).holdings (holding_at (account_of giver) s) (holding_at (account_of receiver) s) k)
                (charged_parts (book_of bs).charges (book_of bs).currency giver receiver k) refl refl refl refl refl
                (ap (λ (l : List ℕ). charged_parts (book_of bs).charges l giver receiver k) c.beside.currency));
          }

      -- the giver owes less behind it
      pub meet_less : owes d s (row (book_of new).positions g) < owes d s giver
      unfolding met_in
      meet_less =
          let less = less_owed turn k (without giver k) (without receiver k) refl refl in
          omega (
            arith,
            ap (λ (j : Book). owes d s (row j.positions g)) e,
            ap (λ (x : ℕ). owes x s giver) st.day,
            ap (λ (x : ℕ). owes x s (row (met_in (book_of bs) s g r k).positions g)) st.day,
          )

      -- nothing is left to give
      pub label_end : left - k ≡ 0 → Ended b s whole new (left - k)
      label_end z =
          record {
            tables = left_by_label b s st.shape whole st.asks g r (tables_of (book_of new) (left - k)) z inside_met.inner;
            some = inside_met.inner.some;
            beside = inside_met.beside;
          }
