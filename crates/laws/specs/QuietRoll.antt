-- The roll of a quiet day. Quiet is a day on which no trade was entered and on whose next day no record falls due. Then nothing is netted and
-- nothing offset: charges are set to zero, the day goes up by one, and every other field stays. The last record tells whether one falls due.
use Rattle.std.specs.Prelude.{◌≡◌, Bool, true, false, not, ◌&&◌, ℕ, zero, suc, ◌+◌, ◌*◌, ◌-◌, eqb, ltb, get_or, pos}
use Rattle.std.proofs.Math.Path.{refl, sym, ap, ap₂}
use Rattle.std.proofs.Common.{◌∙◌, arith}
use mathlib.Core.List.{List, [], ◌∷◌, ◌++◌, append-nil}
use Rattle.std.proofs.Math.ListN.{length, replicate}
use borrow.Author.Tests.{ltb-true, lt-ltb, le-ltb, leb-true, le-leb, ne_eqb, eqb-true}
use Rattle.units.specs.Units.{mils}
use Rattle.units.specs.declared.Mils.{Mils}
use Rattle.rules.specs.Words.{all, keep}
use Rattle.rules.specs.Bounds.{accounts, currencies, most_trades}
use Rattle.rules.specs.Book.{quantity_of, is_zero, due_of, no_position, no_trade, open_of, list_of, with_open, with_list, with_charges, with_day}
use Rattle.rules.specs.Sound.{ascends, ascends_from, is_position, is_due, due_nonzero}
use Rattle.rules.specs.Nets.{net, net_of, nets}
use Rattle.rules.specs.Roll.{Offset, offset_all, remains, offset, uncharged, netted, emptied, next_day, rolled, open_plus_nets}
use Rattle.rules.specs.declared.Position.{Position}
use Rattle.rules.specs.declared.Trade.{Trade}
use Rattle.rules.specs.declared.Book.{Book}
use Rattle.laws.specs.Cases.{true_false, both_hold, and_hold}
use Rattle.laws.specs.All.{all_so, all_and}
use Rattle.laws.specs.Keeping.{keep_whole, keep_nothing}
use Rattle.laws.specs.Numbers.{number_order}
use Rattle.laws.specs.NetLaws.{net_of_own}
use Rattle.laws.specs.NetList.{nets_all, nets_positions}
use Rattle.laws.specs.SoundParts.{SoundBook}
use Rattle.laws.specs.Shaped.{Shaped}
use Rattle.laws.specs.Blanks.{open_long, positions_whole, trades_whole}
use Rattle.laws.specs.DueDays.{is_older, is_newly, is_later}
use Rattle.laws.specs.OffsetKept.{older_of, newly_of, later_of, met_of, left_of}
use Rattle.laws.specs.Rolling.{rolling, rolling_day, rolling_open, new_nets}

-- no trade was entered, and every record is due by the day: none falls due on the next, beyond which no due day lies
unfoldable pub is_quiet : Book → Bool
is_quiet k = eqb k.entries 0 && all (is_due k.day) (open_of k)

-- ── records that ascend are due by a day exactly if the last is ──

-- a record is due by the day if the next one is
one_earlier : (d : ℕ) (p q : Position) (ps : List Position) → ascends (p ∷ q ∷ ps) ≡ true → is_due d q ≡ true → is_due d p ≡ true
unfolding ascends ascends_from is_due
one_earlier d p q ps a e =
    let l = ltb-true p.number q.number (both_hold (ltb p.number q.number) (ascends_from q.number ps) a).0 in
    le-leb (due_of p) d (omega (arith, number_order p q l, leb-true (due_of q) d e))

pub due_by_last : (d n : ℕ) (ps : List Position) → ascends ps ≡ true → length ps ≡ suc n → is_due d (get_or ps n no_position) ≡ true
    → all (is_due d) ps ≡ true
unfolding all ascends ascends_from
due_by_last d n [] a l e = absurd (omega arith)
due_by_last d zero (p ∷ []) a l e = and_hold e refl
due_by_last d (suc n) (p ∷ []) a l e = absurd (omega arith)
due_by_last d zero (p ∷ q ∷ ps) a l e = absurd (omega arith)
due_by_last d (suc n) (p ∷ q ∷ ps) a l e =
    let behind = due_by_last d n (q ∷ ps) (both_hold (ltb p.number q.number) (ascends_from q.number ps) a).1 (omega arith) e in
    and_hold (one_earlier d p q ps a (both_hold (is_due d q) (all (is_due d) ps) behind).0) behind

-- ── nothing is netted ──

pub no_position_lem : (due a s : ℕ) → is_position (net_of due [] a s) ≡ false
unfolding net_of net keep is_position is_zero
no_position_lem due a s = refl

pub no_nets : (due : ℕ) → nets due [] ≡ []
no_nets due =
    let none = nets_all due [] (λ p. not (is_position p)) (λ a s ha hs. ap not (ap is_position (net_of_own due [] a s) ∙ no_position_lem due a s)) in
    sym (keep_whole is_position (nets due []) (nets_positions due [])) ∙ keep_nothing is_position (nets due []) none

-- ── nothing is offset ──

-- a book whose records are all older than its day, and have shares
module _ (b : Book) (older : all (is_older b.day) (open_of b) ≡ true) (stay : all (remains b.day) (open_of b) ≡ true) where
  all_older : older_of b ≡ open_of b
  all_older = keep_whole (is_older b.day) (open_of b) older

  none_newly : newly_of b ≡ []
  none_newly =
      keep_nothing (is_newly b.day) (open_of b)
      (all_so (is_older b.day) (λ p. not (is_newly b.day p)) (open_of b)
      (λ p e. ap not (ne_eqb (due_of p) b.day (λ z. omega (arith, ltb-true (due_of p) b.day e)))) older)

  none_later : later_of b ≡ []
  none_later =
      keep_nothing (is_later b.day) (open_of b)
      (all_so (is_older b.day) (λ p. not (is_later b.day p)) (open_of b)
      (λ p e. ap not (le-ltb b.day (due_of p) (omega (arith, ltb-true (due_of p) b.day e)))) older)

  none_met : met_of b ≡ record { older = open_of b; newly = []; charges = b.charges }
  unfolding met_of offset_all
  none_met = rw (none_newly, all_older) refl

  all_left : left_of b ≡ open_of b
  unfolding left_of
  all_left = rw (none_met, none_later, append-nil (open_of b)) (keep_whole (remains b.day) (open_of b) stay)

  pub not_offset : offset b ≡ with_charges (with_open b (open_of b)) b.charges
  unfolding offset met_of left_of
  not_offset = ap₂ (λ (ps : List Position) (cs : List Mils). with_charges (with_open b ps) cs) all_left (ap (λ (x : Offset). x.charges) none_met)

-- ── the roll ──

-- what stayed by one test stays by another, since it is the second half that tells
half_tells : (a b z : Bool) → a ≡ true → not (a && z) ≡ true → not (b && z) ≡ true
half_tells false b z e f = true_false e refl
half_tells true b true e f = true_false f refl
half_tells true true false e f = refl
half_tells true false false e f = refl

module _ (k : Book) (c : SoundBook k) (s : Shaped k) (quiet : is_quiet k ≡ true) where
  no_entry : k.entries ≡ 0
  unfolding is_quiet
  no_entry = eqb-true k.entries 0 (both_hold (eqb k.entries 0) _ quiet).0

  all_due : all (is_due k.day) (open_of k) ≡ true
  unfolding is_quiet
  all_due = (both_hold (eqb k.entries 0) (all (is_due k.day) (open_of k)) quiet).1

  no_list : list_of k ≡ []
  unfolding list_of
  no_list = rw no_entry refl

  no_new_nets : new_nets k ≡ []
  no_new_nets = rw no_list (no_nets (k.day + 2))

  -- refusal 10 looks at the records alone
  pub quiet_count : open_plus_nets k ≡ k.records
  unfolding open_plus_nets
  quiet_count = rw no_new_nets (omega arith)

  same_open : open_of (rolling k) ≡ open_of k
  same_open = rolling_open k ∙ rw no_new_nets (append-nil (open_of k))

  -- with the next day they are older, and stay
  rolling_older : all (is_older (rolling k).day) (open_of (rolling k)) ≡ true
  unfolding is_due
  rolling_older =
      rw (same_open, rolling_day k)
      (all_so (is_due k.day) (is_older (k.day + 1)) (open_of k) (λ p e. lt-ltb (due_of p) (k.day + 1) (omega (arith, leb-true (due_of p) k.day e))) all_due)

  has_shares : (p : Position) → is_due k.day p && due_nonzero k.day p ≡ true → remains (k.day + 1) p ≡ true
  unfolding remains due_nonzero
  has_shares p e =
      let x = both_hold (is_due k.day p) (due_nonzero k.day p) e in
      half_tells (is_due k.day p) (is_due (k.day + 1) p) (is_zero (quantity_of p)) x.0 x.1

  rolling_stay : all (remains (rolling k).day) (open_of (rolling k)) ≡ true
  rolling_stay =
      rw (same_open, rolling_day k)
      (all_so (λ p. is_due k.day p && due_nonzero k.day p) (remains (k.day + 1)) (open_of k) has_shares
      (all_and (is_due k.day) (due_nonzero k.day) (open_of k) all_due c.due_nonzero_lem))

  pub quiet_rolled : rolled k ≡ next_day (uncharged k)
  unfolding rolled rolling next_day emptied netted uncharged with_day with_list with_open with_charges
  quiet_rolled =
      let n = open_long k c.records s in
      let e = positions_whole k c.records s in
      let f = ap (λ (ts : List Trade). ts ++ replicate (most_trades - length ts) no_trade) (sym no_list) ∙ sym (trades_whole k c.trades s) in
      not_offset (rolling k) rolling_older rolling_stay
      ∙ ap (λ (ps : List Position). with_charges (with_open (rolling k) ps) (rolling k).charges) same_open
      ∙ (λ i.
      record {
        day = k.day + 1;
        currency = k.currency;
        records = n i;
        positions = sym e i;
        holdings = k.holdings;
        charges = replicate (accounts * currencies) (mils (pos 0));
        entries = sym no_entry i;
        trades = f i;
      })
