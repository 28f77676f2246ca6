-- The day roll (document 01, "From trades to positions").
use Rattle.std.specs.Prelude.{Bool, cond, not, ◌&&◌, List, [], ◌∷◌, ◌++◌, ℕ, ◌+◌, ◌*◌, min, eqb, ltb, length, replicate, pos, nat_abs}
use Rattle.std.specs.Bool.{beq}
use Rattle.integers.specs.Signs.{is_negative}
use Rattle.units.specs.Units.{mils}
use Rattle.units.specs.declared.Mils.{Mils}
use Rattle.rules.specs.Words.{keep}
use Rattle.rules.specs.Bounds.{accounts, currencies}
use Rattle.rules.specs.Book.{quantity_of, money_of, is_zero, due_of, open_of, list_of, with_open, with_list, with_charges, with_day}
use Rattle.rules.specs.Sound.{due_nonzero, same_pair}
use Rattle.rules.specs.Nets.{nets}
use Rattle.rules.specs.Parts.{without, charged_to, charged_both}
use Rattle.rules.specs.declared.Position.{Position}
use Rattle.rules.specs.declared.Book.{Book}

-- ── offsetting ──

-- one receives, the other delivers
unfoldable pub opposite : Position → Position → Bool
opposite p o = not (is_zero (quantity_of p)) && (not (is_zero (quantity_of o)) && not (beq (is_negative (quantity_of p)) (is_negative (quantity_of o))))

-- per account and security: a newly due record p faces an older one o of the opposite direction
unfoldable pub faces : Position → Position → Bool
faces p o = same_pair p o && opposite p o

-- the smaller remaining quantity
unfoldable pub smaller : Position → Position → ℕ
smaller p o = min (nat_abs (quantity_of p)) (nat_abs (quantity_of o))

-- the older records by ascending number, a newly due one that meets them, and the charges
pub record Offsetting : Type 0 where
  pub older : List Position
  pub newly : Position
  pub charges : List Mils

-- what came of the records behind o, with o in front of them
unfoldable pub in_front : Position → Offsetting → Offsetting
in_front o x = record { older = o ∷ x.older; newly = x.newly; charges = x.charges }

-- While it faces opposite older records, take them by ascending number; the smaller remaining quantity is taken from both, each
-- part's money is charged.
unfoldable pub against : Book → Position → List Position → List Mils → Offsetting
against b p [] cs = record { older = []; newly = p; charges = cs }
against b p (o ∷ os) cs =
    let k = smaller p o in
    let met = in_front (without o k) (against b (without p k) os (charged_both b cs o p k)) in
    let passed = in_front o (against b p os cs) in
    cond (faces p o) met passed

-- A newly due record of 0 shares charges all its money and goes. Otherwise it meets the older ones.
unfoldable pub offset_one : Book → Position → List Position → List Mils → Offsetting
offset_one b p os cs =
    cond (is_zero (quantity_of p)) (record { older = os; newly = p; charges = charged_to b cs p (money_of p) }) (against b p os cs)

-- all newly due records, by ascending number
pub record Offset : Type 0 where
  pub older : List Position
  pub newly : List Position
  pub charges : List Mils

unfoldable pub offset_all : Book → List Position → List Position → List Mils → Offset
offset_all b [] os cs = record { older = os; newly = []; charges = cs }
offset_all b (p ∷ ps) os cs =
    let x = offset_one b p os cs in
    let r = offset_all b ps x.older x.charges in
    record { older = r.older; newly = x.newly ∷ r.newly; charges = r.charges }

-- A record at 0 shares goes; one that is not yet due keeps its money until it is.
unfoldable pub remains : ℕ → Position → Bool
remains day p = due_nonzero day p

-- Due positions are offset: the newly due of the day against the older ones; those not yet due stay.
unfoldable pub offset : Book → Book
offset b =
    let older = keep (λ p. ltb (due_of p) b.day) (open_of b) in
    let newly = keep (λ p. eqb (due_of p) b.day) (open_of b) in
    let later = keep (λ p. ltb b.day (due_of p)) (open_of b) in
    let x = offset_all b newly older b.charges in
    with_charges (with_open b (keep (remains b.day) (x.older ++ (x.newly ++ later)))) x.charges

-- ── the roll, in this order ──

-- charges are set to zero;
unfoldable pub uncharged : Book → Book
uncharged k = with_charges k (replicate (accounts * currencies) (mils (pos 0)))

-- today's nets become positions due in two days;
unfoldable pub netted : Book → Book
netted k = with_open k (open_of k ++ nets (k.day + 2) (list_of k))

-- the list is emptied;
unfoldable pub emptied : Book → Book
emptied k = with_list k []

-- the day goes up by one;
unfoldable pub next_day : Book → Book
next_day k = with_day k (k.day + 1)

-- due positions are offset.
unfoldable pub rolled : Book → Book
rolled k = offset (next_day (emptied (netted (uncharged k))))

-- Refusal 10 looks at open positions plus today's nets, counted before any offset.
unfoldable pub open_plus_nets : Book → ℕ
open_plus_nets k = k.records + length (nets (k.day + 2) (list_of k))
