-- The charges of a meeting, as the code makes them: both records' parts, each at the place of its account and currency.
use Rattle.std.specs.Prelude.{◌≡◌, List, ℕ, ◌+◌, ◌*◌, ◌<◌, ◌≤◌, ◌^◌, length, get_or, set, ℤ, pos, nat_abs, ◌+ℤ◌}
use Rattle.std.proofs.Common.{ap, ◌∙◌, arith, get_or-set_same, get_or-set_other}
use Rattle.std.proofs.Math.Decide.{ℕ_discrete, dec_lt}
use Rattle.std.proofs.Math.Seq.{set_out}
use Rattle.units.specs.Units.{mils_of, mils, most_mils}
use Rattle.units_rounded.specs.PartLaws.{PartAsks}
use Rattle.units.specs.declared.Mils.{Mils}
use Rattle.rules.specs.Bounds.{most_at_stake}
use Rattle.rules.specs.Book.{quantity_of, money_of, account_of, security_of, charge_at, charged}
use Rattle.rules.specs.Parts.{part_money}
use Rattle.rules.specs.declared.Position.{Position}

-- what a meeting of k shares asks: both records have as many, their security has a currency, and no charge is near 64 bits
pub record ChargeAsks (cs : List Mils) (codes : List ℕ) (p q : Position) (k : ℕ) : Type 0 where
  pub giver : PartAsks (money_of p) (quantity_of p) k
  pub receiver : PartAsks (money_of q) (quantity_of q) k
  pub giver_code : get_or codes (security_of p) 0 < 4
  pub receiver_code : get_or codes (security_of q) 0 < 4
  pub within : (x : ℕ) → x < 256 → nat_abs (mils_of (get_or cs x (mils (pos 0)))) ≤ most_at_stake

-- of what the code has, by equations
pub asks_same : {cs cs' : List Mils} {l l' : List ℕ} {p p' q q' : Position} {k k' : ℕ} → cs' ≡ cs → l' ≡ l → p' ≡ p → q' ≡ q → k' ≡ k
    → ChargeAsks cs l p q k → ChargeAsks cs' l' p' q' k'
asks_same ec el ep eq ek a = rw (ec, el, ep, eq, ek) a

-- the charges with the money of k shares of a record
unfoldable pub charged_part : List Mils → List ℕ → Position → ℕ → List Mils
charged_part cs codes p k = charged cs (charge_at (account_of p) (get_or codes (security_of p) 0)) (part_money p k)

unfoldable pub charged_parts : List Mils → List ℕ → Position → Position → ℕ → List Mils
charged_parts cs codes p q k = charged_part (charged_part cs codes p k) codes q k

-- a charge set anew, at the place that the code found
pub charged_is : (cs : List Mils) (codes : List ℕ) (p : Position) (k x : ℕ) (v : Mils)
    → x ≡ account_of p * 4 + get_or codes (security_of p) 0 → mils_of v ≡ mils_of (get_or cs x (mils (pos 0))) +ℤ part_money p k
    → set cs x v ≡ charged_part cs codes p k
unfolding charged_part charged charge_at
charged_is cs codes p k x v ex ev =
    ap (λ (z : ℤ). set cs x (mils z)) ev ∙ ap (λ (y : ℕ). set cs y (mils (mils_of (get_or cs y (mils (pos 0))) +ℤ part_money p k))) ex

-- one charge is set: all are still within a bound
pub set_within : (cs : List Mils) (i : ℕ) (v : Mils) (n : ℕ) → nat_abs (mils_of v) ≤ n
    → (x : ℕ) → nat_abs (mils_of (get_or cs x (mils (pos 0)))) ≤ n → nat_abs (mils_of (get_or (set cs i v) x (mils (pos 0)))) ≤ n
set_within cs i v n h x a = go (ℕ_discrete x i) (dec_lt i (length cs))
  where
    go : Dec (x ≡ i) → Dec (i < length cs) → nat_abs (mils_of (get_or (set cs i v) x (mils (pos 0)))) ≤ n
    go (yes e) (yes l) = rw e (rw (get_or-set_same cs i v (mils (pos 0)) l) h)
    go (yes e) (no l) = rw (set_out cs i v (omega arith)) a
    go (no e) l = rw (get_or-set_other cs i x v (mils (pos 0)) e) a

-- ── both records of a meeting ──

module _ (cs : List Mils) (codes : List ℕ) (p q : Position) (k : ℕ) (a : ChargeAsks cs codes p q k) (x : ℕ) (hx : x < 256) where
  pub first_fits : nat_abs (mils_of (get_or cs x (mils (pos 0)))) + nat_abs (money_of p) < 2 ^ 63
  first_fits = omega (arith, a.within x hx, a.giver.money)

  module _ (v : Mils) (small : nat_abs (mils_of v) ≤ nat_abs (mils_of (get_or cs x (mils (pos 0)))) + nat_abs (money_of p)) (y : ℕ) (hy : y < 256) where
    pub second_fits : nat_abs (mils_of (get_or (set cs x v) y (mils (pos 0)))) + nat_abs (money_of q) < 2 ^ 63
    second_fits =
        omega (
          arith,
          a.receiver.money,
          set_within cs x v (most_at_stake + most_mils) (omega (arith, a.within x hx, a.giver.money)) y (omega (arith, a.within y hy)),
        )

-- the giver's charge is set, then the receiver's
pub both_charged : (cs : List Mils) (codes : List ℕ) (p q : Position) (k x y : ℕ) (v w : Mils)
    → x ≡ account_of p * 4 + get_or codes (security_of p) 0 → mils_of v ≡ mils_of (get_or cs x (mils (pos 0))) +ℤ part_money p k
    → y ≡ account_of q * 4 + get_or codes (security_of q) 0 → mils_of w ≡ mils_of (get_or (set cs x v) y (mils (pos 0))) +ℤ part_money q k
    → set (set cs x v) y w ≡ charged_parts cs codes p q k
unfolding charged_parts
both_charged cs codes p q k x y v w ex ev ey ew =
    charged_is (set cs x v) codes q k y w ey ew ∙ ap (λ (l : List Mils). charged_part l codes q k) (charged_is cs codes p k x v ex ev)
