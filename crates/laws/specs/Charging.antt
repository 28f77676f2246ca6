-- Charges: each account and currency has a place of its own, and what is charged for a record shows in its place alone. A record that
-- loses a part whose money is charged leaves charge and open money together as they were, and does not raise their sizes.
use Rattle.std.specs.Prelude.{◌≡◌, refl, Bool, true, false, ◌&&◌, List, ℕ, ◌+◌, ◌*◌, ◌<◌, ◌≤◌, eqb, length, get_or, set, ℤ, pos, nat_abs, ◌+ℤ◌}
use Rattle.std.proofs.Common.{sym, ◌∙◌, arith, length-set, get_or-set_same, get_or-set_other, eqb-true, eq-eqb, ne_eqb}
use Rattle.std.proofs.Math.Path.{ap}
use Rattle.std.proofs.Math.Bool.{cond}
use Rattle.std.proofs.Math.IntN.{+ℤ_idr}
use Rattle.std.proofs.lemmas.Bool.{eqb-false}
use Rattle.integers.specs.Sizes.{nat_abs_sum}
use Rattle.integers.specs.Linear.{zlin}
use Rattle.integers.specs.Sums.{sum_by, sum_by_set}
use Rattle.units.specs.Units.{mils_of, mils}
use Rattle.units.specs.declared.Mils.{Mils}
use Rattle.rules.specs.Words.{keep, total}
use Rattle.rules.specs.Bounds.{accounts, currencies}
use Rattle.rules.specs.Book.{quantity_of, money_of, account_of, security_of, currency_of, charge_at, charged, no_position}
use Rattle.rules.specs.Sound.{records_of, open_money}
use Rattle.rules.specs.Parts.{part_money, without, charged_to}
use Rattle.rules.specs.declared.Position.{Position}
use Rattle.rules.specs.declared.Book.{Book}
use Rattle.laws.specs.Rows.{row}
use Rattle.laws.specs.Cases.{by_test, and_hold}
use Rattle.laws.specs.Keeping.{keep_both}
use Rattle.laws.specs.Adding.{sum_by_keep, total_keep, total_set}
use Rattle.laws.specs.Numbers.{account_below}
use Rattle.laws.specs.Taking.{without_account, without_security, without_money, without_sizes}

-- ── each account and currency has a charge of its own ──

pub charge_at_below : (a c : ℕ) → a < accounts → c < currencies → charge_at a c < accounts * currencies
unfolding charge_at
charge_at_below a c h l = omega arith

pub charge_at_same : (a c b d : ℕ) → c < currencies → d < currencies → eqb (charge_at a c) (charge_at b d) ≡ eqb a b && eqb c d
unfolding charge_at
charge_at_same a c b d h l =
    by_test (eqb a b)
    (λ e. by_test (eqb c d)
    (λ f. eq-eqb (a * 4 + c) (b * 4 + d) (omega (arith, eqb-true a b e, eqb-true c d f)) ∙ sym (and_hold e f))
    (λ f. ne_eqb (a * 4 + c) (b * 4 + d) (λ z. eqb-false c d f (omega arith)) ∙ sym (rw (e, f))))
    (λ e. ne_eqb (a * 4 + c) (b * 4 + d) (λ z. eqb-false a b e (omega arith)) ∙ sym (rw e))

-- ── an amount charged ──

abbrev pub amount_at : List Mils → ℕ → ℤ
amount_at cs x = mils_of (get_or cs x (mils (pos 0)))

pub charged_length : (cs : List Mils) (x : ℕ) (m : ℤ) → length (charged cs x m) ≡ length cs
unfolding charged
charged_length cs x m = length-set cs x (mils (amount_at cs x +ℤ m))

-- at place x, it shows at x alone
pub charged_at : (cs : List Mils) (x y : ℕ) (m : ℤ) → x < length cs → amount_at (charged cs x m) y ≡ amount_at cs y +ℤ cond (eqb x y) m (pos 0)
unfolding charged
charged_at cs x y m h = by_test (eqb x y) here there
  where
    here : eqb x y ≡ true → amount_at (set cs x (mils (amount_at cs x +ℤ m))) y ≡ amount_at cs y +ℤ cond (eqb x y) m (pos 0)
    here e =
        rw (e, sym (eqb-true x y e)) (ap mils_of (get_or-set_same cs x (mils (amount_at cs x +ℤ m)) (mils (pos 0)) h))

    there : eqb x y ≡ false → amount_at (set cs x (mils (amount_at cs x +ℤ m))) y ≡ amount_at cs y +ℤ cond (eqb x y) m (pos 0)
    there e =
        rw e
        (ap mils_of (get_or-set_other cs x y (mils (amount_at cs x +ℤ m)) (mils (pos 0)) (λ z. eqb-false x y e (sym z)))
        ∙ sym (+ℤ_idr (amount_at cs y)))

-- ── the charge and the open money of an account in a currency ──

-- a record of account a in currency c
abbrev pub is_of : Book → ℕ → ℕ → Position → Bool
is_of b a c p = eqb (account_of p) a && eqb (currency_of b (security_of p)) c

abbrev pub charge_in : List Mils → ℕ → ℕ → ℤ
charge_in cs a c = amount_at cs (charge_at a c)

-- with their signs
abbrev pub worth : Book → ℕ → ℕ → List Mils → List Position → ℤ
worth b a c cs ps = charge_in cs a c +ℤ sum_by money_of (keep (is_of b a c) ps)

-- and by their sizes
abbrev pub weight : Book → ℕ → ℕ → List Mils → List Position → ℕ
weight b a c cs ps = nat_abs (charge_in cs a c) + total (λ p. nat_abs (money_of p)) (keep (is_of b a c) ps)

-- the open money that a sound book limits
pub open_money_lem : (b : Book) (ps : List Position) (a c : ℕ)
    → open_money b (records_of a ps) c ≡ total (λ p. nat_abs (money_of p)) (keep (is_of b a c) ps)
unfolding open_money records_of
open_money_lem b ps a c =
    ap (total (λ p. nat_abs (money_of p))) (keep_both (λ p. eqb (currency_of b (security_of p)) c) (λ p. eqb (account_of p) a) ps)

-- ── charged for a record ──

pub charged_long : (b : Book) (cs : List Mils) (p : Position) (m : ℤ) → length (charged_to b cs p m) ≡ length cs
unfolding charged_to
charged_long b cs p m = charged_length cs (charge_at (account_of p) (currency_of b (security_of p))) m

module _ (b : Book) (a c : ℕ) (hc : c < currencies) where
  -- it shows in the chargeAt of the record's account and currency alone
  pub charged_for_lem : (cs : List Mils) (p : Position) (m : ℤ) → length cs ≡ accounts * currencies → currency_of b (security_of p) < currencies
      → charge_in (charged_to b cs p m) a c ≡ charge_in cs a c +ℤ cond (is_of b a c p) m (pos 0)
  unfolding charged_to
  charged_for_lem cs p m e h =
      let x = account_of p in
      let y = currency_of b (security_of p) in
      charged_at cs (charge_at x y) (charge_at a c) m (omega (arith, charge_at_below x y (account_below p) h))
      ∙ ap (λ (t : Bool). charge_in cs a c +ℤ cond t m (pos 0)) (charge_at_same x y a c h hc)

  -- ── a record that loses a part ──

  -- the rest is of the same account and currency
  pub rest_of : (p : Position) (k : ℕ) → is_of b a c (without p k) ≡ is_of b a c p
  rest_of p k = rw (without_account p k, without_security p k)

  -- what a record counts for the account and currency
  abbrev money_for : Position → ℤ
  money_for p = cond (is_of b a c p) (money_of p) (pos 0)

  abbrev size_for : Position → ℕ
  size_for p = cond (is_of b a c p) (nat_abs (money_of p)) 0

  abbrev part_for : Position → ℕ → ℤ
  part_for p k = cond (is_of b a c p) (part_money p k) (pos 0)

  rest_money : (p : Position) (k : ℕ) → money_for (without p k) +ℤ part_for p k ≡ money_for p
  rest_money p k = rw (rest_of p k) (split (is_of b a c p) (money_of (without p k)) (part_money p k) (money_of p) (without_money p k))
    where
      split : (t : Bool) (x y z : ℤ) → x +ℤ y ≡ z → cond t x (pos 0) +ℤ cond t y (pos 0) ≡ cond t z (pos 0)
      split true x y z e = e
      split false x y z e = refl

  rest_size : (p : Position) (k : ℕ) → k ≤ nat_abs (quantity_of p) → size_for (without p k) + nat_abs (part_for p k) ≡ size_for p
  rest_size p k h =
      rw (rest_of p k) (split (is_of b a c p) (nat_abs (money_of (without p k))) (part_money p k) (nat_abs (money_of p)) (without_sizes p k h))
    where
      split : (t : Bool) (x : ℕ) (y : ℤ) (z : ℕ) → x + nat_abs y ≡ z → cond t x 0 + nat_abs (cond t y (pos 0)) ≡ cond t z 0
      split true x y z e = e
      split false x y z e = refl

  -- in row i of a list, the part's money is charged
  module _ (cs : List Mils) (ps : List Position) (i k : ℕ) (p : Position) (hp : row ps i ≡ p) (hi : i < length ps)
      (long : length cs ≡ accounts * currencies) (hu : currency_of b (security_of p) < currencies) where
    -- charge and open money together stay
    pub one_worth : worth b a c (charged_to b cs p (part_money p k)) (set ps i (without p k)) ≡ worth b a c cs ps
    one_worth =
        let e₁ = charged_for_lem cs p (part_money p k) long hu in
        let e₂ = rw hp at (sum_by_set money_for ps i (without p k) no_position hi) in
        let e₃ = rest_money p k in
        rw (sum_by_keep money_of (is_of b a c) (set ps i (without p k)), sum_by_keep money_of (is_of b a c) ps)
        (simp zlin (omega (arith, simp zlin at e₁, simp zlin at e₂, simp zlin at e₃)))

    -- and their sizes do not rise
    pub one_weight : k ≤ nat_abs (quantity_of p) → weight b a c (charged_to b cs p (part_money p k)) (set ps i (without p k)) ≤ weight b a c cs ps
    one_weight h =
        let e₁ : nat_abs (charge_in (charged_to b cs p (part_money p k)) a c) ≤ nat_abs (charge_in cs a c) + nat_abs (part_for p k) =
        rw (charged_for_lem cs p (part_money p k) long hu) (nat_abs_sum (charge_in cs a c) (part_for p k)) in
        let e₂ = rw hp at (total_set size_for ps i (without p k) no_position hi) in
        let e₃ = rest_size p k h in
        let size : Position → ℕ = λ p. nat_abs (money_of p) in
        rw (total_keep size (is_of b a c) (set ps i (without p k)), total_keep size (is_of b a c) ps) (omega arith)
