-- Two records of a list that meet: each loses k shares, and each part's money is charged. Numbers and order stay, shares stay in sum,
-- and so does each account's charge with its open money, whose sizes do not rise.
use Rattle.std.specs.Prelude.{◌≡◌, ◌≢◌, Bool, not, List, map, ℕ, ◌+◌, ◌*◌, ◌<◌, ◌≤◌, eqb, length, set, pos, nat_abs}
use Rattle.std.proofs.Math.Path.{refl, sym}
use Rattle.std.proofs.Common.{ap, ◌∙◌, arith}
use Rattle.std.proofs.Math.Bool.{cond}
use Rattle.std.proofs.Math.Nat.{le_trans}
use Rattle.std.proofs.Math.ListN.{length-set}
use Rattle.std.proofs.Math.Seq.{get_or-set_other, map-set_same}
use Rattle.integers.specs.Signs.{is_negative}
use Rattle.integers.specs.Sums.{sum_by, sum_by_move}
use Rattle.units.specs.declared.Mils.{Mils}
use Rattle.rules.specs.Words.{keep}
use Rattle.rules.specs.Bounds.{accounts, currencies}
use Rattle.rules.specs.Book.{quantity_of, security_of, currency_of, no_position}
use Rattle.rules.specs.Sound.{ascends, records_of, open_money}
use Rattle.rules.specs.Parts.{part_money, without, charged_to, charged_both}
use Rattle.rules.specs.declared.Position.{Position}
use Rattle.rules.specs.declared.Book.{Book}
use Rattle.laws.specs.Rows.{row, without_both}
use Rattle.laws.specs.Adding.{sum_by_keep, cond_sum}
use Rattle.laws.specs.Order.{same_numbers_ascend}
use Rattle.laws.specs.Taking.{without_number, without_security, pair_stays}
use Rattle.laws.specs.Charging.{charge_in, worth, weight, open_money_lem, charged_long, one_worth, one_weight}

-- ── numbers ──

module _ (ps : List Position) (i j k : ℕ) where
  pub both_length : length (without_both ps i j k) ≡ length ps
  unfolding without_both
  both_length = simp length-set

  -- all numbers stay, so the order does
  pub both_numbers : j ≢ i → map (λ p. p.number) (without_both ps i j k) ≡ map (λ p. p.number) ps
  unfolding without_both
  both_numbers ne =
      let p = without (row ps i) k in
      let q = without (row ps j) k in
      let same : row (set ps i p) j ≡ row ps j = get_or-set_other ps i j p no_position ne in
      map-set_same (λ p. p.number) (set ps i p) j q no_position (without_number (row ps j) k ∙ sym (ap (λ (p : Position). p.number) same))
      ∙ map-set_same (λ p. p.number) ps i p no_position (without_number (row ps i) k)

  pub both_ascends : j ≢ i → ascends (without_both ps i j k) ≡ ascends ps
  both_ascends ne = same_numbers_ascend ps (without_both ps i j k) (both_numbers ne)

-- ── shares ──

-- two records of opposite signs lose k shares each
module _ (ps : List Position) (i j k : ℕ) (hi : i < length ps) (hj : j < length ps) (ne : j ≢ i)
    (o : is_negative (quantity_of (row ps j)) ≡ not (is_negative (quantity_of (row ps i))))
    (li : k ≤ nat_abs (quantity_of (row ps i))) (lj : k ≤ nat_abs (quantity_of (row ps j))) where
  -- the sum of all shares stays
  pub both_shares : sum_by quantity_of (without_both ps i j k) ≡ sum_by quantity_of ps
  unfolding without_both
  both_shares =
      sum_by_move quantity_of ps i j (without (row ps i) k) (without (row ps j) k) no_position hi hj ne
      (pair_stays (row ps i) (row ps j) k o li lj)

  -- and that of the records that pass a test which both pass or neither, before and after
  pub both_shares_of : (t : Position → Bool) → ((p : Position) → t (without p k) ≡ t p) → t (row ps j) ≡ t (row ps i)
      → sum_by quantity_of (keep t (without_both ps i j k)) ≡ sum_by quantity_of (keep t ps)
  unfolding without_both
  both_shares_of t same both =
      sum_by_keep quantity_of t (without_both ps i j k)
      ∙ sum_by_move (λ p. cond (t p) (quantity_of p) (pos 0)) ps i j (without (row ps i) k) (without (row ps j) k) no_position hi hj ne
      (rw (same (row ps i), same (row ps j), both) (cond_sum (t (row ps i)) _ _ _ _ (pair_stays (row ps i) (row ps j) k o li lj)))
      ∙ sym (sum_by_keep quantity_of t ps)

  -- so that of the records of each security
  pub both_shares_security : (s : ℕ) → security_of (row ps j) ≡ security_of (row ps i)
      → sum_by quantity_of (keep (λ p. eqb (security_of p) s) (without_both ps i j k)) ≡ sum_by quantity_of (keep (λ p. eqb (security_of p) s) ps)
  both_shares_security s e =
      both_shares_of (λ p. eqb (security_of p) s) (λ p. ap (λ (n : ℕ). eqb n s) (without_security p k)) (ap (λ (n : ℕ). eqb n s) e)

-- ── money ──

pub both_charged_long : (b : Book) (cs : List Mils) (p q : Position) (k : ℕ) → length (charged_both b cs p q k) ≡ length cs
unfolding charged_both
both_charged_long b cs p q k = charged_long b (charged_to b cs p (part_money p k)) q (part_money q k) ∙ charged_long b cs p (part_money p k)

module _ (b : Book) (a c : ℕ) (hc : c < currencies) (cs : List Mils) (ps : List Position) (i j k : ℕ)
    (hi : i < length ps) (hj : j < length ps) (ne : j ≢ i) (long : length cs ≡ accounts * currencies)
    (ui : currency_of b (security_of (row ps i)) < currencies) (uj : currency_of b (security_of (row ps j)) < currencies) where
  -- the first of the two steps
  abbrev charges₁ : List Mils
  charges₁ = charged_to b cs (row ps i) (part_money (row ps i) k)

  abbrev records₁ : List Position
  records₁ = set ps i (without (row ps i) k)

  long₁ : length charges₁ ≡ accounts * currencies
  long₁ = charged_long b cs (row ps i) (part_money (row ps i) k) ∙ long

  other₁ : row records₁ j ≡ row ps j
  other₁ = get_or-set_other ps i j (without (row ps i) k) no_position ne

  below₁ : j < length records₁
  below₁ = omega (arith, length-set ps i (without (row ps i) k))

  -- charge and open money together stay
  pub both_worth : worth b a c (charged_both b cs (row ps i) (row ps j) k) (without_both ps i j k) ≡ worth b a c cs ps
  unfolding without_both charged_both
  both_worth =
      one_worth b a c hc charges₁ records₁ j k (row ps j) other₁ below₁ long₁ uj ∙ one_worth b a c hc cs ps i k (row ps i) refl hi long ui

  module _ (li : k ≤ nat_abs (quantity_of (row ps i))) (lj : k ≤ nat_abs (quantity_of (row ps j))) where
    -- and their sizes do not rise
    pub both_weight : weight b a c (charged_both b cs (row ps i) (row ps j) k) (without_both ps i j k) ≤ weight b a c cs ps
    unfolding without_both charged_both
    both_weight =
        le_trans (one_weight b a c hc charges₁ records₁ j k (row ps j) other₁ below₁ long₁ uj lj)
        (one_weight b a c hc cs ps i k (row ps i) refl hi long ui li)

    -- in the words of a sound book
    pub both_stake : nat_abs (charge_in (charged_both b cs (row ps i) (row ps j) k) a c) + open_money b (records_of a (without_both ps i j k)) c
        ≤ nat_abs (charge_in cs a c) + open_money b (records_of a ps) c
    both_stake = rw (open_money_lem b (without_both ps i j k) a c, open_money_lem b ps a c) both_weight
