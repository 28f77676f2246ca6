-- The money of a run: for each account and currency, charge and open money together stay, and their sizes do not rise. A record that goes has
-- no money left.
use Rattle.std.specs.Prelude.{◌≡◌, refl, Bool, true, false, not, ◌&&◌, ◌||◌, ℕ, ◌+◌, ◌<◌, ◌≤◌, get_or, ℤ, pos, ◌+ℤ◌}
use Rattle.std.proofs.Math.Path.{ap}
use Rattle.std.proofs.Common.{◌∙◌, ne_eqb}
use mathlib.Core.List.{List, [], ◌∷◌}
use native.Mathlib.Omega.{arith}
use Rattle.std.proofs.Math.Decide.{ℕ_discrete}
use Rattle.std.proofs.Math.IntN.{nat_abs}
use Rattle.integers.specs.Linear.{zlin}
use Rattle.integers.specs.Sums.{sum_by}
use Rattle.units.specs.declared.Mils.{Mils}
use Rattle.rules.specs.Words.{all, keep, total}
use Rattle.rules.specs.Bounds.{currencies}
use Rattle.rules.specs.Book.{quantity_of, money_of, is_zero, security_of, open_of, currency_of, unlisted, with_open, with_holdings, with_charges}
use Rattle.rules.specs.Sound.{is_code, codes_fit, is_due, due_nonzero, records_of, open_money, money_fits, sound}
use Rattle.rules.specs.Parts.{part_money, without}
use Rattle.rules.specs.Roll.{remains}
use Rattle.rules.specs.Run.{settled}
use Rattle.rules.specs.declared.Position.{Position}
use Rattle.rules.specs.declared.Book.{Book}
use Rattle.laws.specs.Cases.{by_test, both_hold, is_zero_lem, zero_is, or_left, or_right}
use Rattle.laws.specs.All.{all_so}
use Rattle.laws.specs.Walks.{all_at}
use Rattle.laws.specs.Keeping.{keep_none, keep_yes, keep_no, keep_all, keep_swap}
use Rattle.laws.specs.Adding.{total_keep_le}
use Rattle.laws.specs.Rows.{row}
use Rattle.laws.specs.Taking.{without_money, none_left, all_money}
use Rattle.laws.specs.Charging.{is_of, charge_in, worth, weight, open_money_lem}
use Rattle.laws.specs.Meetings.{both_worth, both_weight}
use Rattle.laws.specs.Walk.{Walking, met_at, walked}
use Rattle.laws.specs.SoundParts.{sound_parts, code_below}
use Rattle.laws.specs.Shaped.{Shaped}
use Rattle.laws.specs.Stakes.{stake, stake_within, within_stake}
use Rattle.laws.specs.RunKeeps.{Loses, Meets, Steady, walk_keeps}
use Rattle.laws.specs.RunLeaves.{closed, closed_open, closed_charges, room, settled_is, settled_open, end_pass}

-- ── a record with no shares has no money ──

-- due with no shares: no money is left
unfoldable pub is_clear : ℕ → Position → Bool
is_clear day p = due_nonzero day p || is_zero (money_of p)

not_both : (x y : Bool) → y ≡ false → not (x && y) ≡ true
not_both true y e = rw e
not_both false y e = refl

clear_rest : (b : Book) (s : ℕ) (p : Position) (k : ℕ) → Loses b s p k → is_clear b.day (without p k) ≡ true
unfolding is_clear due_nonzero
clear_rest b s p k h = go (ℕ_discrete k (nat_abs (quantity_of p)))
  where
    go : Dec (k ≡ nat_abs (quantity_of p)) → not (is_due b.day (without p k) && is_zero (quantity_of (without p k))) || is_zero (money_of (without p k)) ≡ true
    go (yes e) =
        let all_of : part_money p k ≡ money_of p = ap (part_money p) e ∙ all_money p (omega (arith, h.some)) in
        let split = without_money p k in
        or_right (not (is_due b.day (without p k) && is_zero (quantity_of (without p k))))
        (zero_is (money_of (without p k)) (simp zlin (omega (arith, simp zlin at all_of, simp zlin at split))))
    go (no e) =
        or_left (is_zero (money_of (without p k)))
        (not_both (is_due b.day (without p k)) (is_zero (quantity_of (without p k))) (none_left p k h.within ∙ ne_eqb k (nat_abs (quantity_of p)) e))

-- what goes has no money
gone_clear : (day : ℕ) (p : Position) → is_clear day p ≡ true → remains day p ≡ false → money_of p ≡ pos 0
unfolding is_clear remains
gone_clear day p e f = is_zero_lem (money_of p) (rw f at e)

-- so the others have all the money
sum_kept_in : (u t : Position → Bool) (f : Position → ℤ) (l : List Position) → all u l ≡ true → ((x : Position) → u x ≡ true → t x ≡ false → f x ≡ pos 0)
    → sum_by f (keep t l) ≡ sum_by f l
unfolding all
sum_kept_in u t f [] a h = rw keep_none
sum_kept_in u t f (x ∷ l) a h =
    let p = both_hold (u x) (all u l) a in
    let ih = sum_kept_in u t f l p.1 h in
    by_test (t x) (λ e. rw (keep_yes t x l e, ih)) (λ e. rw (keep_no t x l e, h x p.0 e, ih) (simp zlin (omega arith)))

-- ── a listed security has a currency ──

module _ (b : Book) (s : ℕ) (hs : s < 32) (ok : sound b ≡ true) (shape : Shaped b) (listed : unlisted b s ≡ false) where
  abbrev x₁ : Walking
  x₁ = walked b s

  pub currency_below : currency_of b s < currencies
  unfolding codes_fit currency_of unlisted
  currency_below =
      code_below (get_or b.currency s 0) (all_at is_code b.currency s 0 (sound_parts b ok).codes (omega (arith, shape.currency))) listed

  pub loses_below : (p : Position) (k : ℕ) → Loses b s p k → currency_of b (security_of p) < currencies
  loses_below p k h = rw h.security currency_below

  pub settled_charges : (settled b s).charges ≡ x₁.charges
  settled_charges = ap (λ (k : Book). k.charges) (settled_is b s hs ok shape) ∙ closed_charges b x₁

  -- a record that goes has no money left
  end_clear : all (is_clear b.day) x₁.records ≡ true
  unfolding is_clear
  end_clear =
      end_pass b s hs ok shape (is_clear b.day) (λ p k h e. clear_rest b s p k h)
      (all_so (due_nonzero b.day) (is_clear b.day) (open_of b) (λ p e. or_left (is_zero (money_of p)) e) (sound_parts b ok).due_nonzero_lem)

  module _ (a c : ℕ) (hc : c < currencies) where
    -- charge and open money together stay
    met_worth : (x : Walking) (g r k : ℕ) → Steady b x → Meets b s x g r k → worth b a c x.charges x.records ≡ worth b a c b.charges (open_of b)
        → worth b a c (met_at b s x g r k).charges (met_at b s x g r k).records ≡ worth b a c b.charges (open_of b)
    unfolding met_at
    met_worth x g r k t m e =
        both_worth b a c hc x.charges x.records g r k m.giver_row m.taker_row m.apart (t.charges ∙ shape.charges)
        (loses_below (row x.records g) k m.giver) (loses_below (row x.records r) k m.taker)
        ∙ e

    kept_money : sum_by money_of (keep (is_of b a c) (keep (remains b.day) x₁.records)) ≡ sum_by money_of (keep (is_of b a c) x₁.records)
    kept_money =
        ap (sum_by money_of) (keep_swap (is_of b a c) (remains b.day) x₁.records)
        ∙ sum_kept_in (is_clear b.day) (remains b.day) money_of (keep (is_of b a c) x₁.records)
        (keep_all (is_of b a c) (is_clear b.day) x₁.records end_clear) (gone_clear b.day)

    pub run_worth : worth b a c (settled b s).charges (open_of (settled b s)) ≡ worth b a c b.charges (open_of b)
    run_worth =
        ap (λ (cs : List Mils). worth b a c cs (open_of (settled b s))) settled_charges
        ∙ ap (λ (ps : List Position). worth b a c x₁.charges ps) (settled_open b s hs ok shape)
        ∙ ap (λ (z : ℤ). charge_in x₁.charges a c +ℤ z) kept_money
        ∙ walk_keeps b s (room b s hs ok shape) (λ x. worth b a c x.charges x.records ≡ worth b a c b.charges (open_of b)) met_worth refl

    -- and their sizes do not rise
    pub met_weight : (x : Walking) (g r k : ℕ) → Steady b x → Meets b s x g r k → weight b a c x.charges x.records ≤ weight b a c b.charges (open_of b)
        → weight b a c (met_at b s x g r k).charges (met_at b s x g r k).records ≤ weight b a c b.charges (open_of b)
    unfolding met_at
    met_weight x g r k t m e =
        omega (
          arith,
          both_weight b a c hc x.charges x.records g r k m.giver_row m.taker_row m.apart (t.charges ∙ shape.charges)
              (loses_below (row x.records g) k m.giver) (loses_below (row x.records r) k m.taker) m.giver.within m.taker.within,
          e,
        )

    end_weight : weight b a c x₁.charges (keep (remains b.day) x₁.records) ≤ weight b a c b.charges (open_of b)
    end_weight =
        let size : Position → ℕ = λ p. nat_abs (money_of p) in
        omega (
          arith,
          ap (total size) (keep_swap (is_of b a c) (remains b.day) x₁.records),
          total_keep_le size (remains b.day) (keep (is_of b a c) x₁.records),
          walk_keeps b s (room b s hs ok shape) (λ x. weight b a c x.charges x.records ≤ weight b a c b.charges (open_of b)) met_weight (omega arith),
        )

    pub run_weight : weight b a c (settled b s).charges (open_of (settled b s)) ≤ weight b a c b.charges (open_of b)
    run_weight =
        omega (
          arith,
          end_weight,
          ap (λ (cs : List Mils). weight b a c cs (open_of (settled b s))) settled_charges,
          ap (λ (ps : List Position). weight b a c x₁.charges ps) (settled_open b s hs ok shape),
        )

  -- so the money at stake is still within its bound
  closed_stake : (a c : ℕ) → stake (closed b x₁) a c ≡ weight b a c x₁.charges (keep (remains b.day) x₁.records)
  unfolding open_money currency_of with_open with_holdings with_charges
  closed_stake a c =
      ap (λ (ps : List Position). nat_abs (charge_in x₁.charges a c) + open_money b (records_of a ps) c) (closed_open b x₁)
      ∙ ap (λ (n : ℕ). nat_abs (charge_in x₁.charges a c) + n) (open_money_lem b (keep (remains b.day) x₁.records) a c)

  pub run_money : money_fits (settled b s) ≡ true
  run_money =
      ap money_fits (settled_is b s hs ok shape)
      ∙ within_stake (closed b x₁)
      (λ a c ha hc. omega (arith, closed_stake a c, end_weight a c hc, stake_within b (sound_parts b ok).money a c ha hc, open_money_lem b (open_of b) a c))
