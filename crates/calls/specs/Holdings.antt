-- Deposit and withdrawal: the tests that they share, and what follows from passing them.
use Rattle.std.specs.Prelude.{◌≡◌, Bool, true, false, cond, ◌||◌, ℕ, ◌+◌, ◌*◌, ◌-◌, ◌<◌, ◌≤◌, eqb, leb, length, get_or, set}
use Rattle.std.proofs.Math.Path.{sym, ap}
use Rattle.std.proofs.Common.{◌∙◌, arith}
use mathlib.Core.List.{List, [], ◌∷◌}
use borrow.Author.Tests.{ltb-false, lt-ltb, le-ltb, leb-true, leb-false, ne_eqb}
use Rattle.std.proofs.Math.Dec.{ltb}
use Rattle.rules.specs.Words.{all, Test, first, above}
use Rattle.rules.specs.Bounds.{accounts, securities, last_account, last_security, most_held, most_deposited}
use Rattle.rules.specs.Book.{unlisted, holding_at, held_by, with_holdings}
use Rattle.rules.specs.Sound.{sound, totals_held, total_held, holdings_fit}
use Rattle.rules.specs.Trades.{no_account, no_security, bad_security}
use Rattle.rules.specs.Calls.{deposit, withdraw, bad_deposit, holding_tests, tests, answer_sound, after}
use Rattle.rules.specs.declared.Book.{Book}
use Rattle.laws.specs.Cases.{both_hold, neither, cond_no}
use Rattle.laws.specs.Walks.{all_at}
use Rattle.laws.specs.Accepted.{passed, MayHold}
use Rattle.laws.specs.SoundParts.{sound_parts}

-- the first of the shared tests that holds
unfoldable pub common_refusal : Book → ℕ → ℕ → ℕ → ℕ
common_refusal k a s q = first (holding_tests k a s q [])

-- ── the shared tests, then the rest ──

three : (b₂ b₃ b₄ : Bool) (rest : List Test) (n : ℕ) → n ≡ first ((b₂, 2) ∷ (b₃, 3) ∷ (b₄, 4) ∷ [])
    → first ((b₂, 2) ∷ (b₃, 3) ∷ (b₄, 4) ∷ rest) ≡ cond (eqb n 0) (first rest) n
unfolding first
three true b₃ b₄ rest n e = rw e
three false true b₄ rest n e = rw e
three false false true rest n e = rw e
three false false false rest n e = rw e

-- ── holdings of a sound book: each within 10^12 ──

pub entries_small : (k : Book) → sound k ≡ true → all (λ h. leb h most_held) k.holdings ≡ true
unfolding holdings_fit
entries_small k e = (both_hold (all (λ h. leb h most_held) k.holdings) (all (λ t. leb t most_held) (totals_held k.holdings)) (sound_parts k e).holdings).0

module _ (k : Book) (a s q : ℕ) where
  common_then : (rest : List Test) (n : ℕ) → n ≡ common_refusal k a s q → first (holding_tests k a s q rest) ≡ cond (eqb n 0) (first rest) n
  unfolding common_refusal holding_tests
  common_then rest n e = three (no_account a) (bad_security k s) (bad_deposit q) rest n e

  -- the answer of the code, by the outcome of each test
  pub common_by : {b₂ b₃ b₄ : Bool} → no_account a ≡ b₂ → bad_security k s ≡ b₃ → bad_deposit q ≡ b₄
      → first ((b₂, 2) ∷ (b₃, 3) ∷ (b₄, 4) ∷ []) ≡ common_refusal k a s q
  unfolding common_refusal holding_tests
  common_by e₂ e₃ e₄ = rw (e₂, e₃, e₄)

  pub common_passed : 0 ≡ common_refusal k a s q → (a < accounts) × ((s < securities) × (q ≤ most_deposited))
  unfolding common_refusal holding_tests no_account bad_security no_security bad_deposit
  common_passed e =
      let x = passed (ltb last_account a) 1 _ (sym e) in
      let y = passed (ltb last_security s || unlisted k s) 2 _ x.1 in
      let z = passed (ltb q 1 || ltb most_deposited q) 3 [] y.1 in
      let u = neither (ltb last_security s) (unlisted k s) y.0 in
      let v = neither (ltb q 1) (ltb most_deposited q) z.0 in
      (omega (arith, ltb-false last_account a x.0), (omega (arith, ltb-false last_security s u.0), ltb-false most_deposited q v.1))

  -- ── deposit ──

  pub deposit_stops : (n : ℕ) → n ≡ common_refusal k a s q → (n ≡ 0 → ⊥) → n ≡ answer_sound k (deposit a s q)
  unfolding answer_sound tests
  deposit_stops n e z = sym (common_then _ n e ∙ cond_no _ n (ne_eqb n 0 z))

  deposit_goes : 0 ≡ common_refusal k a s q → answer_sound k (deposit a s q) ≡ first ((above most_held (total_held k.holdings s + q), 12) ∷ [])
  unfolding answer_sound tests
  deposit_goes e = common_then _ 0 e

  -- the total against the most that it may be, m
  pub deposit_over : (m : ℕ) → 0 ≡ common_refusal k a s q → m + q ≡ most_held → leb (total_held k.holdings s) m ≡ false → 12 ≡ answer_sound k (deposit a s q)
  unfolding first
  deposit_over m e w h =
      sym (deposit_goes e ∙ rw (lt-ltb most_held (total_held k.holdings s + q) (omega (arith, leb-false (total_held k.holdings s) m h))))

  pub deposit_fine : (m : ℕ) → 0 ≡ common_refusal k a s q → m + q ≡ most_held → leb (total_held k.holdings s) m ≡ true → 0 ≡ answer_sound k (deposit a s q)
  unfolding first
  deposit_fine m e w h =
      sym (deposit_goes e ∙ rw (le-ltb most_held (total_held k.holdings s + q) (omega (arith, leb-true (total_held k.holdings s) m h))))

  -- ── withdrawal ──

  pub withdrawal_stops : (n : ℕ) → n ≡ common_refusal k a s q → (n ≡ 0 → ⊥) → n ≡ answer_sound k (withdraw a s q)
  unfolding answer_sound tests
  withdrawal_stops n e z = sym (common_then _ n e ∙ cond_no _ n (ne_eqb n 0 z))

  withdrawal_goes : 0 ≡ common_refusal k a s q → answer_sound k (withdraw a s q) ≡ first ((above (held_by k a s) q, 11) ∷ [])
  unfolding answer_sound tests
  withdrawal_goes e = common_then _ 0 e

  pub withdrawal_over : 0 ≡ common_refusal k a s q → held_by k a s < q → 11 ≡ answer_sound k (withdraw a s q)
  unfolding first
  withdrawal_over e h = sym (withdrawal_goes e ∙ rw (lt-ltb (held_by k a s) q h))

  pub withdrawal_fine : 0 ≡ common_refusal k a s q → q ≤ held_by k a s → 0 ≡ answer_sound k (withdraw a s q)
  unfolding first
  withdrawal_fine e h = sym (withdrawal_goes e ∙ rw (le-ltb (held_by k a s) q h))

  -- ── what an accepted call may count on ──

  pub place_below : MayHold k a s q → a * 32 + s < accounts * securities
  place_below p =
      let x = p.account in
      let y = p.security in
      omega arith

  pub entry_small : sound k ≡ true → MayHold k a s q → length k.holdings ≡ accounts * securities → get_or k.holdings (a * 32 + s) 0 ≤ most_held
  entry_small e p long =
      leb-true _ most_held (all_at (λ h. leb h most_held) k.holdings (a * 32 + s) 0 (entries_small k e) (omega (arith, place_below p)))

  -- the book after it, by the holding that the code wrote
  pub deposited : (n : ℕ) → n ≡ get_or k.holdings (a * 32 + s) 0 → with_holdings k (set k.holdings (a * 32 + s) (n + q)) ≡ after k (deposit a s q)
  unfolding after held_by holding_at
  deposited n e = ap (λ (m : ℕ). with_holdings k (set k.holdings (a * 32 + s) (m + q))) e

  pub withdrawn : (n : ℕ) → n ≡ get_or k.holdings (a * 32 + s) 0 → with_holdings k (set k.holdings (a * 32 + s) (n - q)) ≡ after k (withdraw a s q)
  unfolding after held_by holding_at
  withdrawn n e = ap (λ (m : ℕ). with_holdings k (set k.holdings (a * 32 + s) (m - q))) e
