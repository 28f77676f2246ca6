-- Totals and their holdings: totals within a bound put every holding within it, and shares moved between accounts leave each total.
use Rattle.std.specs.Prelude.{◌≡◌, true, List, ℕ, ◌+◌, ◌*◌, ◌-◌, ◌/◌, ◌%◌, ◌<◌, ◌≤◌, eqb, length, set}
use Rattle.std.proofs.Math.Path.{ap}
use Rattle.std.proofs.Common.{◌∙◌}
use native.Mathlib.Omega.{arith}
use Rattle.std.proofs.Math.Dec.{leb}
use Rattle.std.proofs.Math.ListN.{get_or}
use borrow.Author.Tests.{eqb-true, eqb-false, leb-true, le-leb}
use Rattle.rules.specs.Words.{all}
use Rattle.rules.specs.Bounds.{accounts, securities}
use Rattle.rules.specs.Book.{holding_at}
use Rattle.rules.specs.Sound.{totals_held, total_held}
use Rattle.rules.specs.Run.{moved}
use Rattle.laws.specs.Cases.{by_test}
use Rattle.laws.specs.All.{all_by_index}
use Rattle.laws.specs.Walks.{all_at}
use Rattle.laws.specs.Totals.{totals_held_length, held_part, next_long, total_there, total_elsewhere}

module _ (hs : List ℕ) (long : length hs ≡ accounts * securities) where
  pub total_within : (most u : ℕ) → all (λ t. leb t most) (totals_held hs) ≡ true → u < securities → total_held hs u ≤ most
  unfolding total_held
  total_within most u a h =
      leb-true (get_or (totals_held hs) u 0) most (all_at (λ t. leb t most) (totals_held hs) u 0 a (omega (arith, totals_held_length hs long)))

  -- entry i is that of account i / 32 in security i % 32
  pub held_within : (most : ℕ) → all (λ t. leb t most) (totals_held hs) ≡ true → all (λ h. leb h most) hs ≡ true
  unfolding holding_at
  held_within most a =
      all_by_index (λ h. leb h most) hs 0
      (λ i l.
      let e : get_or hs i 0 ≡ get_or hs (i / 32 * 32 + i % 32) 0 = ap (λ (j : ℕ). get_or hs j 0) (omega arith) in
      le-leb (get_or hs i 0) most (omega (arith, held_part hs long (i / 32) (i % 32) (omega arith) (omega arith), total_within most (i % 32) a (omega arith))))

  -- k shares of security s move from account a to account c
  module _ (s a c k : ℕ) (hs₃ : s < securities) (ha : a < accounts) (hc : c < accounts) (le : k ≤ get_or hs (holding_at a s) 0) where
    abbrev less : List ℕ
    less = set hs (holding_at a s) (get_or hs (holding_at a s) 0 - k)

    there : total_held (moved hs (holding_at a s) (holding_at c s) k) s ≡ total_held hs s
    unfolding moved
    there =
        omega (
          arith,
          total_there hs long a s (get_or hs (holding_at a s) 0 - k) ha hs₃,
          total_there less (next_long hs long a s (get_or hs (holding_at a s) 0 - k) ha hs₃) c s (get_or less (holding_at c s) 0 + k) hc hs₃,
        )

    pub held_moved : (u : ℕ) → u < securities → total_held (moved hs (holding_at a s) (holding_at c s) k) u ≡ total_held hs u
    unfolding moved
    held_moved u hu =
        by_test (eqb u s)
        (λ t. let q : u ≡ s = eqb-true u s t in rw q there)
        (λ t. let n = eqb-false u s t in
        total_elsewhere less (next_long hs long a s (get_or hs (holding_at a s) 0 - k) ha hs₃) c s (get_or less (holding_at c s) 0 + k) hc hs₃ u hu n
        ∙ total_elsewhere hs long a s (get_or hs (holding_at a s) 0 - k) ha hs₃ u hu n)
