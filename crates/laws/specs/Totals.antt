-- What all accounts hold of a security: the sum over the accounts, and what it is when one holding is set.
use Rattle.std.specs.Prelude.{◌≡◌, refl, ◌≢◌, Bool, true, ℕ, zero, suc, ◌+◌, ◌*◌, ◌<◌, ◌≤◌, length, set}
use Rattle.std.proofs.Common.{ap, ◌∙◌, length-set, get_or-set_other, eqb-true}
use mathlib.Core.List.{List, [], ◌∷◌}
use native.Mathlib.Omega.{arith}
use Rattle.std.proofs.Math.ListN.{get_or}
use Rattle.std.proofs.lemmas.List.{get_or-replicate, length-replicate}
use Rattle.std.proofs.Math.Seq.{get_or-set_same}
use Rattle.rules.specs.Words.{all, total}
use Rattle.rules.specs.Bounds.{accounts, securities}
use Rattle.rules.specs.Book.{holding_at}
use Rattle.rules.specs.Sound.{by_account, added, totals, totals_held, total_held}
use Rattle.laws.specs.Cases.{both_hold}
use Rattle.laws.specs.Walks.{all_at}
use Rattle.laws.specs.Adding.{total_set}
use Rattle.laws.specs.Tables.{wide, groups_length, groups_wide, groups_at, groups_set, total_part}

-- ── entry by entry ──

added_length : (hs ts : List ℕ) → length hs ≡ length ts → length (added hs ts) ≡ length ts
unfolding added
added_length [] ts e = refl
added_length (h ∷ hs) [] e = refl
added_length (h ∷ hs) (t ∷ ts) e = ap suc (added_length hs ts (omega arith))

pub added_at : (hs ts : List ℕ) (s : ℕ) → length hs ≡ length ts → get_or (added hs ts) s 0 ≡ get_or hs s 0 + get_or ts s 0
unfolding added
added_at [] [] s e = refl
added_at [] (t ∷ ts) s e = absurd (omega arith)
added_at (h ∷ hs) [] s e = absurd (omega arith)
added_at (h ∷ hs) (t ∷ ts) zero e = refl
added_at (h ∷ hs) (t ∷ ts) (suc s) e = added_at hs ts s (omega arith)

-- ── over some accounts ──

abbrev row : List ℕ → Bool
row r = wide securities r

totals_length : (rs : List (List ℕ)) → all row rs ≡ true → length (totals rs) ≡ securities
unfolding totals all
totals_length [] a = length-replicate {A = ℕ} securities 0
totals_length (r ∷ rs) a =
    let p = both_hold (row r) (all row rs) a in
    let ih = totals_length rs p.1 in
    added_length r (totals rs) (omega (arith, eqb-true (length r) securities p.0)) ∙ ih

totals_at : (rs : List (List ℕ)) (s : ℕ) → s < securities → all row rs ≡ true → get_or (totals rs) s 0 ≡ total (λ r. get_or r s 0) rs
unfolding totals all total
totals_at [] s h a = get_or-replicate securities s 0 0 h
totals_at (r ∷ rs) s h a =
    let p = both_hold (row r) (all row rs) a in
    omega (arith, added_at r (totals rs) s (omega (arith, eqb-true (length r) securities p.0, totals_length rs p.1)), totals_at rs s h p.1)

-- ── over all ──

-- the accounts, each with its holdings
abbrev held : List ℕ → List (List ℕ)
held hs = by_account securities accounts hs

module _ (hs : List ℕ) (long : length hs ≡ accounts * securities) where
  pub totals_held_length : length (totals_held hs) ≡ securities
  unfolding totals_held
  totals_held_length = totals_length (held hs) (groups_wide securities accounts hs long)

  pub total_is_sum : (s : ℕ) → s < securities → total_held hs s ≡ total (λ r. get_or r s 0) (held hs)
  unfolding total_held totals_held
  total_is_sum s h = totals_at (held hs) s h (groups_wide securities accounts hs long)

  -- what one account holds is part of it
  pub held_part : (a s : ℕ) → a < accounts → s < securities → get_or hs (holding_at a s) 0 ≤ total_held hs s
  unfolding holding_at
  held_part a s h k =
      omega (
        arith,
        total_is_sum s k,
        groups_at securities accounts hs a s 0 h k,
        total_part (λ r. get_or r s 0) (held hs) a [] (omega (arith, groups_length securities accounts hs)),
      )

-- ── one holding is set ──

module _ (hs : List ℕ) (long : length hs ≡ accounts * securities) (a s v : ℕ) (h : a < accounts) (k : s < securities) where
  abbrev next : List ℕ
  next = set hs (holding_at a s) v

  pub next_long : length next ≡ accounts * securities
  next_long = length-set hs (holding_at a s) v ∙ long

  -- the account's holdings, before
  abbrev old : List ℕ
  old = get_or (held hs) a []

  old_wide : length old ≡ securities
  old_wide =
      eqb-true (length old) securities
      (all_at row (held hs) a [] (groups_wide securities accounts hs long) (omega (arith, groups_length securities accounts hs)))

  pub next_held : held next ≡ set (held hs) a (set old s v)
  unfolding holding_at
  next_held = groups_set securities accounts hs a s v k

  next_sum : (u : ℕ) → u < securities → total_held next u + get_or old u 0 ≡ total_held hs u + get_or (set old s v) u 0
  next_sum u l =
      omega (
        arith,
        total_is_sum next next_long u l,
        ap (total (λ r. get_or r u 0)) next_held,
        total_is_sum hs long u l,
        total_set (λ r. get_or r u 0) (held hs) a (set old s v) [] (omega (arith, groups_length securities accounts hs)),
      )

  -- the security's total is raised by the new entry and lowered by the old one
  pub total_there : total_held next s + get_or hs (holding_at a s) 0 ≡ total_held hs s + v
  unfolding holding_at
  total_there = omega (arith, next_sum s k, groups_at securities accounts hs a s 0 h k, get_or-set_same old s v 0 (omega (arith, old_wide)))

  -- the others keep theirs
  pub total_elsewhere : (u : ℕ) → u < securities → u ≢ s → total_held next u ≡ total_held hs u
  total_elsewhere u l n = omega (arith, next_sum u l, get_or-set_other old s u v 0 n)
