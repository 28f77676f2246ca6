-- Lists of sides of which some have nothing left: the first that has something, and what is left of the list when it has k shares less.
use Rattle.std.specs.Prelude.{◌≡◌, refl, Bool, List, [], ◌∷◌, ℕ, zero, suc, ◌-◌, ◌≤◌, ◌<◌, ltb, length, get_or, set, drop}
use Rattle.std.proofs.Common.{sym, ap, ◌∙◌, zero-le, suc-le-suc, arith, get_or-set_same, get_or-set_other, lt-ltb, le-ltb}
use Rattle.std.proofs.Math.Decide.{ℕ_discrete, dec_lt}
use Rattle.std.proofs.Math.ListN.{get_or-eq_default, get_or-map}
use Rattle.std.proofs.Math.Seq.{map-set_same, set_out}
use Rattle.rules.specs.Words.{keep}
use Rattle.rules.specs.Run.{Side, leaving}
use Rattle.laws.specs.Keeping.{keep_yes, keep_no, keep_none}
use Rattle.laws.specs.Merging.{less, leaving_none, leaving_some}

abbrev pub no_side : Side
no_side = record { number = 0; account = 0; shares = 0 }

abbrev pub at : List Side → ℕ → Side
at l i = get_or l i no_side

abbrev pub some : Side → Bool
some x = ltb 0 x.shares

-- the first i have nothing left
abbrev pub Spent : List Side → ℕ → Type 0
Spent l i = (j : ℕ) → j < i → (at l j).shares ≡ 0

pub first_kept : (l : List Side) (i : ℕ) → Spent l i → 0 < (at l i).shares → keep some l ≡ at l i ∷ keep some (drop (suc i) l)
first_kept [] i z h = absurd (omega arith)
first_kept (x ∷ l) zero z h = keep_yes some x l (lt-ltb 0 x.shares h)
first_kept (x ∷ l) (suc i) z h =
    keep_no some x l (le-ltb 0 x.shares (omega (arith, z zero (suc-le-suc zero-le)))) ∙ first_kept l i (λ j k. z (suc j) (suc-le-suc k)) h

pub kept_less : (l : List Side) (i k : ℕ) → Spent l i → 0 < (at l i).shares → k ≤ (at l i).shares
    → keep some (set l i (less (at l i) k)) ≡ leaving (at l i) k (keep some (drop (suc i) l))
kept_less [] i k z h m = absurd (omega arith)
kept_less (x ∷ l) zero k z h m = go (ℕ_discrete x.shares k)
  where
    go : Dec (x.shares ≡ k) → keep some (less x k ∷ l) ≡ leaving x k (keep some l)
    go (yes e) = keep_no some (less x k) l (le-ltb 0 (x.shares - k) (omega arith)) ∙ sym (leaving_none x k (keep some l) e)
    go (no e) = keep_yes some (less x k) l (lt-ltb 0 (x.shares - k) (omega arith)) ∙ sym (leaving_some x k (keep some l) (omega arith))
kept_less (x ∷ l) (suc i) k z h m =
    keep_no some x (set l i (less (at l i) k)) (le-ltb 0 x.shares (omega (arith, z zero (suc-le-suc zero-le))))
    ∙ kept_less l i k (λ j q. z (suc j) (suc-le-suc q)) h m

pub none_kept : (l : List Side) → ((j : ℕ) → (at l j).shares ≡ 0) → keep some l ≡ []
none_kept [] z = keep_none some
none_kept (x ∷ l) z = keep_no some x l (le-ltb 0 x.shares (omega (arith, z zero))) ∙ none_kept l (λ j. z (suc j))

-- beyond the list there is nothing
pub spent_all : (l : List Side) (n : ℕ) → length l ≤ n → Spent l n → (j : ℕ) → (at l j).shares ≡ 0
spent_all l n h z j = go (dec_lt j n)
  where
    go : Dec (j < n) → (at l j).shares ≡ 0
    go (yes q) = z j q
    go (no q) = ap (λ (x : Side). x.shares) (get_or-eq_default l no_side (omega arith))

-- ── one side has k shares less ──

module _ (l : List Side) (i k : ℕ) where
  pub less_there : 0 < (at l i).shares → at (set l i (less (at l i) k)) i ≡ less (at l i) k
  less_there h = go (dec_lt i (length l))
    where
      go : Dec (i < length l) → at (set l i (less (at l i) k)) i ≡ less (at l i) k
      go (yes q) = get_or-set_same l i (less (at l i) k) no_side q
      go (no q) = let e : (at l i).shares ≡ 0 = ap (λ (x : Side). x.shares) (get_or-eq_default l no_side (omega arith)) in absurd (omega arith)

  pub less_account : (j : ℕ) → (at (set l i (less (at l i) k)) j).account ≡ (at l j).account
  less_account j =
      sym (get_or-map (λ (x : Side). x.account) (set l i (less (at l i) k)) j no_side)
      ∙ ap (λ m. get_or m j 0) (map-set_same (λ (x : Side). x.account) l i (less (at l i) k) no_side refl)
      ∙ get_or-map (λ (x : Side). x.account) l j no_side

  pub less_shares : (j : ℕ) → (at (set l i (less (at l i) k)) j).shares ≤ (at l j).shares
  less_shares j = go (ℕ_discrete j i) (dec_lt i (length l))
    where
      go : Dec (j ≡ i) → Dec (i < length l) → (at (set l i (less (at l i) k)) j).shares ≤ (at l j).shares
      go (yes e) (yes h) = rw e (rw (get_or-set_same l i (less (at l i) k) no_side h) (omega arith))
      go (yes e) (no h) = rw (set_out l i (less (at l i) k) (omega arith)) (omega arith)
      go (no e) d = rw (get_or-set_other l i j (less (at l i) k) no_side e) (omega arith)

  pub less_spent : (m : ℕ) → Spent l m → Spent (set l i (less (at l i) k)) m
  less_spent m z j h = omega (arith, z j h, less_shares j)
