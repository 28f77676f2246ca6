-- Holdings security by security: what the accounts hold of each together is within 10^12, or, if it is unlisted, nothing. That this is the rules' test of the holdings.
use Rattle.std.specs.Prelude.{◌≡◌, refl, Bool, true, not, cond, ◌&&◌, ◌||◌, ℕ, zero, suc, ◌+◌, ◌*◌, ◌/◌, ◌%◌, ◌<◌, ◌≤◌, eqb, drop}
use Rattle.std.proofs.Math.Path.{sym}
use Rattle.std.proofs.Common.{◌∙◌, le_of_suc-le-suc, add-one}
use mathlib.Core.List.{List, [], ◌∷◌}
use native.Mathlib.Omega.{arith}
use Rattle.std.proofs.Math.Dec.{leb}
use Rattle.std.proofs.Math.ListN.{length, get_or}
use Rattle.std.proofs.Math.Seq.{drop-cons, drop-length}
use borrow.Author.Tests.{eqb-true, eq-eqb, leb-true, le-leb}
use Rattle.rules.specs.Words.{all, total}
use Rattle.rules.specs.Bounds.{accounts, securities, no_currency, most_held, every_security}
use Rattle.rules.specs.Book.{holding_at}
use Rattle.rules.specs.Sound.{by_account, totals_held, total_held, holdings_fit, holds_listed}
use Rattle.rules.specs.declared.Book.{Book}
use Rattle.laws.specs.Cases.{by_test, both_hold, and_hold, true_false, cond_yes}
use Rattle.laws.specs.All.{all_by_index, all_cons, securities_length, security_at}
use Rattle.laws.specs.Walks.{all_at}
use Rattle.laws.specs.Tables.{groups_length, groups_at}
use Rattle.laws.specs.Totals.{totals_held_length, total_is_sum, held_part}

-- the most that the accounts may hold together of a security with this code
unfoldable pub most_of : ℕ → ℕ
most_of code = cond (eqb code no_currency) 0 most_held

-- a security's total is within it
abbrev pub total_fits : Book → ℕ → Bool
total_fits k s = leb (total_held k.holdings s) (most_of (get_or k.currency s 0))

-- what the rules ask of the holdings
abbrev pub held_fits : Book → Bool
held_fits k = holdings_fit k && all (holds_listed k.currency) (by_account securities accounts k.holdings)

-- ── the loop over the accounts ──

-- the accounts, each with its holdings, and what those from a on hold of a security
abbrev held : List ℕ → List (List ℕ)
held hs = by_account securities accounts hs

abbrev pub held_from : List ℕ → ℕ → ℕ → ℕ
held_from hs s a = total (λ r. get_or r s 0) (drop a (held hs))

module _ (hs : List ℕ) (long : length hs ≡ accounts * securities) (s : ℕ) (k : s < securities) where
  pub held_all : held_from hs s 0 ≡ total_held hs s
  held_all = sym (total_is_sum hs long s k)

  pub held_next : (a : ℕ) → a < accounts → held_from hs s a ≡ get_or hs (a * 32 + s) 0 + held_from hs s (a + 1)
  unfolding total
  held_next a h =
      let w : a < length (held hs) = omega (arith, groups_length securities accounts hs) in
      rw (add-one a, drop-cons (held hs) a [] w, groups_at securities accounts hs a s 0 h k)

  pub held_none : (a : ℕ) → a ≡ accounts → held_from hs s a ≡ 0
  unfolding total
  held_none a e = rw (e ∙ sym (groups_length securities accounts hs), drop-length (held hs))

-- ── the rules' test ──

most_small : (c : ℕ) → most_of c ≤ most_held
unfolding most_of
most_small c = by_test (eqb c no_currency) (λ e. rw e (omega arith)) (λ e. rw e (omega arith))

most_none : (c : ℕ) → c ≡ no_currency → most_of c ≡ 0
unfolding most_of
most_none c e = cond_yes 0 most_held (eq-eqb c no_currency e)

-- an account's holdings of unlisted securities, one by one
holds_by : (cs hs : List ℕ) → ((s : ℕ) → s < length cs → get_or cs s 0 ≡ no_currency → get_or hs s 0 ≡ 0) → holds_listed cs hs ≡ true
unfolding holds_listed
holds_by [] hs h = refl
holds_by (c ∷ cs) [] h = refl
holds_by (c ∷ cs) (x ∷ hs) h =
    let first : not (eqb c no_currency) || eqb x 0 ≡ true =
    by_test (eqb c no_currency) (λ e. rw (e, eq-eqb x 0 (h zero (omega arith) (eqb-true c no_currency e)))) (λ e. rw e) in
    and_hold first (holds_by cs hs (λ s w. h (suc s) (omega arith)))

holds_at : (cs hs : List ℕ) (s : ℕ) → holds_listed cs hs ≡ true → s < length cs → get_or cs s 0 ≡ no_currency → get_or hs s 0 ≡ 0
unfolding holds_listed
holds_at [] hs s a w e = absurd (omega arith)
holds_at (c ∷ cs) [] s a w e = refl
holds_at (c ∷ cs) (x ∷ hs) zero a w e =
    eqb-true x 0 (rw (eq-eqb c no_currency e) at (both_hold (not (eqb c no_currency) || eqb x 0) (holds_listed cs hs) a).0)
holds_at (c ∷ cs) (x ∷ hs) (suc s) a w e =
    holds_at cs hs s (both_hold (not (eqb c no_currency) || eqb x 0) (holds_listed cs hs) a).1 (le_of_suc-le-suc w) e

none_held : (cs : List ℕ) (rs : List (List ℕ)) (s : ℕ) → all (holds_listed cs) rs ≡ true → s < length cs → get_or cs s 0 ≡ no_currency
    → total (λ r. get_or r s 0) rs ≡ 0
unfolding total
none_held cs [] s a w e = refl
none_held cs (r ∷ rs) s a w e =
    let b = all_cons (holds_listed cs) r rs a in
    omega (arith, holds_at cs r s b.0 w e, none_held cs rs s b.1 w e)

module _ (k : Book) (long : length k.holdings ≡ accounts * securities) (codes : length k.currency ≡ securities) where
  -- from the totals to the sentences
  module _ (a : all (total_fits k) every_security ≡ true) where
    within : (s : ℕ) → s < securities → total_held k.holdings s ≤ most_of (get_or k.currency s 0)
    within s h =
        leb-true (total_held k.holdings s) (most_of (get_or k.currency s 0))
        (rw (security_at s h) at (all_at (total_fits k) every_security s 0 a (omega (arith, securities_length))))

    each_small : all (λ h. leb h most_held) k.holdings ≡ true
    unfolding holding_at
    each_small = all_by_index (λ h. leb h most_held) k.holdings 0
        (λ i h. let s = i % 32 in
        let p : get_or k.holdings (i / 32 * 32 + s) 0 ≤ total_held k.holdings s = held_part k.holdings long (i / 32) s (omega arith) (omega arith) in
        let e : i / 32 * 32 + s ≡ i = omega arith in
        le-leb (get_or k.holdings i 0) most_held (omega (arith, rw e at p, within s (omega arith), most_small (get_or k.currency s 0))))

    totals_small : all (λ t. leb t most_held) (totals_held k.holdings) ≡ true
    unfolding total_held
    totals_small = all_by_index (λ t. leb t most_held) (totals_held k.holdings) 0
        (λ s h. let w : s < securities = omega (arith, totals_held_length k.holdings long) in
        le-leb (total_held k.holdings s) most_held (omega (arith, within s w, most_small (get_or k.currency s 0))))

    rows_listed : all (holds_listed k.currency) (held k.holdings) ≡ true
    unfolding holding_at
    rows_listed = all_by_index (holds_listed k.currency) (held k.holdings) []
        (λ i h. let w : i < accounts = omega (arith, groups_length securities accounts k.holdings) in
        holds_by k.currency (get_or (held k.holdings) i [])
        (λ s v e. let u : s < securities = omega arith in
        omega (arith, groups_at securities accounts k.holdings i s 0 w u, held_part k.holdings long i s w u, within s u, most_none (get_or k.currency s 0) e)))

    fits : held_fits k ≡ true
    unfolding holdings_fit
    fits = and_hold (and_hold each_small totals_small) rows_listed

  -- and back
  back : held_fits k ≡ true → all (total_fits k) every_security ≡ true
  unfolding holdings_fit total_held most_of
  back a =
      let p = both_hold (holdings_fit k) (all (holds_listed k.currency) (held k.holdings)) a in
      let q = both_hold (all (λ h. leb h most_held) k.holdings) (all (λ t. leb t most_held) (totals_held k.holdings)) p.0 in
      all_by_index (total_fits k) every_security 0
      (λ s h. let w : s < securities = omega (arith, securities_length) in
      rw (security_at s w)
      (by_test (eqb (get_or k.currency s 0) no_currency)
      (λ e. rw e (le-leb (total_held k.holdings s) 0 (omega (arith, total_is_sum k.holdings long s w, none_held k.currency (held k.holdings) s p.1 (omega arith) (eqb-true (get_or k.currency s 0) no_currency e)))))
      (λ e. rw e (all_at (λ t. leb t most_held) (totals_held k.holdings) s 0 q.1 (omega (arith, totals_held_length k.holdings long))))))

  -- The law: the totals decide.
  pub held_fits_lem : all (total_fits k) every_security ≡ held_fits k
  held_fits_lem =
      by_test (held_fits k)
      (λ e. back e ∙ sym e)
      (λ e. by_test (all (total_fits k) every_security) (λ f. true_false (fits f) e) (λ f. f ∙ sym e))
