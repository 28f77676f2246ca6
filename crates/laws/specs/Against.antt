-- A newly due record against the older ones: all records are lessened, the shares of each security stay in sum, no one is left to face,
-- and each account's charge with its open money stays, and does not grow in size.
use Rattle.std.specs.Prelude.{◌≡◌, refl, Bool, true, false, cond, List, [], ◌∷◌, eqb, ltb, length, ℤ, pos, ◌+ℤ◌}
use Rattle.std.proofs.Common.{ap, ◌∙◌, arith}
use Rattle.std.proofs.Math.Bool.{not}
use Prim.Native.Nat.{ℕ, ◌+◌, ◌*◌, ◌<◌, ◌≤◌, min}
use Rattle.std.proofs.Math.IntN.{nat_abs}
use borrow.Author.Tests.{ltb-true, ltb-false}
use Rattle.integers.specs.Linear.{zlin}
use Rattle.integers.specs.Sums.{sum_by}
use Rattle.units.specs.declared.Mils.{Mils}
use Rattle.rules.specs.Words.{all, total}
use Rattle.rules.specs.Bounds.{accounts, currencies}
use Rattle.rules.specs.Book.{quantity_of, money_of, security_of, currency_of}
use Rattle.rules.specs.Parts.{without, charged_both}
use Rattle.rules.specs.Roll.{faces, smaller, Offsetting, in_front, against}
use Rattle.rules.specs.declared.Position.{Position}
use Rattle.rules.specs.declared.Book.{Book}
use Rattle.laws.specs.Rows.{without_both}
use Rattle.laws.specs.Cases.{by_test, both_hold, and_hold, zero_is}
use Rattle.laws.specs.Adding.{sum_by_keep, total_keep, cond_sum}
use Rattle.laws.specs.Taking.{without_security, without_all, smaller_newly, smaller_older, pair_stays}
use Rattle.laws.specs.Charging.{is_of, charge_in, worth, weight}
use Rattle.laws.specs.Meetings.{both_charged_long, both_worth, both_weight}
use Rattle.laws.specs.Lessened.{Less, less_same, less_without, less_twice, Lessened, none, more}
use Rattle.laws.specs.Facing.{Facing, facing, apart, faces_less, none_faces, none_faced}

-- ── what a record counts ──

-- its shares for a security; its money for an account and currency, with its sign and by its size
abbrev pub shares_in : ℕ → Position → ℤ
shares_in s p = cond (eqb (security_of p) s) (quantity_of p) (pos 0)

abbrev pub money_in : Book → ℕ → ℕ → Position → ℤ
money_in b a c p = cond (is_of b a c p) (money_of p) (pos 0)

abbrev pub size_in : Book → ℕ → ℕ → Position → ℕ
size_in b a c p = cond (is_of b a c p) (nat_abs (money_of p)) 0

-- its security has a currency
abbrev pub in_currency : Book → Position → Bool
in_currency b p = ltb (currency_of b (security_of p)) currencies

-- ── two records that face each other ──

module _ (p o : Position) (k : ℕ) (f : Facing p o) (hp : k ≤ nat_abs (quantity_of p)) (ho : k ≤ nat_abs (quantity_of o)) where
  pair_shares : (s : ℕ) → shares_in s (without p k) +ℤ shares_in s (without o k) ≡ shares_in s p +ℤ shares_in s o
  pair_shares s =
      rw (without_security p k, without_security o k, f.security)
      (cond_sum (eqb (security_of o) s) _ _ _ _ (pair_stays p o k f.signs hp ho))

  module _ (b : Book) (a c : ℕ) (hc : c < currencies) (cs : List Mils) (long : length cs ≡ accounts * currencies)
      (up : currency_of b (security_of p) < currencies) (uo : currency_of b (security_of o) < currencies) where
    pair_worth : worth b a c (charged_both b cs o p k) (without o k ∷ without p k ∷ []) ≡ worth b a c cs (o ∷ p ∷ [])
    unfolding without_both
    pair_worth = both_worth b a c hc cs (o ∷ p ∷ []) 0 1 k (omega arith) (omega arith) (λ e. omega arith) long uo up

    pair_weight : weight b a c (charged_both b cs o p k) (without o k ∷ without p k ∷ []) ≤ weight b a c cs (o ∷ p ∷ [])
    unfolding without_both
    pair_weight = both_weight b a c hc cs (o ∷ p ∷ []) 0 1 k (omega arith) (omega arith) (λ e. omega arith) long uo up ho hp

    pair_charge : charge_in (charged_both b cs o p k) a c +ℤ (money_in b a c (without o k) +ℤ money_in b a c (without p k))
        ≡ charge_in cs a c +ℤ (money_in b a c o +ℤ money_in b a c p)
    pair_charge =
        let e = rw (sum_by_keep money_of (is_of b a c) (without o k ∷ without p k ∷ []), sum_by_keep money_of (is_of b a c) (o ∷ p ∷ [])) at pair_worth in
        simp zlin (omega (arith, simp zlin at e))

    pair_stake : nat_abs (charge_in (charged_both b cs o p k) a c) + (size_in b a c (without o k) + size_in b a c (without p k))
        ≤ nat_abs (charge_in cs a c) + (size_in b a c o + size_in b a c p)
    unfolding total
    pair_stake =
        let size : Position → ℕ = λ p. nat_abs (money_of p) in
        let e = rw (total_keep size (is_of b a c) (without o k ∷ without p k ∷ []), total_keep size (is_of b a c) (o ∷ p ∷ [])) at pair_weight in
        omega (arith, e)

-- ── one step ──

module _ (b : Book) (p o : Position) (os : List Position) (cs : List Mils) where
  pub against_met : faces p o ≡ true
      → against b p (o ∷ os) cs ≡ in_front (without o (smaller p o)) (against b (without p (smaller p o)) os (charged_both b cs o p (smaller p o)))
  unfolding against
  against_met e = rw e

  pub against_passed : faces p o ≡ false → against b p (o ∷ os) cs ≡ in_front o (against b p os cs)
  unfolding against
  against_passed e = rw e

-- what a record is left with: one of the two has no shares left
one_ends : (p o : Position) → Facing p o → faces (without p (smaller p o)) (without o (smaller p o)) ≡ false
unfolding smaller
one_ends p o f =
    let k = min (nat_abs (quantity_of p)) (nat_abs (quantity_of o)) in
    by_test (ltb (nat_abs (quantity_of o)) (nat_abs (quantity_of p)))
    (λ e. none_faced (without p k) (without o k)
    (zero_is (quantity_of (without o k)) (without_all o k (omega (arith, ltb-true (nat_abs (quantity_of o)) (nat_abs (quantity_of p)) e)))))
    (λ e. none_faces (without p k) (without o k)
    (zero_is (quantity_of (without p k)) (without_all p k (omega (arith, ltb-false (nat_abs (quantity_of o)) (nat_abs (quantity_of p)) e)))))

-- ── what comes of it ──

pub record Met (b : Book) (p : Position) (os : List Position) (cs : List Mils) (x : Offsetting) : Type 0 where
  -- numbers stay, shares and money do not grow, and no one changes direction
  pub older : Lessened os x.older
  pub newly : Less p x.newly
  -- the shares of a security stay in sum
  pub shares : (s : ℕ) → shares_in s x.newly +ℤ sum_by (shares_in s) x.older ≡ shares_in s p +ℤ sum_by (shares_in s) os
  -- no one is left to face
  pub peaceful : all (apart x.newly) x.older ≡ true
  pub long : length x.charges ≡ length cs
  -- charge and open money together stay
  pub worths : (a c : ℕ) → c < currencies
      → charge_in x.charges a c +ℤ (money_in b a c x.newly +ℤ sum_by (money_in b a c) x.older)
      ≡ charge_in cs a c +ℤ (money_in b a c p +ℤ sum_by (money_in b a c) os)
  -- and their sizes do not rise
  pub stakes : (a c : ℕ) → c < currencies
      → nat_abs (charge_in x.charges a c) + (size_in b a c x.newly + total (size_in b a c) x.older)
      ≤ nat_abs (charge_in cs a c) + (size_in b a c p + total (size_in b a c) os)

alone : (b : Book) (p : Position) (cs : List Mils) → Met b p [] cs (record { older = []; newly = p; charges = cs })
unfolding all
alone b p cs =
    record {
      older = none;
      newly = less_same p;
      shares = λ s. refl;
      peaceful = refl;
      long = refl;
      worths = λ a c h. refl;
      stakes = λ a c h. omega arith;
    }

module _ (b : Book) (p o : Position) (os : List Position) (cs : List Mils) (x : Offsetting) where
  -- they do not face each other
  passing : faces p o ≡ false → Met b p os cs x → Met b p (o ∷ os) cs (in_front o x)
  unfolding in_front all total
  passing e m =
      record {
        older = more (less_same o) m.older;
        newly = m.newly;
        shares = λ s. simp zlin (omega (arith, simp zlin at (m.shares s)));
        peaceful = and_hold (ap not (faces_less p x.newly o o m.newly (less_same o) e)) m.peaceful;
        long = m.long;
        worths = λ a c h. simp zlin (omega (arith, simp zlin at (m.worths a c h)));
        stakes = λ a c h. omega (arith, m.stakes a c h);
      }

  -- they do
  module _ (f : Facing p o) (long : length cs ≡ accounts * currencies) (up : in_currency b p ≡ true) (uo : in_currency b o ≡ true) where
    abbrev k : ℕ
    k = smaller p o

    meeting : Met b (without p k) os (charged_both b cs o p k) x → Met b p (o ∷ os) cs (in_front (without o k) x)
    unfolding in_front all total
    meeting m =
        let hp = smaller_newly p o in
        let ho = smaller_older p o in
        let yp = ltb-true (currency_of b (security_of p)) currencies up in
        let yo = ltb-true (currency_of b (security_of o)) currencies uo in
        record {
          older = more (less_without o k ho) m.older;
          newly = less_twice p (without p k) x.newly (less_without p k hp) m.newly;
          shares = λ s. simp zlin (omega (arith, simp zlin at (m.shares s), simp zlin at (pair_shares p o k f hp ho s)));
          peaceful = and_hold (ap not (faces_less (without p k) x.newly (without o k) (without o k) m.newly (less_same (without o k)) (one_ends p o f))) m.peaceful;
          long = m.long ∙ both_charged_long b cs o p k;
          worths = λ a c h. simp zlin (omega (arith, simp zlin at (m.worths a c h), simp zlin at (pair_charge p o k f hp ho b a c h cs long yp yo)));
          stakes = λ a c h. omega (arith, m.stakes a c h, pair_stake p o k f hp ho b a c h cs long yp yo);
        }

pub against_keeps : (b : Book) (p : Position) (os : List Position) (cs : List Mils) → length cs ≡ accounts * currencies
    → in_currency b p ≡ true → all (in_currency b) os ≡ true → Met b p os cs (against b p os cs)
unfolding against all
against_keeps b p [] cs long up uo = alone b p cs
against_keeps b p (o ∷ os) cs long up uo =
    let u = both_hold (in_currency b o) (all (in_currency b) os) uo in
    let n = smaller p o in
    by_test (faces p o)
    (λ e. rw (against_met b p o os cs e)
    (meeting b p o os cs _ (facing p o e) long up u.0
    (against_keeps b (without p n) os (charged_both b cs o p n) (both_charged_long b cs o p n ∙ long) (rw (without_security p n) up) u.1)))
    (λ e. rw (against_passed b p o os cs e) (passing b p o os cs _ e (against_keeps b p os cs long up u.1)))
