-- All newly due records against the older ones, one after the other: what one meeting keeps, all of them keep. A newly due record of
-- 0 shares is charged whole, so those count with their money that have shares left.
use Rattle.std.specs.Prelude.{◌≡◌, refl, Bool, true, false, cond, not, List, [], ◌∷◌, ℕ, ◌+◌, ◌*◌, ◌<◌, ◌≤◌, length, ℤ, pos, nat_abs, ◌+ℤ◌}
use Rattle.std.proofs.Common.{sym, ap, ◌∙◌, arith, ltb-true}
use Rattle.std.proofs.lemmas.Bool.{not-true}
use Rattle.integers.specs.Sizes.{nat_abs_sum}
use Rattle.integers.specs.Linear.{zlin}
use Rattle.integers.specs.Sums.{sum_by}
use Rattle.units.specs.declared.Mils.{Mils}
use Rattle.rules.specs.Words.{all, total}
use Rattle.rules.specs.Bounds.{accounts, currencies}
use Rattle.rules.specs.Book.{quantity_of, money_of, is_zero, security_of, currency_of}
use Rattle.rules.specs.Parts.{charged_to}
use Rattle.rules.specs.Roll.{faces, Offsetting, Offset, against, offset_one, offset_all}
use Rattle.rules.specs.declared.Position.{Position}
use Rattle.rules.specs.declared.Book.{Book}
use Rattle.laws.specs.Cases.{by_test, true_false, both_hold, and_hold}
use Rattle.laws.specs.All.{all_by}
use Rattle.laws.specs.Charging.{is_of, charge_in, charged_for_lem, charged_long}
use Rattle.laws.specs.Lessened.{Less, less_same, less_security, Lessened, none, more, lessened_same, lessened_twice, lessened_all}
use Rattle.laws.specs.Facing.{apart, peace, faces_less, none_faces}
use Rattle.laws.specs.Against.{shares_in, money_in, size_in, in_currency, Met, against_keeps}

-- ── what a record with shares left counts ──

abbrev pub live : Position → Bool
live p = not (is_zero (quantity_of p))

abbrev pub live_money : Book → ℕ → ℕ → Position → ℤ
live_money b a c p = cond (live p) (money_in b a c p) (pos 0)

abbrev pub live_size : Book → ℕ → ℕ → Position → ℕ
live_size b a c p = cond (live p) (size_in b a c p) 0

live_less : (b : Book) (a c : ℕ) (p : Position) → live_size b a c p ≤ size_in b a c p
live_less b a c p = by_test (is_zero (quantity_of p)) (λ e. rw e (omega arith)) (λ e. rw e (omega arith))

-- all of its money, where a record with no shares has none
pub live_all : (b : Book) (a c : ℕ) (p : Position) → (is_zero (quantity_of p) ≡ true → money_of p ≡ pos 0) → live_money b a c p ≡ money_in b a c p
live_all b a c p h = pick (is_zero (quantity_of p)) (is_of b a c p) (money_of p) h
  where
    pick : (z t : Bool) (m : ℤ) → (z ≡ true → m ≡ pos 0) → cond (not z) (cond t m (pos 0)) (pos 0) ≡ cond t m (pos 0)
    pick true true m h = sym (h refl)
    pick true false m h = refl
    pick false t m h = refl

-- ── one ──

pub record Done (b : Book) (p : Position) (os : List Position) (cs : List Mils) (x : Offsetting) : Type 0 where
  pub older : Lessened os x.older
  pub newly : Less p x.newly
  pub shares : (s : ℕ) → shares_in s x.newly +ℤ sum_by (shares_in s) x.older ≡ shares_in s p +ℤ sum_by (shares_in s) os
  pub peaceful : all (apart x.newly) x.older ≡ true
  pub long : length x.charges ≡ length cs
  pub worths : (a c : ℕ) → c < currencies
      → charge_in x.charges a c +ℤ (live_money b a c x.newly +ℤ sum_by (money_in b a c) x.older)
      ≡ charge_in cs a c +ℤ (money_in b a c p +ℤ sum_by (money_in b a c) os)
  pub stakes : (a c : ℕ) → c < currencies
      → nat_abs (charge_in x.charges a c) + (live_size b a c x.newly + total (size_in b a c) x.older)
      ≤ nat_abs (charge_in cs a c) + (size_in b a c p + total (size_in b a c) os)

module _ (b : Book) (p : Position) (os : List Position) (cs : List Mils) where
  -- with shares it meets the older ones
  with_shares_lem : is_zero (quantity_of p) ≡ false → (x : Offsetting) → Met b p os cs x → Done b p os cs x
  with_shares_lem e x m =
      record {
        older = m.older;
        newly = m.newly;
        shares = m.shares;
        peaceful = m.peaceful;
        long = m.long;
        worths = λ a c h. rw (live_all b a c x.newly (m.newly.clean (λ z. true_false z e))) (m.worths a c h);
        stakes = λ a c h. omega (arith, m.stakes a c h, live_less b a c x.newly);
      }

  module _ (long : length cs ≡ accounts * currencies) (up : in_currency b p ≡ true) where
    abbrev whole : List Mils
    whole = charged_to b cs p (money_of p)

    whole_charge : (a c : ℕ) → c < currencies → charge_in whole a c ≡ charge_in cs a c +ℤ money_in b a c p
    whole_charge a c h = charged_for_lem b a c h cs p (money_of p) long (ltb-true (currency_of b (security_of p)) currencies up)

    whole_size_lem : (a c : ℕ) → c < currencies → nat_abs (charge_in whole a c) ≤ nat_abs (charge_in cs a c) + size_in b a c p
    whole_size_lem a c h =
        let e : nat_abs (money_in b a c p) ≡ size_in b a c p = size (is_of b a c p) in
        rw (whole_charge a c h) (omega (arith, nat_abs_sum (charge_in cs a c) (money_in b a c p)))
      where
        size : (t : Bool) → nat_abs (cond t (money_of p) (pos 0)) ≡ cond t (nat_abs (money_of p)) 0
        size true = refl
        size false = refl

    -- without, all its money is charged
    without_shares : is_zero (quantity_of p) ≡ true → Done b p os cs (record { older = os; newly = p; charges = whole })
    without_shares e =
        record {
          older = lessened_same os;
          newly = less_same p;
          shares = λ s. refl;
          peaceful = all_by (apart p) os (λ o. ap not (none_faces p o e));
          long = charged_long b cs p (money_of p);
          worths = λ a c h. rw e (simp zlin (omega (arith, simp zlin at (whole_charge a c h))));
          stakes = λ a c h. rw e (omega (arith, whole_size_lem a c h));
        }

    pub one_keeps : all (in_currency b) os ≡ true → Done b p os cs (offset_one b p os cs)
    unfolding offset_one
    one_keeps uo =
        by_test (is_zero (quantity_of p))
        (λ e. rw e (without_shares e))
        (λ e. rw e (with_shares_lem e (against b p os cs) (against_keeps b p os cs long up uo)))

-- ── all ──

pub record AllDone (b : Book) (ps os : List Position) (cs : List Mils) (r : Offset) : Type 0 where
  pub older : Lessened os r.older
  pub newly : Lessened ps r.newly
  pub shares : (s : ℕ) → sum_by (shares_in s) r.newly +ℤ sum_by (shares_in s) r.older ≡ sum_by (shares_in s) ps +ℤ sum_by (shares_in s) os
  pub peaceful : peace r.newly r.older ≡ true
  pub long : length r.charges ≡ length cs
  pub worths : (a c : ℕ) → c < currencies
      → charge_in r.charges a c +ℤ (sum_by (live_money b a c) r.newly +ℤ sum_by (money_in b a c) r.older)
      ≡ charge_in cs a c +ℤ (sum_by (money_in b a c) ps +ℤ sum_by (money_in b a c) os)
  pub stakes : (a c : ℕ) → c < currencies
      → nat_abs (charge_in r.charges a c) + (total (live_size b a c) r.newly + total (size_in b a c) r.older)
      ≤ nat_abs (charge_in cs a c) + (total (size_in b a c) ps + total (size_in b a c) os)

no_newly : (b : Book) (os : List Position) (cs : List Mils) → AllDone b [] os cs (record { older = os; newly = []; charges = cs })
unfolding all peace total
no_newly b os cs =
    record {
      older = lessened_same os;
      newly = none;
      shares = λ s. refl;
      peaceful = refl;
      long = refl;
      worths = λ a c h. refl;
      stakes = λ a c h. omega arith;
    }

-- one, and then the others
joined : (b : Book) (p : Position) (ps os : List Position) (cs : List Mils) (x : Offsetting) (r : Offset) → Done b p os cs x
    → AllDone b ps x.older x.charges r
    → AllDone b (p ∷ ps) os cs (record { older = r.older; newly = x.newly ∷ r.newly; charges = r.charges })
unfolding all peace total
joined b p ps os cs x r d m =
    let n = x.newly in
    record {
      older = lessened_twice d.older m.older;
      newly = more d.newly m.newly;
      shares = λ s. simp zlin (omega (arith, simp zlin at (d.shares s), simp zlin at (m.shares s)));
      peaceful =
          and_hold
          (lessened_all (apart n) (apart n) (λ o q h e. ap not (faces_less n n o q (less_same n) h (not-true (faces n o) e))) m.older d.peaceful)
          m.peaceful;
      long = m.long ∙ d.long;
      worths = λ a c h. simp zlin (omega (arith, simp zlin at (d.worths a c h), simp zlin at (m.worths a c h)));
      stakes = λ a c h. omega (arith, d.stakes a c h, m.stakes a c h);
    }

pub same_currency : (b : Book) (p q : Position) → Less p q → in_currency b p ≡ true → in_currency b q ≡ true
same_currency b p q h e = rw (less_security p q h) e

pub all_keeps : (b : Book) (ps os : List Position) (cs : List Mils) → length cs ≡ accounts * currencies
    → all (in_currency b) ps ≡ true → all (in_currency b) os ≡ true → AllDone b ps os cs (offset_all b ps os cs)
unfolding offset_all all
all_keeps b [] os cs long up uo = no_newly b os cs
all_keeps b (p ∷ ps) os cs long up uo =
    let u = both_hold (in_currency b p) (all (in_currency b) ps) up in
    let d = one_keeps b p os cs long u.0 uo in
    let x = offset_one b p os cs in
    joined b p ps os cs x (offset_all b ps x.older x.charges) d
    (all_keeps b ps x.older x.charges (d.long ∙ long) u.1 (lessened_all (in_currency b) (in_currency b) (same_currency b) d.older uo))
