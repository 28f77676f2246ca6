-- A record lessened: its number stays, its shares and its money do not grow, and its shares keep their direction while some are left.
-- One whose shares end has no money left. And records lessened one by one.
use Rattle.std.specs.Prelude.{◌≡◌, refl, Bool, true, false, List, [], ◌∷◌, ◌++◌, map, ℕ, suc, ◌<◌, ◌≤◌, length, ℤ, pos, nat_abs}
use Rattle.std.proofs.Common.{sym, ap, ◌∙◌, arith, ne_eqb}
use Rattle.std.proofs.lemmas.Bool.{eqb-false}
use Rattle.integers.specs.Sizes.{nat_abs_zero}
use Rattle.integers.specs.Signs.{is_negative}
use Rattle.rules.specs.Words.{all}
use Rattle.rules.specs.Book.{quantity_of, money_of, is_zero, due_of, account_of, security_of}
use Rattle.rules.specs.Sound.{ascends}
use Rattle.rules.specs.Parts.{without, part_money}
use Rattle.rules.specs.declared.Position.{Position}
use Rattle.laws.specs.Cases.{by_test, both_hold, and_hold, is_zero_lem}
use Rattle.laws.specs.Order.{same_numbers_ascend}
use Rattle.laws.specs.Taking.{without_number, without_size, without_sign, without_sizes, all_money}

-- the test for zero, of what is not
pub some_left : (z : ℤ) → is_zero z ≡ false → 0 < nat_abs z
unfolding is_zero
some_left z e = omega (arith, eqb-false (nat_abs z) 0 e)

pub left_some : (z : ℤ) → 0 < nat_abs z → is_zero z ≡ false
unfolding is_zero
left_some z h = ne_eqb (nat_abs z) 0 (λ e. omega arith)

-- ── one record ──

-- it has money only where it has shares
abbrev pub Clean : Position → Type 0
Clean p = is_zero (quantity_of p) ≡ true → money_of p ≡ pos 0

pub record Less (p q : Position) : Type 0 where
  pub number : q.number ≡ p.number
  pub shares : nat_abs (quantity_of q) ≤ nat_abs (quantity_of p)
  pub sign : is_zero (quantity_of q) ≡ false → is_negative (quantity_of q) ≡ is_negative (quantity_of p)
  pub money : nat_abs (money_of q) ≤ nat_abs (money_of p)
  pub clean : Clean p → Clean q

pub less_same : (p : Position) → Less p p
less_same p = record { number = refl; shares = omega arith; sign = λ e. refl; money = omega arith; clean = λ c. c }

-- what was left after was left before
pub less_some : (p q : Position) → Less p q → is_zero (quantity_of q) ≡ false → is_zero (quantity_of p) ≡ false
less_some p q h e = left_some (quantity_of p) (omega (arith, some_left (quantity_of q) e))

pub less_twice : (p q r : Position) → Less p q → Less q r → Less p r
less_twice p q r h k =
    record {
      number = k.number ∙ h.number;
      shares = omega arith;
      sign = λ e. k.sign e ∙ h.sign (less_some q r k e);
      money = omega arith;
      clean = λ c. k.clean (h.clean c);
    }

-- taken to its last share, a record has no money left
without_clean : (p : Position) (k : ℕ) → k ≤ nat_abs (quantity_of p) → Clean p → Clean (without p k)
without_clean p k h c e =
    let sizes = without_sizes p k h in
    let none : nat_abs (quantity_of (without p k)) ≡ 0 = ap nat_abs (is_zero_lem (quantity_of (without p k)) e) in
    nat_abs_zero (money_of (without p k))
    (by_test (is_zero (quantity_of p))
    (λ z. let m : nat_abs (money_of p) ≡ 0 = ap nat_abs (c z) in omega arith)
    (λ z. let l = some_left (quantity_of p) z in
    let all : nat_abs (quantity_of p) ≡ k = omega (arith, without_size p k) in
    let part : nat_abs (part_money p k) ≡ nat_abs (money_of p) = ap nat_abs (ap (part_money p) (sym all) ∙ all_money p l) in
    omega arith))

pub less_without : (p : Position) (k : ℕ) → k ≤ nat_abs (quantity_of p) → Less p (without p k)
less_without p k h =
    record {
      number = without_number p k;
      shares = omega (arith, without_size p k);
      sign = λ e. without_sign p k (omega (arith, some_left (quantity_of (without p k)) e, without_size p k));
      money = omega (arith, without_sizes p k h);
      clean = without_clean p k h;
    }

-- due day, account and security stay
module _ (p q : Position) (h : Less p q) where
  pub less_due : due_of q ≡ due_of p
  unfolding due_of
  less_due = rw h.number

  pub less_account : account_of q ≡ account_of p
  unfolding account_of
  less_account = rw h.number

  pub less_security : security_of q ≡ security_of p
  unfolding security_of
  less_security = rw h.number

-- ── records one by one ──

pub data Lessened : List Position → List Position → Type 0 where
  none : Lessened [] []
  more : {p q : Position} {ps qs : List Position} → Less p q → Lessened ps qs → Lessened (p ∷ ps) (q ∷ qs)

pub lessened_same : (ps : List Position) → Lessened ps ps
lessened_same [] = none
lessened_same (p ∷ ps) = more (less_same p) (lessened_same ps)

pub lessened_twice : {ps qs rs : List Position} → Lessened ps qs → Lessened qs rs → Lessened ps rs
lessened_twice none none = none
lessened_twice (more {p = p} {q = q} h l) (more {q = r} k m) = more (less_twice p q r h k) (lessened_twice l m)

pub lessened_append : {ps qs rs ss : List Position} → Lessened ps qs → Lessened rs ss → Lessened (ps ++ rs) (qs ++ ss)
lessened_append none m = m
lessened_append (more h l) m = more h (lessened_append l m)

-- their numbers stay, so their order and how many they are
pub lessened_numbers : {ps qs : List Position} → Lessened ps qs → map (λ p. p.number) qs ≡ map (λ p. p.number) ps
lessened_numbers none = refl
lessened_numbers (more h l) = rw (h.number, lessened_numbers l)

pub lessened_ascends : (ps qs : List Position) → Lessened ps qs → ascends qs ≡ ascends ps
lessened_ascends ps qs l = same_numbers_ascend ps qs (lessened_numbers l)

pub lessened_length : {ps qs : List Position} → Lessened ps qs → length qs ≡ length ps
lessened_length none = refl
lessened_length (more h l) = ap suc (lessened_length l)

-- a test that a record lessened passes where the record passed another
pub lessened_all : (t u : Position → Bool) → ((p q : Position) → Less p q → t p ≡ true → u q ≡ true) → {ps qs : List Position}
    → Lessened ps qs → all t ps ≡ true → all u qs ≡ true
unfolding all
lessened_all t u f none a = refl
lessened_all t u f (more {p = p} {q = q} {ps = ps} h l) a =
    let b = both_hold (t p) (all t ps) a in
    and_hold (f p q h b.0) (lessened_all t u f l b.1)
