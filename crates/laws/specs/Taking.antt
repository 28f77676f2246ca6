-- A part of k shares taken off a record: what stays, what falls by k, and how the money divides. Who meets whom, and by how much.
use Rattle.std.specs.Prelude.{◌≡◌, Bool, true, false, not, ℕ, ◌+◌, ◌-◌, ◌<◌, ◌≤◌, eqb, ℤ, pos, negsuc, ◌+ℤ◌}
use Rattle.std.proofs.Math.Path.{refl, sym}
use Rattle.std.proofs.Common.{◌∙◌, arith}
use Rattle.std.specs.Bool.{beq}
use Rattle.std.proofs.Math.IntN.{nat_abs}
use borrow.Author.Tests.{eqb-true, eqb-false, eq-eqb, ne_eqb}
use Rattle.integers.specs.Signs.{is_negative, signed, toward_zero_size, toward_zero_all, toward_zero_sign, toward_zero_pair}
use Rattle.units_rounded.proofs.PartLaws.{part_sign, part_le, part_all, part_split, part_rest}
use Rattle.rules.specs.Book.{quantity_of, money_of, is_zero, due_of, account_of, security_of}
use Rattle.rules.specs.Parts.{part_money, without}
use Rattle.rules.specs.Roll.{opposite, smaller}
use Rattle.rules.specs.Run.{short_of, long_of}
use Rattle.rules.specs.declared.Position.{Position}
use Rattle.laws.specs.Cases.{by_test, both_hold}

module _ (p : Position) (k : ℕ) where
  -- ── the number stays, and so do due day, account and security ──

  pub without_number : (without p k).number ≡ p.number
  unfolding without
  without_number = refl

  pub without_due : due_of (without p k) ≡ due_of p
  unfolding due_of
  without_due = rw without_number

  pub without_account : account_of (without p k) ≡ account_of p
  unfolding account_of
  without_account = rw without_number

  pub without_security : security_of (without p k) ≡ security_of p
  unfolding security_of
  without_security = rw without_number

  -- ── shares ──

  -- the size of its quantity falls by k
  pub without_size : nat_abs (quantity_of (without p k)) ≡ nat_abs (quantity_of p) - k
  unfolding without
  without_size = toward_zero_size (quantity_of p) k

  pub without_falls : k ≤ nat_abs (quantity_of p) → nat_abs (quantity_of (without p k)) + k ≡ nat_abs (quantity_of p)
  without_falls h = omega (arith, without_size)

  -- its sign stays while some is left
  pub without_sign : k < nat_abs (quantity_of p) → is_negative (quantity_of (without p k)) ≡ is_negative (quantity_of p)
  unfolding without
  without_sign h = toward_zero_sign (quantity_of p) k h

  -- nothing is left exactly where k is all
  pub without_all : nat_abs (quantity_of p) ≤ k → quantity_of (without p k) ≡ pos 0
  unfolding without
  without_all h = toward_zero_all (quantity_of p) k h

  pub none_left : k ≤ nat_abs (quantity_of p) → is_zero (quantity_of (without p k)) ≡ eqb k (nat_abs (quantity_of p))
  unfolding is_zero
  none_left h =
      let had = nat_abs (quantity_of p) in
      let has = nat_abs (quantity_of (without p k)) in
      by_test (eqb k had)
      (λ e. eq-eqb has 0 (omega (arith, without_size, eqb-true k had e)) ∙ sym e)
      (λ e. ne_eqb has 0 (λ z. eqb-false k had e (omega (arith, without_size))) ∙ sym e)

  -- ── money ──

  -- the money of the rest and the part's money are the money
  pub without_money : money_of (without p k) +ℤ part_money p k ≡ money_of p
  unfolding without part_money
  without_money = part_split (money_of p) (quantity_of p) k

  -- the part's money has the sign of the money, and is no larger
  pub part_like : part_money p k ≡ signed (is_negative (money_of p)) (nat_abs (part_money p k))
  unfolding part_money
  part_like = part_sign (money_of p) (quantity_of p) k

  pub part_within : k ≤ nat_abs (quantity_of p) → nat_abs (part_money p k) ≤ nat_abs (money_of p)
  unfolding part_money
  part_within h = part_le (money_of p) (quantity_of p) k h

  -- so their sizes add up too
  pub without_sizes : k ≤ nat_abs (quantity_of p) → nat_abs (money_of (without p k)) + nat_abs (part_money p k) ≡ nat_abs (money_of p)
  unfolding without part_money
  without_sizes h = part_rest (money_of p) (quantity_of p) k h

-- all of a record's shares carry all its money
pub all_money : (p : Position) → 0 < nat_abs (quantity_of p) → part_money p (nat_abs (quantity_of p)) ≡ money_of p
unfolding part_money
all_money p h = part_all (money_of p) (quantity_of p) h

-- ── two records that face each other ──

-- they have opposite signs
unlike : (x y : Bool) → not (beq x y) ≡ true → y ≡ not x
unlike true true e = sym e
unlike true false e = refl
unlike false true e = refl
unlike false false e = e

pub opposite_signs : (p o : Position) → opposite p o ≡ true → is_negative (quantity_of o) ≡ not (is_negative (quantity_of p))
unfolding opposite
opposite_signs p o e =
    let x = both_hold (not (is_zero (quantity_of p))) _ e in
    let y = both_hold (not (is_zero (quantity_of o))) _ x.1 in
    unlike (is_negative (quantity_of p)) (is_negative (quantity_of o)) y.1

-- what they take off each other is no more than either has
pub smaller_newly : (p o : Position) → smaller p o ≤ nat_abs (quantity_of p)
unfolding smaller
smaller_newly p o = omega arith

pub smaller_older : (p o : Position) → smaller p o ≤ nat_abs (quantity_of o)
unfolding smaller
smaller_older p o = omega arith

-- and the sum of their shares stays
pub pair_stays : (p q : Position) (k : ℕ) → is_negative (quantity_of q) ≡ not (is_negative (quantity_of p))
    → k ≤ nat_abs (quantity_of p) → k ≤ nat_abs (quantity_of q)
    → quantity_of (without p k) +ℤ quantity_of (without q k) ≡ quantity_of p +ℤ quantity_of q
unfolding without
pair_stays p q k o h l = toward_zero_pair (quantity_of p) (quantity_of q) k o h l

-- ── shares to deliver are the size of a negative quantity, shares to receive of a positive one ──

pub short_size : (q : ℤ) → short_of q ≤ nat_abs q
unfolding short_of
short_size (pos n) = omega arith
short_size (negsuc n) = omega arith

pub long_size : (q : ℤ) → long_of q ≤ nat_abs q
unfolding long_of
long_size (pos n) = omega arith
long_size (negsuc n) = omega arith

pub short_sign : (q : ℤ) → 0 < short_of q → is_negative q ≡ true
unfolding short_of
short_sign (pos n) h = absurd (omega arith)
short_sign (negsuc n) h = refl

pub long_sign : (q : ℤ) → 0 < long_of q → is_negative q ≡ false
unfolding long_of
long_sign (pos n) h = refl
long_sign (negsuc n) h = absurd (omega arith)
