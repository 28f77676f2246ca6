-- One newly due record and one older one, as the code has them: the two records, and the charge of their account and currency.
use Rattle.std.specs.Prelude.{true, false, cond, ◌≡◌, ℕ, ◌+◌, ◌/◌, ◌%◌, ◌<◌, ◌≤◌, ◌^◌, eqb, nat_abs, ◌+ℤ◌}
use Rattle.std.proofs.Common.{sym, ap, ◌∙◌, arith, eq-eqb, eqb-true}
use Rattle.std.proofs.lemmas.Bool.{eqb-false}
use Rattle.units.specs.Units.{mils_of, mils, most_shares, most_mils}
use Rattle.units.specs.declared.Mils.{Mils}
use Rattle.rules.specs.Book.{quantity_of, money_of, account_of, security_of}
use Rattle.rules.specs.Sound.{same_pair}
use Rattle.rules.specs.Parts.{part_money, without}
use Rattle.rules.specs.Roll.{faces, smaller}
use Rattle.rules.specs.declared.Position.{Position}
use Rattle.laws.specs.Cases.{by_test, and_hold, cond_yes, cond_no}
use Rattle.offsetting_meetings.specs.declared.meetings.Met.{Met}

-- ── one account and one security ──

-- what a position's number says of them, in one comparison
pub pair_same : (p o : Position) → eqb (p.number % 2_048) (o.number % 2_048) ≡ same_pair p o
unfolding same_pair account_of security_of
pair_same p o =
    let m = p.number in
    let n = o.number in
    by_test (eqb (m % 2_048) (n % 2_048))
    (λ e. let h = eqb-true (m % 2_048) (n % 2_048) e in
    e ∙ sym (and_hold (eq-eqb (m / 32 % 64) (n / 32 % 64) (omega arith)) (eq-eqb (m % 32) (n % 32) (omega arith))))
    (λ e. let h = eqb-false (m % 2_048) (n % 2_048) e in
    by_test (eqb (m / 32 % 64) (n / 32 % 64))
    (λ a. by_test (eqb (m % 32) (n % 32))
    (λ s. absurd (h (same_low m n (eqb-true (m / 32 % 64) (n / 32 % 64) a) (eqb-true (m % 32) (n % 32) s))))
    (λ s. rw (e, a, s)))
    (λ a. rw (e, a)))
  where
    same_low : (m n : ℕ) → m / 32 % 64 ≡ n / 32 % 64 → m % 32 ≡ n % 32 → m % 2_048 ≡ n % 2_048
    same_low m n a s = omega arith

-- ── a meeting ──

-- the smaller quantity is taken from both, each part's money is charged: the older one's first
unfoldable pub met_of : Mils → Position → Position → ℕ → Met
met_of charge p o k =
    record { older = without o k; newly = without p k; charge = mils (mils_of charge +ℤ part_money o k +ℤ part_money p k) }

unfoldable pub passed_of : Mils → Position → Position → Met
passed_of charge p o = record { older = o; newly = p; charge = charge }

unfoldable pub meeting_of : Mils → Position → Position → Met
meeting_of charge p o = cond (faces p o) (met_of charge p o (smaller p o)) (passed_of charge p o)

pub meeting_met : (charge : Mils) (p o : Position) → faces p o ≡ true → meeting_of charge p o ≡ met_of charge p o (smaller p o)
unfolding meeting_of
meeting_met charge p o e = cond_yes _ _ e

pub meeting_passed : (charge : Mils) (p o : Position) → faces p o ≡ false → meeting_of charge p o ≡ passed_of charge p o
unfolding meeting_of
meeting_passed charge p o e = cond_no _ _ e

-- by its parts, taken with a number k that is the smaller quantity
pub met_is : (charge : Mils) (p o : Position) (k : ℕ) (older newly : Position) (c : Mils) → faces p o ≡ true → k ≡ smaller p o
    → older ≡ without o k → newly ≡ without p k → mils_of c ≡ mils_of charge +ℤ part_money o k +ℤ part_money p k
    → ◌≡◌ {A = Met} (record { older = older; newly = newly; charge = c }) (meeting_of charge p o)
unfolding met_of
met_is charge p o k older newly c f e eo en ec =
    let made : ◌≡◌ {A = Met} (record { older = older; newly = newly; charge = c }) (met_of charge p o k) =
    (λ i. record { older = eo i; newly = en i; charge = mils (ec i) }) in
    made ∙ ap (met_of charge p o) e ∙ sym (meeting_met charge p o f)

-- ── what it asks ──

-- the bounds of a record
pub record Sized (p : Position) : Type 0 where
  pub shares : nat_abs (quantity_of p) ≤ most_shares
  pub money : nat_abs (money_of p) ≤ most_mils

-- both are within them, and the charge has room for the money of both
pub record MeetAsks (charge : Mils) (p o : Position) : Type 0 where
  pub newly : Sized p
  pub older : Sized o
  pub room : nat_abs (mils_of charge) + (most_mils + most_mils) < 2 ^ 63
