-- What a record owes and wants, by its due day, its security and its sign; and a holding that is lowered.
use Rattle.std.specs.Prelude.{◌≡◌, refl, true, false, List, ℕ, ◌≤◌, ◌<◌, length, get_or, set, ℤ, pos, negsuc, nat_abs}
use Rattle.std.proofs.Common.{arith, get_or-set_same, get_or-set_other}
use Rattle.std.proofs.Math.Decide.{ℕ_discrete, dec_lt}
use Rattle.std.proofs.Math.Seq.{set_out}
use Rattle.integers.specs.Signs.{is_negative}
use Rattle.rules.specs.Book.{quantity_of}
use Rattle.rules.specs.Run.{short_of, long_of}
use Rattle.rules.specs.declared.Position.{Position}
use Rattle.laws.specs.Cases.{true_false}
use Rattle.laws.specs.Walk.{is_due_in, owes, wants}

-- ── by the sign of a quantity ──

short_yes : (q : ℤ) → is_negative q ≡ true → nat_abs q ≡ short_of q
unfolding short_of
short_yes (pos n) e = true_false e refl
short_yes (negsuc n) e = refl

short_no : (q : ℤ) → is_negative q ≡ false → 0 ≡ short_of q
unfolding short_of
short_no (pos n) e = refl
short_no (negsuc n) e = true_false refl e

long_yes : (q : ℤ) → is_negative q ≡ false → nat_abs q ≡ long_of q
unfolding long_of
long_yes (pos n) e = refl
long_yes (negsuc n) e = true_false refl e

long_no : (q : ℤ) → is_negative q ≡ true → 0 ≡ long_of q
unfolding long_of
long_no (pos n) e = true_false e refl
long_no (negsuc n) e = refl

-- ── of a record ──

module _ (d s : ℕ) (p : Position) where
  pub owes_not : is_due_in d s p ≡ false → 0 ≡ owes d s p
  unfolding owes
  owes_not e = rw e

  pub wants_not : is_due_in d s p ≡ false → 0 ≡ wants d s p
  unfolding wants
  wants_not e = rw e

  module _ (due : is_due_in d s p ≡ true) where
    pub owes_short : is_negative (quantity_of p) ≡ true → nat_abs (quantity_of p) ≡ owes d s p
    unfolding owes
    owes_short e = rw due (short_yes (quantity_of p) e)

    pub owes_long : is_negative (quantity_of p) ≡ false → 0 ≡ owes d s p
    unfolding owes
    owes_long e = rw due (short_no (quantity_of p) e)

    pub wants_long : is_negative (quantity_of p) ≡ false → nat_abs (quantity_of p) ≡ wants d s p
    unfolding wants
    wants_long e = rw due (long_yes (quantity_of p) e)

    pub wants_short : is_negative (quantity_of p) ≡ true → 0 ≡ wants d s p
    unfolding wants
    wants_short e = rw due (long_no (quantity_of p) e)

-- ── one holding is lowered: none is higher ──

pub lowered : (hs : List ℕ) (i j v : ℕ) → v ≤ get_or hs i 0 → get_or (set hs i v) j 0 ≤ get_or hs j 0
lowered hs i j v h = go (ℕ_discrete j i) (dec_lt i (length hs))
  where
    go : Dec (j ≡ i) → Dec (i < length hs) → get_or (set hs i v) j 0 ≤ get_or hs j 0
    go (yes e) (yes l) = rw e (rw (get_or-set_same hs i v 0 l) h)
    go (yes e) (no l) = rw (set_out hs i v (omega arith)) (omega arith)
    go (no e) l = rw (get_or-set_other hs i j v 0 e) (omega arith)
