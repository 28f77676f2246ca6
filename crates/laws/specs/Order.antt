-- Records that ascend by number: kept ones do, one ascending list after another does, and only the numbers count.
use Rattle.std.specs.Prelude.{◌≡◌, refl, Bool, true, ◌&&◌, List, [], ◌∷◌, ◌++◌, map, ℕ, ◌<◌, ◌≤◌, leb, ltb}
use Rattle.std.proofs.Common.{sym, ap, ◌∙◌, arith, ltb-true, lt-ltb, leb-true}
use Rattle.rules.specs.Words.{all, keep}
use Rattle.rules.specs.Sound.{ascends, ascends_from}
use Rattle.rules.specs.declared.Position.{Position}
use Rattle.laws.specs.Cases.{by_test, both_hold, and_hold}
use Rattle.laws.specs.All.{all_so}
use Rattle.laws.specs.Keeping.{keep_none, keep_yes, keep_no}

-- ── from a number on ──

pub from_lower : (m n : ℕ) (ps : List Position) → m ≤ n → ascends_from n ps ≡ true → ascends_from m ps ≡ true
unfolding ascends_from
from_lower m n [] h a = refl
from_lower m n (p ∷ ps) h a =
    let b = both_hold (ltb n p.number) (ascends_from p.number ps) a in
    and_hold (lt-ltb m p.number (omega (arith, ltb-true n p.number b.0))) b.1

pub from_ascends : (n : ℕ) (ps : List Position) → ascends_from n ps ≡ true → ascends ps ≡ true
unfolding ascends_from ascends
from_ascends n [] a = refl
from_ascends n (p ∷ ps) a = (both_hold (ltb n p.number) (ascends_from p.number ps) a).1

pub from_above : (n : ℕ) (ps : List Position) → ascends_from n ps ≡ true → all (λ p. ltb n p.number) ps ≡ true
unfolding ascends_from all
from_above n [] a = refl
from_above n (p ∷ ps) a =
    let b = both_hold (ltb n p.number) (ascends_from p.number ps) a in
    and_hold b.0 (from_above n ps (from_lower n p.number ps (omega (arith, ltb-true n p.number b.0)) b.1))

-- ── kept records ──

keep_from : (t : Position → Bool) (m n : ℕ) (ps : List Position) → m ≤ n → ascends_from n ps ≡ true → ascends_from m (keep t ps) ≡ true
unfolding ascends_from
keep_from t m n [] h a = rw (keep_none t)
keep_from t m n (p ∷ ps) h a =
    let b = both_hold (ltb n p.number) (ascends_from p.number ps) a in
    let l : n < p.number = ltb-true n p.number b.0 in
    let kept = keep_from t p.number p.number ps (omega arith) b.1 in
    let dropped = keep_from t m p.number ps (omega arith) b.1 in
    by_test (t p)
    (λ e. rw (keep_yes t p ps e) (and_hold (lt-ltb m p.number (omega arith)) kept))
    (λ e. rw (keep_no t p ps e) dropped)

-- kept records ascend where the records do
pub keep_ascends : (t : Position → Bool) (ps : List Position) → ascends ps ≡ true → ascends (keep t ps) ≡ true
unfolding ascends
keep_ascends t [] a = rw (keep_none t)
keep_ascends t (p ∷ ps) a =
    by_test (t p)
    (λ e. rw (keep_yes t p ps e) (keep_from t p.number p.number ps (omega arith) a))
    (λ e. rw (keep_no t p ps e) (from_ascends p.number (keep t ps) (keep_from t p.number p.number ps (omega arith) a)))

-- ── one ascending list after another ──

-- every number of ps is below every number of qs
abbrev beneath : List Position → Position → Bool
beneath qs p = all (λ q. ltb p.number q.number) qs

unfoldable pub below : List Position → List Position → Bool
below ps qs = all (beneath qs) ps

from_append : (n : ℕ) (ps qs : List Position) → ascends_from n ps ≡ true → ascends qs ≡ true
    → all (λ q. ltb n q.number) qs ≡ true → below ps qs ≡ true → ascends_from n (ps ++ qs) ≡ true
unfolding ascends_from ascends below all
from_append n [] [] a b h l = refl
from_append n [] (q ∷ qs) a b h l = and_hold (both_hold (ltb n q.number) (all (λ q. ltb n q.number) qs) h).0 b
from_append n (p ∷ ps) qs a b h l =
    let x = both_hold (ltb n p.number) (ascends_from p.number ps) a in
    let y = both_hold (beneath qs p) (all (beneath qs) ps) l in
    and_hold x.0 (from_append p.number ps qs x.1 b y.0 y.1)

pub ascends_append : (ps qs : List Position) → ascends ps ≡ true → ascends qs ≡ true → below ps qs ≡ true → ascends (ps ++ qs) ≡ true
unfolding ascends below all
ascends_append [] qs a b l = b
ascends_append (p ∷ ps) qs a b l =
    let y = both_hold (beneath qs p) (all (beneath qs) ps) l in
    from_append p.number ps qs a b y.0 y.1

-- with a number n between them
pub below_by : (n : ℕ) (ps qs : List Position) → all (λ p. ltb p.number n) ps ≡ true → all (λ q. leb n q.number) qs ≡ true
    → below ps qs ≡ true
unfolding below
below_by n ps qs h k =
    all_so (λ p. ltb p.number n) (beneath qs) ps
    (λ p e. all_so (λ q. leb n q.number) (λ q. ltb p.number q.number) qs
    (λ q f. lt-ltb p.number q.number (omega (arith, ltb-true p.number n e, leb-true n q.number f))) k)
    h

-- ── only the numbers count ──

-- the test of the order, as it sees numbers alone
numbers_from : ℕ → List ℕ → Bool
numbers_from n [] = true
numbers_from n (m ∷ ms) = ltb n m && numbers_from m ms

numbers_ascend : List ℕ → Bool
numbers_ascend [] = true
numbers_ascend (m ∷ ms) = numbers_from m ms

from_numbers : (n : ℕ) (ps : List Position) → ascends_from n ps ≡ numbers_from n (map (λ p. p.number) ps)
unfolding ascends_from numbers_from
from_numbers n [] = refl
from_numbers n (p ∷ ps) = ap (λ (b : Bool). ltb n p.number && b) (from_numbers p.number ps)

ascends_numbers : (ps : List Position) → ascends ps ≡ numbers_ascend (map (λ p. p.number) ps)
unfolding ascends numbers_ascend
ascends_numbers [] = refl
ascends_numbers (p ∷ ps) = from_numbers p.number ps

pub same_numbers_ascend : (ps qs : List Position) → map (λ p. p.number) qs ≡ map (λ p. p.number) ps → ascends qs ≡ ascends ps
same_numbers_ascend ps qs e = ascends_numbers qs ∙ ap numbers_ascend e ∙ sym (ascends_numbers ps)
