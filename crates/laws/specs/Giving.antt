-- Who gives what: each record's side with the smaller of what it owes and what its account still holds, none left out.
-- With what has something to give, these are the rule's givers; and a meeting only takes its shares off one of them.
use Rattle.std.specs.Prelude.{◌≡◌, refl, ◌≢◌, cond, List, [], ◌∷◌, ℕ, zero, suc, ◌-◌, min, ◌≤◌, ◌<◌, eqb, set, length}
use Rattle.std.proofs.Common.{sym, ap, ◌∙◌, subst, zero-le, suc-le-suc, arith, eq-eqb, ne_eqb}
use Rattle.std.proofs.Math.Path.{fun_ext}
use Rattle.std.proofs.Math.Decide.{ℕ_discrete}
use Rattle.rules.specs.Run.{Side}
use Rattle.laws.specs.Merging.{less}
use Rattle.laws.specs.Spare.{no_side, at, Spent}

-- what accounts hold, with k less at account a
unfoldable pub less_at : (ℕ → ℕ) → ℕ → ℕ → ℕ → ℕ
less_at h a k x = cond (eqb x a) (h x - k) (h x)

pub less_in : (h : ℕ → ℕ) (a k x : ℕ) → x ≡ a → less_at h a k x ≡ h x - k
unfolding less_at
less_in h a k x e = rw (eq-eqb x a e)

pub less_out : (h : ℕ → ℕ) (a k x : ℕ) → x ≢ a → less_at h a k x ≡ h x
unfolding less_at
less_out h a k x e = rw (ne_eqb x a e)

pub less_none : (h : ℕ → ℕ) (a k : ℕ) → k ≡ 0 → less_at h a k ≡ h
less_none h a k e = fun_ext (λ x. go x (ℕ_discrete x a))
  where
    go : (x : ℕ) → Dec (x ≡ a) → less_at h a k x ≡ h x
    go x (yes q) = less_in h a k x q ∙ omega arith
    go x (no q) = less_out h a k x q

-- a side with other shares
abbrev pub with_shares : Side → ℕ → Side
with_shares o k = record { number = o.number; account = o.account; shares = k }

-- the sides of what is owed, and what is given of it from holdings h
unfoldable pub given : List Side → (ℕ → ℕ) → List Side
given [] h = []
given (o ∷ os) h = let k = min o.shares (h o.account) in with_shares o k ∷ given os (less_at h o.account k)

-- who gives nothing leaves the holdings as they are
pub given_none : (o : Side) (os : List Side) (h : ℕ → ℕ) → min o.shares (h o.account) ≡ 0 → given (o ∷ os) h ≡ with_shares o 0 ∷ given os h
unfolding given
given_none o os h e = rw (less_none h o.account (min o.shares (h o.account)) e, e)

-- the first that gives something gives the smaller of what it owes and what its account holds at the start
pub given_first : (os : List Side) (i : ℕ) (h : ℕ → ℕ) → Spent (given os h) i
    → at (given os h) i ≡ with_shares (at os i) (min (at os i).shares (h (at os i).account))
unfolding given
given_first [] i h z = ap (λ (k : ℕ). with_shares no_side k) (omega arith)
given_first (o ∷ os) zero h z = refl
given_first (o ∷ os) (suc i) h z =
    let e : min o.shares (h o.account) ≡ 0 = z zero (suc-le-suc zero-le) in
    let f = given_none o os h e in
    ap (λ (l : List Side). at l (suc i)) f ∙ given_first os i h (λ j k. sym (ap (λ (l : List Side). (at l (suc j)).shares) f) ∙ z (suc j) (suc-le-suc k))

-- ── only the holdings of those who owe count ──

smaller_same : (o m n : ℕ) → (0 < o → m ≡ n) → min o m ≡ min o n
smaller_same zero m n e = omega arith
smaller_same (suc o) m n e = ap (λ (x : ℕ). min (suc o) x) (e (suc-le-suc zero-le))

pub given_same : (os : List Side) (h h' : ℕ → ℕ) → ((i : ℕ) → 0 < (at os i).shares → h (at os i).account ≡ h' (at os i).account) → given os h ≡ given os h'
unfolding given less_at
given_same [] h h' e = refl
given_same (o ∷ os) h h' e =
    let k : ℕ = min o.shares (h o.account) in
    let q : k ≡ min o.shares (h' o.account) = smaller_same o.shares (h o.account) (h' o.account) (e zero) in
    ap (λ (l : List Side). with_shares o k ∷ l)
    (given_same os (less_at h o.account k) (less_at h' o.account k) (λ i l. ap (λ (v : ℕ). cond (eqb (at os i).account o.account) (v - k) v) (e (suc i) l)))
    ∙ ap (λ (j : ℕ). with_shares o j ∷ given os (less_at h' o.account j)) q

-- ── a meeting of k shares: the giver's account holds k less, and the others who owe hold what they held ──

less_most : (h : ℕ → ℕ) (a k x : ℕ) → less_at h a k x ≤ h x
less_most h a k x = go (ℕ_discrete x a)
  where
    go : Dec (x ≡ a) → less_at h a k x ≤ h x
    go (yes q) = omega (arith, less_in h a k x q)
    go (no q) = omega (arith, less_out h a k x q)

less_twice : (h h' : ℕ → ℕ) (a k e x : ℕ) → k ≤ e → h' x ≡ less_at h a k x → less_at h' a (e - k) x ≡ less_at h a e x
less_twice h h' a k e x l q = go (ℕ_discrete x a)
  where
    go : Dec (x ≡ a) → less_at h' a (e - k) x ≡ less_at h a e x
    go (yes y) = less_in h' a (e - k) x y ∙ omega (arith, less_in h a k x y) ∙ sym (less_in h a e x y)
    go (no y) = less_out h' a (e - k) x y ∙ q ∙ less_out h a k x y ∙ sym (less_out h a e x y)

nothing_more : (o m n : ℕ) → min o m ≡ 0 → (0 < o → n ≤ m) → min o n ≡ 0
nothing_more zero m n e l = omega arith
nothing_more (suc o) m n e l = let z : n ≤ m = l (suc-le-suc zero-le) in omega arith

pub given_less : (os : List Side) (i k : ℕ) (h h' : ℕ → ℕ) → Spent (given os h) i → 0 < k → k ≤ (at (given os h) i).shares
    → ((j : ℕ) → 0 < (at os j).shares → h' (at os j).account ≡ less_at h (at os i).account k (at os j).account)
    → given (set os i (less (at os i) k)) h' ≡ set (given os h) i (less (at (given os h) i) k)
unfolding given
given_less [] i k h h' z p l q = absurd (omega arith)
given_less (o ∷ os) zero k h h' z p l q =
    let a : ℕ = o.account in
    let e : ℕ = min o.shares (h a) in
    let y : h' a ≡ h a - k = q zero (omega arith) ∙ less_in h a k a refl in
    let m : min (o.shares - k) (h' a) ≡ e - k = omega arith in
    ap (λ (j : ℕ). with_shares o j ∷ given os (less_at h' a j)) m
    ∙ ap (λ (r : List Side). with_shares o (e - k) ∷ r) (given_same os (less_at h' a (e - k)) (less_at h a e) (λ j w. less_twice h h' a k e (at os j).account l (q (suc j) w)))
given_less (o ∷ os) (suc i) k h h' z p l q =
    let e : min o.shares (h o.account) ≡ 0 = z zero (suc-le-suc zero-le) in
    let f : given (o ∷ os) h ≡ with_shares o 0 ∷ given os h = given_none o os h e in
    let e' : min o.shares (h' o.account) ≡ 0 =
    nothing_more o.shares (h o.account) (h' o.account) e (λ w. omega (arith, q zero w, less_most h (at os i).account k o.account)) in
    given_none o (set os i (less (at os i) k)) h' e'
    ∙ ap (λ (r : List Side). with_shares o 0 ∷ r)
    (given_less os i k h h' (λ j w. sym (ap (λ (r : List Side). (at r (suc j)).shares) f) ∙ z (suc j) (suc-le-suc w)) p
    (subst (λ (r : List Side). k ≤ (at r (suc i)).shares) f l) (λ j w. q (suc j) w))
    ∙ sym (ap (λ (r : List Side). set r (suc i) (less (at r (suc i)) k)) f)

pub given_length : (os : List Side) (h : ℕ → ℕ) → length (given os h) ≡ length os
unfolding given
given_length [] h = refl
given_length (o ∷ os) h = ap suc (given_length os (less_at h o.account (min o.shares (h o.account))))
