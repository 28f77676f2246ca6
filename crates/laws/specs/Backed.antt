-- Every meeting is backed: its shares are positive, and at that moment the giver's account holds as many.
use Rattle.std.specs.Prelude.{◌≡◌, refl, ◌≢◌, true, false, cond, List, [], ◌∷◌, ◌++◌, ℕ, zero, suc, ◌+◌, ◌-◌, min, ◌≤◌, ◌<◌, eqb, length, get_or, set}
use Rattle.std.proofs.Common.{sym, ap, ◌∙◌, subst, arith, get_or-set_same, get_or-set_other, eq-eqb, ne_eqb, lt-ltb, ltb-true}
use Rattle.std.proofs.Math.Decide.{ℕ_discrete, dec_lt}
use Rattle.std.proofs.Math.ListN.{get_or-eq_default}
use Rattle.std.proofs.Math.Seq.{set_out}
use Rattle.std.proofs.lemmas.Bool.{eqb-false}
use Rattle.rules.specs.Words.{all, total}
use Rattle.rules.specs.Book.{quantity_of, account_of, open_of, holding_at}
use Rattle.rules.specs.Run.{Side, side, Meeting, Running, short_of, due_in, givers_of, givers, receivers, leaving, filled, meetings_of, meetings, moved, met, taken}
use Rattle.rules.specs.declared.Position.{Position}
use Rattle.rules.specs.declared.Book.{Book}
use Rattle.laws.specs.Cases.{by_test, both_hold, and_hold, cond_none}
use Rattle.laws.specs.Merging.{meeting, leaving_none, leaving_some}
use Rattle.laws.specs.Spare.{some}
use Rattle.laws.specs.SidesOf.{holds, holding_apart}

-- each meeting in turn, as the ones before it leave the book
unfoldable pub Backed : Book → ℕ → Running → List Meeting → Type 0
Backed b s x [] = Unit {0}
Backed b s x (m ∷ ms) = (0 < m.shares) × (m.shares ≤ holds s x.holdings m.giver.account) × Backed b s (met b s x m) ms

-- what the sides have to give from one account
unfoldable pub from_account : ℕ → List Side → ℕ
from_account a gs = total (λ (g : Side). cond (eqb g.account a) g.shares 0) gs

none : (a m : ℕ) → from_account a [] ≤ m
unfolding from_account total
none a m = omega arith

-- ── a meeting leaves an account what it held, less the shares if it gives ──

set_or : (hs : List ℕ) (i v j : ℕ) → j ≢ i → get_or (set hs i v) j 0 ≡ get_or hs j 0
set_or hs i v j n = get_or-set_other hs i j v 0 n

set_least : (hs : List ℕ) (i v w j : ℕ) → w ≤ v → w ≤ get_or hs i 0 → j ≡ i → w ≤ get_or (set hs i v) j 0
set_least hs i v w j a c e = go (dec_lt i (length hs))
  where
    go : Dec (i < length hs) → w ≤ get_or (set hs i v) j 0
    go (yes l) = rw e (rw (get_or-set_same hs i v 0 l) a)
    go (no l) = rw e (rw (set_out hs i v (omega arith)) c)

raised : (hs : List ℕ) (v k j : ℕ) → get_or hs j 0 ≤ get_or (set hs v (get_or hs v 0 + k)) j 0
raised hs v k j = go (ℕ_discrete j v)
  where
    go : Dec (j ≡ v) → get_or hs j 0 ≤ get_or (set hs v (get_or hs v 0 + k)) j 0
    go (yes e) = let q : get_or hs j 0 ≡ get_or hs v 0 = ap (λ (i : ℕ). get_or hs i 0) e in set_least hs v (get_or hs v 0 + k) (get_or hs j 0) j (omega arith) (omega arith) e
    go (no e) = omega (arith, set_or hs v (get_or hs v 0 + k) j e)

moved_giver : (hs : List ℕ) (u v k : ℕ) → get_or hs u 0 - k ≤ get_or (moved hs u v k) u 0
unfolding moved
moved_giver hs u v k =
    let l : List ℕ = set hs u (get_or hs u 0 - k) in
    omega (arith, raised l v k u, set_least hs u (get_or hs u 0 - k) (get_or hs u 0 - k) u (omega arith) (omega arith) refl)

moved_other : (hs : List ℕ) (u v k j : ℕ) → j ≢ u → get_or hs j 0 ≤ get_or (moved hs u v k) j 0
unfolding moved
moved_other hs u v k j n =
    let l : List ℕ = set hs u (get_or hs u 0 - k) in
    omega (arith, raised l v k j, set_or hs u (get_or hs u 0 - k) j n)

-- ── the meetings of one receiver ──

leaving_account : (a : ℕ) (g : Side) (k : ℕ) (l : List Side) → k ≤ g.shares
    → from_account a (leaving g k l) ≡ cond (eqb g.account a) (g.shares - k) 0 + from_account a l
unfolding from_account total
leaving_account a g k l h = go (ℕ_discrete g.shares k)
  where
    go : Dec (g.shares ≡ k) → from_account a (leaving g k l) ≡ cond (eqb g.account a) (g.shares - k) 0 + from_account a l
    go (yes e) = omega (arith, ap (from_account a) (leaving_none g k l e), cond_none (eqb g.account a) (g.shares - k) (omega arith))
    go (no e) = ap (from_account a) (leaving_some g k l (omega arith))

-- every account holds what the sides have to give from it, and e more
abbrev Covers : ℕ → Running → (ℕ → ℕ) → List Side → Type 0
Covers s x e gs = (a : ℕ) → e a + from_account a gs ≤ holds s x.holdings a

-- g is first and gives k: what it has left is kept for it
abbrev kept : (ℕ → ℕ) → Side → ℕ → ℕ → ℕ
kept e g k a = e a + cond (eqb g.account a) (g.shares - k) 0

first_holds : (s : ℕ) (x : Running) (e : ℕ → ℕ) (g : Side) (gs : List Side) → Covers s x e (g ∷ gs) → g.shares ≤ holds s x.holdings g.account
unfolding from_account total
first_holds s x e g gs c = let q = rw (eq-eqb g.account g.account refl) at (c g.account) in omega arith

after_covers : (b : Book) (s : ℕ) (x : Running) (e : ℕ → ℕ) (g r : Side) (k : ℕ) (gs : List Side) → k ≤ g.shares → Covers s x e (g ∷ gs)
    → Covers s (met b s x (meeting g r k)) (kept e g k) gs
unfolding met from_account total
after_covers b s x e g r k gs h c a = go (ℕ_discrete g.account a)
  where
    go : Dec (g.account ≡ a)
        → e a + cond (eqb g.account a) (g.shares - k) 0 + from_account a gs ≤ holds s (moved x.holdings (holding_at g.account s) (holding_at r.account s) k) a
    go (yes q) =
        let t : eqb g.account a ≡ true = eq-eqb g.account a q in
        let f = rw t at (c a) in
        let m = moved_giver x.holdings (holding_at g.account s) (holding_at r.account s) k in
        let m' = subst (λ (i : ℕ). holds s x.holdings i - k ≤ holds s (moved x.holdings (holding_at g.account s) (holding_at r.account s) k) i) q m in
        rw t (omega arith)
    go (no q) =
        let t : eqb g.account a ≡ false = ne_eqb g.account a q in
        let f = rw t at (c a) in
        let m = moved_other x.holdings (holding_at g.account s) (holding_at r.account s) k (holding_at a s) (holding_apart a g.account s (λ y. q (sym y))) in
        rw t (omega arith)

filled_backed : (b : Book) (s : ℕ) (r : Side) (w : ℕ) (gs : List Side) (ms : List Meeting) (x : Running) (e : ℕ → ℕ) → all some gs ≡ true → Covers s x e gs
    → ((y : Running) → Covers s y e (filled r w gs).left → Backed b s y ms) → Backed b s x ((filled r w gs).meetings ++ ms)
unfolding filled Backed all
filled_backed b s r w [] ms x e p c next = next x c
filled_backed b s r w (g ∷ gs) ms x e p c next =
    let k : ℕ = min g.shares w in
    let q = both_hold (some g) (all some gs) p in
    let h : 0 < g.shares = ltb-true 0 g.shares q.0 in
    by_test (eqb w 0)
    (λ z. rw z (rw z at next x c))
    (λ z. let nz = eqb-false w 0 z in
    let next' = rw z at next in
    rw z (
      above_zero w g.shares nz h,
      omega (arith, first_holds s x e g gs c),
      filled_backed b s r (w - k) gs ms (met b s x (meeting g r k)) (kept e g k) q.1 (after_covers b s x e g r k gs (omega arith) c)
          (λ y d. next' y (λ a. omega (arith, d a, leaving_account a g k (filled r (w - k) gs).left (omega arith)))),
    ))
  where
    above_zero : (w m : ℕ) → (w ≡ 0 → ⊥) → 0 < m → 0 < min m w
    above_zero zero m n h = absurd (n refl)
    above_zero (suc w) m n h = omega arith

-- ── all meetings ──

leaving_some_left : (g : Side) (k : ℕ) (l : List Side) → k ≤ g.shares → all some l ≡ true → all some (leaving g k l) ≡ true
unfolding all
leaving_some_left g k l h a = go (ℕ_discrete g.shares k)
  where
    go : Dec (g.shares ≡ k) → all some (leaving g k l) ≡ true
    go (yes e) = ap (all some) (leaving_none g k l e) ∙ a
    go (no e) = ap (all some) (leaving_some g k l (omega arith)) ∙ and_hold (lt-ltb 0 (g.shares - k) (omega arith)) a

filled_some_left : (r : Side) (w : ℕ) (gs : List Side) → all some gs ≡ true → all some (filled r w gs).left ≡ true
unfolding filled all
filled_some_left r w [] a = refl
filled_some_left r w (g ∷ gs) a =
    let k : ℕ = min g.shares w in
    let ih = filled_some_left r (w - k) gs (both_hold (some g) (all some gs) a).1 in
    by_test (eqb w 0) (λ z. rw z a) (λ z. rw z (leaving_some_left g k (filled r (w - k) gs).left (omega arith) ih))

all_backed : (b : Book) (s : ℕ) (rs gs : List Side) (x : Running) → all some gs ≡ true → Covers s x (λ a. 0) gs → Backed b s x (meetings_of rs gs)
unfolding meetings_of Backed
all_backed b s [] gs x p c = tt
all_backed b s (r ∷ rs) gs x p c =
    filled_backed b s r r.shares gs (meetings_of rs (filled r r.shares gs).left) x (λ a. 0) p c
    (λ y d. all_backed b s rs (filled r r.shares gs).left y (filled_some_left r r.shares gs p) d)

-- ── the givers of a book ──

set_most : (hs : List ℕ) (i v : ℕ) → get_or (set hs i v) i 0 ≤ v
set_most hs i v = go (dec_lt i (length hs))
  where
    go : Dec (i < length hs) → get_or (set hs i v) i 0 ≤ v
    go (yes l) = omega (arith, get_or-set_same hs i v 0 l)
    go (no l) = rw (set_out hs i v (omega arith)) (omega (arith, get_or-eq_default hs 0 {n = i} (omega arith)))

givers_some : (s : ℕ) (ps : List Position) (hs : List ℕ) → all some (givers_of s ps hs) ≡ true
unfolding givers_of all
givers_some s [] hs = refl
givers_some s (p ∷ ps) hs =
    let at : ℕ = holding_at (account_of p) s in
    let k : ℕ = min (short_of (quantity_of p)) (get_or hs at 0) in
    let i = givers_some s ps hs in
    let j = givers_some s ps (set hs at (get_or hs at 0 - k)) in
    by_test (eqb k 0) (λ e. rw e i) (λ e. rw e (and_hold (lt-ltb 0 k (positive k (eqb-false k 0 e))) j))
  where
    positive : (k : ℕ) → (k ≡ 0 → ⊥) → 0 < k
    positive zero n = absurd (n refl)
    positive (suc k) n = omega arith

-- one giver more, of k shares, whose account then holds k less
one_giver : (s : ℕ) (p : Position) (k : ℕ) (l : List Side) (hs : List ℕ) (a : ℕ) → k ≤ holds s hs (account_of p)
    → from_account a l ≤ holds s (set hs (holding_at (account_of p) s) (holds s hs (account_of p) - k)) a → from_account a (side p k ∷ l) ≤ holds s hs a
unfolding from_account total
one_giver s p k l hs a h c = go (ℕ_discrete (account_of p) a)
  where
    go : Dec (account_of p ≡ a) → cond (eqb (account_of p) a) k 0 + from_account a l ≤ holds s hs a
    go (yes q) =
        let t : eqb (account_of p) a ≡ true = eq-eqb (account_of p) a q in
        let v : ℕ = holds s hs (account_of p) - k in
        let m = subst (λ (i : ℕ). holds s (set hs (holding_at (account_of p) s) v) i ≤ v) q (set_most hs (holding_at (account_of p) s) v) in
        let e : holds s hs (account_of p) ≡ holds s hs a = ap (holds s hs) q in
        rw t (omega arith)
    go (no q) =
        let t : eqb (account_of p) a ≡ false = ne_eqb (account_of p) a q in
        let e = set_or hs (holding_at (account_of p) s) (holds s hs (account_of p) - k) (holding_at a s) (holding_apart a (account_of p) s (λ y. q (sym y))) in
        rw t (omega arith)

givers_covered : (s : ℕ) (ps : List Position) (hs : List ℕ) (a : ℕ) → from_account a (givers_of s ps hs) ≤ holds s hs a
unfolding givers_of
givers_covered s [] hs a = none a (holds s hs a)
givers_covered s (p ∷ ps) hs a =
    let at : ℕ = holding_at (account_of p) s in
    let k : ℕ = min (short_of (quantity_of p)) (get_or hs at 0) in
    let i = givers_covered s ps hs a in
    let j = givers_covered s ps (set hs at (get_or hs at 0 - k)) a in
    by_test (eqb k 0) (λ e. rw e i) (λ e. rw e (one_giver s p k (givers_of s ps (set hs at (get_or hs at 0 - k))) hs a (omega arith) j))

-- ── the run ──

abbrev pub unmet : Book → Running
unmet b = record { records = open_of b; holdings = b.holdings; charges = b.charges }

pub meetings_backed : (b : Book) (s : ℕ) → Backed b s (unmet b) (meetings b s)
unfolding meetings givers
meetings_backed b s =
    all_backed b s (receivers b s) (givers b s) (unmet b) (givers_some s (due_in b s) b.holdings) (λ a. omega (arith, givers_covered s (due_in b s) b.holdings a))

backed_at : (b : Book) (s : ℕ) (x : Running) (ms : List Meeting) (m : Meeting) (rest : List Meeting) → Backed b s x (ms ++ m ∷ rest)
    → (0 < m.shares) × (m.shares ≤ holds s (taken b s x ms).holdings m.giver.account)
unfolding Backed taken
backed_at b s x [] m rest h = (h.0, h.1)
backed_at b s x (n ∷ ms) m rest h = backed_at b s (met b s x n) ms m rest h.2

-- a meeting m after the meetings ms
pub meeting_backed : (b : Book) (s : ℕ) (ms : List Meeting) (m : Meeting) (rest : List Meeting) → meetings b s ≡ ms ++ m ∷ rest
    → (0 < m.shares) × (m.shares ≤ get_or (taken b s (unmet b) ms).holdings (holding_at m.giver.account s) 0)
meeting_backed b s ms m rest e = backed_at b s (unmet b) ms m rest (subst (Backed b s (unmet b)) e (meetings_backed b s))
