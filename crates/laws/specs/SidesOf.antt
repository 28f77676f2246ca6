-- The sides of the run, row by row: what each record owes and what it wants. The rule's givers and receivers are those of them that have something;
-- and a part of k shares makes what a record owes, or wants, k less.
use Rattle.std.specs.Prelude.{◌≡◌, refl, ◌≢◌, Bool, true, false, cond, ◌&&◌, eqb, ltb, length, get_or, ℤ, pos, negsuc, neg_ℤ}
use Rattle.std.proofs.Math.Path.{sym, ap, fun_ext}
use Rattle.std.proofs.Common.{ap₂, ◌∙◌, le_of_suc-le-suc, arith, length-set, get_or-set_same, get_or-set_other, eq-eqb, ne_eqb, lt-ltb}
use mathlib.Core.List.{List, [], ◌∷◌, map}
use Prim.Native.Nat.{ℕ, zero, suc, ◌-◌, min, ◌<◌}
use Rattle.std.proofs.Math.Decide.{ℕ_discrete}
use Rattle.std.proofs.Math.ListN.{set}
use Rattle.integers.specs.Signs.{toward_zero}
use Rattle.rules.specs.Words.{keep}
use Rattle.rules.specs.Book.{quantity_of, account_of, security_of, due_of, holding_at}
use Rattle.rules.specs.Sound.{is_due}
use Rattle.rules.specs.Parts.{without}
use Rattle.rules.specs.Run.{Side, side, short_of, long_of, givers_of}
use Rattle.rules.specs.declared.Position.{Position}
use Rattle.laws.specs.Cases.{by_test}
use Rattle.laws.specs.Keeping.{keep_yes, keep_no, keep_none}
use Rattle.laws.specs.Rows.{row}
use Rattle.laws.specs.Walk.{is_due_in, owes, wants}
use Rattle.laws.specs.Merging.{less}
use Rattle.laws.specs.Spare.{at, some}
use Rattle.laws.specs.Giving.{less_at, less_in, less_out, given, given_none}

-- ── what is owed and wanted ──

abbrev pub owing : ℕ → ℕ → Position → Side
owing d s p = side p (owes d s p)

abbrev pub wanting : ℕ → ℕ → Position → Side
wanting d s p = side p (wants d s p)

abbrev pub owed : ℕ → ℕ → List Position → List Side
owed d s ps = map (owing d s) ps

abbrev pub asked : ℕ → ℕ → List Position → List Side
asked d s ps = map (wanting d s) ps

-- what each account holds of security s
abbrev pub holds : ℕ → List ℕ → ℕ → ℕ
holds s hs a = get_or hs (holding_at a s) 0

pub at_row : (f : Position → Side) (ps : List Position) (i : ℕ) → i < length ps → at (map f ps) i ≡ f (row ps i)
at_row f [] i h = absurd (omega arith)
at_row f (p ∷ ps) zero h = refl
at_row f (p ∷ ps) (suc i) h = at_row f ps i (le_of_suc-le-suc h)

pub sides_set : (f : Position → Side) (ps : List Position) (i : ℕ) (p : Position) → map f (set ps i p) ≡ set (map f ps) i (f p)
sides_set f [] i p = refl
sides_set f (q ∷ ps) zero p = refl
sides_set f (q ∷ ps) (suc i) p = ap (λ (l : List Side). f q ∷ l) (sides_set f ps i p)

-- ── a part of k shares ──

short_neg : (m : ℕ) → short_of (neg_ℤ (pos m)) ≡ m
unfolding short_of
short_neg zero = refl
short_neg (suc m) = refl

long_neg : (m : ℕ) → long_of (neg_ℤ (pos m)) ≡ 0
unfolding long_of
long_neg zero = refl
long_neg (suc m) = refl

short_less : (q : ℤ) (k : ℕ) → short_of (toward_zero q k) ≡ short_of q - k
unfolding short_of
short_less (pos n) k = omega arith
short_less (negsuc n) k = short_neg (suc n - k)

long_less : (q : ℤ) (k : ℕ) → long_of (toward_zero q k) ≡ long_of q - k
unfolding long_of
long_less (pos n) k = refl
long_less (negsuc n) k = long_neg (suc n - k) ∙ omega arith

cond_less : (t : Bool) (m n k : ℕ) → m ≡ n - k → cond t m 0 ≡ cond t n 0 - k
cond_less true m n k e = e
cond_less false m n k e = omega arith

pub owing_less : (d s : ℕ) (p : Position) (k : ℕ) → owing d s (without p k) ≡ less (owing d s p) k
unfolding owes is_due_in is_due due_of security_of account_of without
owing_less d s p k = ap (λ (j : ℕ). side p j) (cond_less (is_due_in d s p) (short_of (toward_zero (quantity_of p) k)) (short_of (quantity_of p)) k (short_less (quantity_of p) k))

pub wanting_less : (d s : ℕ) (p : Position) (k : ℕ) → wanting d s (without p k) ≡ less (wanting d s p) k
unfolding wants is_due_in is_due due_of security_of account_of without
wanting_less d s p k = ap (λ (j : ℕ). side p j) (cond_less (is_due_in d s p) (long_of (toward_zero (quantity_of p) k)) (long_of (quantity_of p)) k (long_less (quantity_of p) k))

-- who wants owes nothing, who owes wants nothing
one_of : (t : Bool) (q : ℤ) → min (cond t (short_of q) 0) (cond t (long_of q) 0) ≡ 0
unfolding short_of long_of
one_of true (pos n) = omega arith
one_of true (negsuc n) = omega arith
one_of false q = omega arith

pub owes_or_wants : (d s : ℕ) (p : Position) → min (owes d s p) (wants d s p) ≡ 0
unfolding owes wants
owes_or_wants d s p = one_of (is_due_in d s p) (quantity_of p)

-- ── the rule's receivers ──

pub receivers_are : (d s : ℕ) (ps : List Position)
    → keep some (map (λ p. side p (long_of (quantity_of p))) (keep (λ p. eqb (security_of p) s && is_due d p) ps)) ≡ keep some (asked d s ps)
unfolding wants is_due_in
receivers_are d s [] = ap (λ (l : List Position). keep some (map (λ p. side p (long_of (quantity_of p))) l)) (keep_none (λ p. eqb (security_of p) s && is_due d p))
receivers_are d s (p ∷ ps) =
    let t : Position → Bool = λ p. eqb (security_of p) s && is_due d p in
    let f : Position → Side = λ p. side p (long_of (quantity_of p)) in
    let ih = receivers_are d s ps in
    by_test (t p)
    (λ e. ap (λ (l : List Position). keep some (map f l)) (keep_yes t p ps e) ∙ onto (f p) (wanting d s p) (map f (keep t ps)) (asked d s ps) (sym (ap (λ (c : Bool). side p (cond c (long_of (quantity_of p)) 0)) e)) ih)
    (λ e. ap (λ (l : List Position). keep some (map f l)) (keep_no t p ps e) ∙ ih ∙ sym (keep_no some (wanting d s p) (asked d s ps) (ap (λ (c : Bool). ltb 0 (cond c (long_of (quantity_of p)) 0)) e)))
  where
    onto : (x y : Side) (l m : List Side) → x ≡ y → keep some l ≡ keep some m → keep some (x ∷ l) ≡ keep some (y ∷ m)
    onto x y l m e q =
        by_test (some x)
        (λ h. keep_yes some x l h ∙ ap₂ (λ (z : Side) (r : List Side). z ∷ r) e q ∙ sym (keep_yes some y m (sym (ap some e) ∙ h)))
        (λ h. keep_no some x l h ∙ q ∙ sym (keep_no some y m (sym (ap some e) ∙ h)))

-- ── the rule's givers ──

pub holding_below : (p : Position) (s : ℕ) → s < 32 → holding_at (account_of p) s < 2048
unfolding holding_at account_of
holding_below p s h = omega arith

pub holding_apart : (a c s : ℕ) → a ≢ c → holding_at a s ≢ holding_at c s
unfolding holding_at
holding_apart a c s n e = n (omega arith)

-- k shares less at one holding
pub holds_less : (s : ℕ) (hs : List ℕ) (a k : ℕ) → holding_at a s < length hs
    → ◌≡◌ {A = ℕ → ℕ} (holds s (set hs (holding_at a s) (get_or hs (holding_at a s) 0 - k))) (less_at (holds s hs) a k)
holds_less s hs a k l = fun_ext (λ x. go x (ℕ_discrete x a))
  where
    go : (x : ℕ) → Dec (x ≡ a) → holds s (set hs (holding_at a s) (get_or hs (holding_at a s) 0 - k)) x ≡ less_at (holds s hs) a k x
    go x (yes e) =
        ap (λ (y : ℕ). holds s (set hs (holding_at a s) (get_or hs (holding_at a s) 0 - k)) y) e
        ∙ get_or-set_same hs (holding_at a s) (get_or hs (holding_at a s) 0 - k) 0 l
        ∙ ap (λ (y : ℕ). holds s hs y - k) (sym e)
        ∙ sym (less_in (holds s hs) a k x e)
    go x (no e) =
        get_or-set_other hs (holding_at a s) (holding_at x s) (get_or hs (holding_at a s) 0 - k) 0 (holding_apart x a s e)
        ∙ sym (less_out (holds s hs) a k x e)

module _ (d s : ℕ) (hs : s < 32) where
  abbrev due : Position → Bool
  due p = eqb (security_of p) s && is_due d p

  owes_not : (p : Position) → due p ≡ false → owes d s p ≡ 0
  unfolding owes is_due_in
  owes_not p e = rw e

  owes_due : (p : Position) → due p ≡ true → owes d s p ≡ short_of (quantity_of p)
  unfolding owes is_due_in
  owes_due p e = rw e

  givers_none : (p : Position) (ps : List Position) (held : List ℕ) → min (short_of (quantity_of p)) (holds s held (account_of p)) ≡ 0 → givers_of s (p ∷ ps) held ≡ givers_of s ps held
  unfolding givers_of
  givers_none p ps held e = rw (eq-eqb (min (short_of (quantity_of p)) (holds s held (account_of p))) 0 e)

  givers_some : (p : Position) (ps : List Position) (held : List ℕ) (k : ℕ) → k ≡ min (short_of (quantity_of p)) (holds s held (account_of p)) → 0 < k
      → givers_of s (p ∷ ps) held ≡ side p k ∷ givers_of s ps (set held (holding_at (account_of p) s) (holds s held (account_of p) - k))
  unfolding givers_of
  givers_some p ps held k e l =
      rw (ne_eqb (min (short_of (quantity_of p)) (holds s held (account_of p))) 0 (λ q. omega arith))
      (ap (λ (j : ℕ). side p j ∷ givers_of s ps (set held (holding_at (account_of p) s) (holds s held (account_of p) - j))) (sym e))

  module _ (p : Position) (ps : List Position) (held : List ℕ) (w : length held ≡ 2048)
      (ih : (hs : List ℕ) → length hs ≡ 2048 → givers_of s (keep due ps) hs ≡ keep some (given (owed d s ps) (holds s hs))) where
    giver_not : min (owes d s p) (holds s held (account_of p)) ≡ 0 → givers_of s (keep due ps) held ≡ keep some (given (owed d s (p ∷ ps)) (holds s held))
    giver_not z =
        ih held w
        ∙ sym (ap (keep some) (given_none (owing d s p) (owed d s ps) (holds s held) z) ∙ keep_no some (side p 0) (given (owed d s ps) (holds s held)) refl)

    giver_due : due p ≡ true → Dec (min (owes d s p) (holds s held (account_of p)) ≡ 0) → givers_of s (p ∷ keep due ps) held ≡ keep some (given (owed d s (p ∷ ps)) (holds s held))
    unfolding given
    giver_due e (yes z) = givers_none p (keep due ps) held (omega (arith, owes_due p e)) ∙ giver_not z
    giver_due e (no z) =
        let m : ℕ = min (owes d s p) (holds s held (account_of p)) in
        let held' : List ℕ = set held (holding_at (account_of p) s) (holds s held (account_of p) - m) in
        givers_some p (keep due ps) held m (ap (λ (j : ℕ). min j (holds s held (account_of p))) (owes_due p e)) (omega arith)
        ∙ ap (λ (l : List Side). side p m ∷ l) (ih held' (length-set held (holding_at (account_of p) s) (holds s held (account_of p) - m) ∙ w)
        ∙ ap (λ (h : ℕ → ℕ). keep some (given (owed d s ps) h)) (holds_less s held (account_of p) m (omega (arith, holding_below p s hs))))
        ∙ sym (keep_yes some (side p m) (given (owed d s ps) (less_at (holds s held) (account_of p) m)) (lt-ltb 0 m (omega arith)))

    giver_first : givers_of s (keep due (p ∷ ps)) held ≡ keep some (given (owed d s (p ∷ ps)) (holds s held))
    giver_first =
        by_test (due p)
        (λ e. ap (λ (l : List Position). givers_of s l held) (keep_yes due p ps e) ∙ giver_due e (ℕ_discrete (min (owes d s p) (holds s held (account_of p))) 0))
        (λ e. ap (λ (l : List Position). givers_of s l held) (keep_no due p ps e) ∙ giver_not (omega (arith, owes_not p e)))

  pub givers_are : (ps : List Position) (held : List ℕ) → length held ≡ 2048 → givers_of s (keep due ps) held ≡ keep some (given (owed d s ps) (holds s held))
  unfolding given givers_of
  givers_are [] held w = ap (λ (l : List Position). givers_of s l held) (keep_none due) ∙ sym (keep_none some)
  givers_are (p ∷ ps) held w = giver_first p ps held w (λ hs w. givers_are ps hs w)
