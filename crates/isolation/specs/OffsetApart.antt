-- Offsetting, account by account: what it leaves of an account's records depends on that account's records alone; on no other record, no
-- charge and nothing else of the book.
use Rattle.std.specs.Prelude.{◌≡◌, Bool, true, ℕ, eqb}
use Rattle.std.proofs.Math.Path.{refl, sym, ap, ap₂}
use Rattle.std.proofs.Common.{◌∙◌}
use Rattle.std.proofs.Math.Bool.{false}
use mathlib.Core.List.{List, [], ◌∷◌}
use Rattle.units.specs.declared.Mils.{Mils}
use Rattle.rules.specs.Words.{keep}
use Rattle.rules.specs.Book.{quantity_of, is_zero, account_of}
use Rattle.rules.specs.Parts.{without, charged_both}
use Rattle.rules.specs.Roll.{faces, smaller, Offsetting, in_front, against, offset_one, Offset, offset_all}
use Rattle.rules.specs.declared.Position.{Position}
use Rattle.rules.specs.declared.Book.{Book}
use Rattle.laws.specs.Cases.{by_test, true_false}
use Rattle.laws.specs.Keeping.{keep_none, keep_yes, keep_no}
use Rattle.laws.specs.Taking.{without_account}
use Rattle.laws.specs.Facing.{facing}
use Rattle.laws.specs.Against.{against_met, against_passed}

-- ── a newly due record stays its account's ──

against_account : (b : Book) (p : Position) (os : List Position) (cs : List Mils) → account_of (against b p os cs).newly ≡ account_of p
unfolding against in_front
against_account b p [] cs = refl
against_account b p (o ∷ os) cs =
    let k = smaller p o in
    by_test (faces p o)
    (λ e. rw e (against_account b (without p k) os (charged_both b cs o p k) ∙ without_account p k))
    (λ e. rw e (against_account b p os cs))

one_account : (b : Book) (p : Position) (os : List Position) (cs : List Mils) → account_of (offset_one b p os cs).newly ≡ account_of p
unfolding offset_one
one_account b p os cs = by_test (is_zero (quantity_of p)) (λ e. rw e refl) (λ e. rw e (against_account b p os cs))

module _ (a : ℕ) where
  abbrev pub is_of : Position → Bool
  is_of p = eqb (account_of p) a

  same_account_lem : (p q : Position) → account_of q ≡ account_of p → is_of q ≡ is_of p
  same_account_lem p q e = ap (λ (n : ℕ). eqb n a) e

  without_of : (p : Position) (k : ℕ) → is_of (without p k) ≡ is_of p
  without_of p k = same_account_lem p (without p k) (without_account p k)

  -- a record of the account and one of another do not face each other
  strangers : (p o : Position) → is_of p ≡ true → is_of o ≡ false → faces p o ≡ false
  strangers p o y n =
      by_test (faces p o) (λ f. true_false (same_account_lem p o (sym (facing p o f).account) ∙ y) n) (λ f. f)

  -- ── a newly due record of another account ──

  against_other : (b : Book) (p : Position) (os : List Position) (cs : List Mils) → is_of p ≡ false
      → keep is_of (against b p os cs).older ≡ keep is_of os
  unfolding against in_front
  against_other b p [] cs n = refl
  against_other b p (o ∷ os) cs n =
      let k = smaller p o in
      by_test (faces p o)
      (λ f. let no : is_of o ≡ false = same_account_lem p o (sym (facing p o f).account) ∙ n in
      rw f
      (keep_no is_of (without o k) _ (without_of o k ∙ no)
      ∙ against_other b (without p k) os (charged_both b cs o p k) (without_of p k ∙ n)
      ∙ sym (keep_no is_of o os no)))
      (λ f. rw f
      (by_test (is_of o)
      (λ y. keep_yes is_of o _ y ∙ ap (λ (l : List Position). o ∷ l) (against_other b p os cs n) ∙ sym (keep_yes is_of o os y))
      (λ y. keep_no is_of o _ y ∙ against_other b p os cs n ∙ sym (keep_no is_of o os y))))

  one_other : (b : Book) (p : Position) (os : List Position) (cs : List Mils) → is_of p ≡ false
      → keep is_of (offset_one b p os cs).older ≡ keep is_of os
  unfolding offset_one
  one_other b p os cs n = by_test (is_zero (quantity_of p)) (λ e. rw e refl) (λ e. rw e (against_other b p os cs n))

  -- ── one of the account: over all older records, and over the account's alone ──

  abbrev SameOne : Offsetting → Offsetting → Type 0
  SameOne x y = (keep is_of x.older ≡ y.older) × (x.newly ≡ y.newly)

  same_front : (o : Position) (x y : Offsetting) → is_of o ≡ true → SameOne x y → SameOne (in_front o x) (in_front o y)
  unfolding in_front
  same_front o x y e s = (keep_yes is_of o x.older e ∙ ap (λ (l : List Position). o ∷ l) s.0, s.1)

  same_behind : (o : Position) (x y : Offsetting) → is_of o ≡ false → SameOne x y → SameOne (in_front o x) y
  unfolding in_front
  same_behind o x y e s = (keep_no is_of o x.older e ∙ s.0, s.1)

  none_own : (b m : Book) (p : Position) (cs ds : List Mils) → SameOne (against b p [] cs) (against m p [] ds)
  unfolding against
  none_own b m p cs ds = (keep_none is_of, refl)

  against_own : (b m : Book) (p : Position) (os : List Position) (cs ds : List Mils) → is_of p ≡ true
      → SameOne (against b p os cs) (against m p (keep is_of os) ds)
  against_own b m p [] cs ds y = rw (keep_none is_of) (none_own b m p cs ds)
  against_own b m p (o ∷ os) cs ds y =
      let k = smaller p o in
      by_test (is_of o)
      (λ e. rw (keep_yes is_of o os e)
      (by_test (faces p o)
      (λ f. rw (against_met b p o os cs f, against_met m p o (keep is_of os) ds f)
      (same_front (without o k) (against b (without p k) os (charged_both b cs o p k)) (against m (without p k) (keep is_of os) (charged_both m ds o p k))
      (without_of o k ∙ e)
      (against_own b m (without p k) os (charged_both b cs o p k) (charged_both m ds o p k) (without_of p k ∙ y))))
      (λ f. rw (against_passed b p o os cs f, against_passed m p o (keep is_of os) ds f)
      (same_front o (against b p os cs) (against m p (keep is_of os) ds) e (against_own b m p os cs ds y)))))
      (λ e. rw (keep_no is_of o os e, against_passed b p o os cs (strangers p o y e))
      (same_behind o (against b p os cs) (against m p (keep is_of os) ds) e (against_own b m p os cs ds y)))

  one_own : (b m : Book) (p : Position) (os : List Position) (cs ds : List Mils) → is_of p ≡ true
      → SameOne (offset_one b p os cs) (offset_one m p (keep is_of os) ds)
  unfolding offset_one
  one_own b m p os cs ds y = by_test (is_zero (quantity_of p)) (λ e. rw e (refl, refl)) (λ e. rw e (against_own b m p os cs ds y))

  -- ── all newly due records ──

  abbrev Same : Offset → Offset → Type 0
  Same x y = (keep is_of x.older ≡ y.older) × (keep is_of x.newly ≡ y.newly)

  no_newly : (b m : Book) (os : List Position) (cs ds : List Mils) → Same (offset_all b [] os cs) (offset_all m [] (keep is_of os) ds)
  unfolding offset_all
  no_newly b m os cs ds = (refl, keep_none is_of)

  -- one of the account, and then the others
  one_more : (b m : Book) (p : Position) (ps os qs rs : List Position) (cs ds : List Mils) → is_of (offset_one b p os cs).newly ≡ true
      → (offset_one b p os cs).newly ≡ (offset_one m p rs ds).newly
      → Same (offset_all b ps (offset_one b p os cs).older (offset_one b p os cs).charges) (offset_all m qs (offset_one m p rs ds).older (offset_one m p rs ds).charges)
      → Same (offset_all b (p ∷ ps) os cs) (offset_all m (p ∷ qs) rs ds)
  unfolding offset_all
  one_more b m p ps os qs rs cs ds e n s = (s.0, keep_yes is_of _ _ e ∙ ap₂ (λ (q : Position) (l : List Position). q ∷ l) n s.1)

  -- one of another account, and then the others
  one_other_more : (b : Book) (p : Position) (ps os : List Position) (cs : List Mils) (y : Offset) → is_of (offset_one b p os cs).newly ≡ false
      → Same (offset_all b ps (offset_one b p os cs).older (offset_one b p os cs).charges) y → Same (offset_all b (p ∷ ps) os cs) y
  unfolding offset_all
  one_other_more b p ps os cs y e s = (s.0, keep_no is_of _ _ e ∙ s.1)

  pub offset_own : (b m : Book) (ps os : List Position) (cs ds : List Mils)
      → Same (offset_all b ps os cs) (offset_all m (keep is_of ps) (keep is_of os) ds)
  offset_own b m [] os cs ds = rw (keep_none is_of) (no_newly b m os cs ds)
  offset_own b m (p ∷ ps) os cs ds =
      let x = offset_one b p os cs in
      by_test (is_of p)
      (λ e. let z = offset_one m p (keep is_of os) ds in
      let s = one_own b m p os cs ds e in
      let r = offset_own b m ps x.older x.charges z.charges in
      rw (keep_yes is_of p ps e)
      (one_more b m p ps os (keep is_of ps) (keep is_of os) cs ds (same_account_lem p x.newly (one_account b p os cs) ∙ e) s.1 (rw s.0 at r)))
      (λ e. let r = offset_own b m ps x.older x.charges ds in
      rw (keep_no is_of p ps e)
      (one_other_more b p ps os cs (offset_all m (keep is_of ps) (keep is_of os) ds) (same_account_lem p x.newly (one_account b p os cs) ∙ e) (rw (one_other b p os cs e) at r)))
