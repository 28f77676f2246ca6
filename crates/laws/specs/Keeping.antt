-- Laws of `keep`, the elements of a list that pass a test: what passes, how many, and how tests and lists go through it.
use Rattle.std.specs.Prelude.{◌≡◌, Bool, true, false, ◌&&◌, ◌≤◌, length}
use Rattle.std.proofs.Math.Path.{refl, ap}
use Rattle.std.proofs.Common.{sym, ◌∙◌, zero-le, suc-le-suc, arith}
use Rattle.std.proofs.Math.Bool.{not, and_comm}
use mathlib.Core.List.{List, [], ◌∷◌, ◌++◌}
use Rattle.std.proofs.lemmas.Bool.{not-true}
use Rattle.rules.specs.Words.{all, keep, each}
use Rattle.laws.specs.Cases.{by_test, both_hold, and_hold, cond_yes, cond_no}

module _ {A : Type 0} where
  -- ── element by element ──

  pub keep_yes : (t : A → Bool) (x : A) (l : List A) → t x ≡ true → keep t (x ∷ l) ≡ x ∷ keep t l
  unfolding keep
  keep_yes t x l e = cond_yes (x ∷ keep t l) (keep t l) e

  pub keep_no : (t : A → Bool) (x : A) (l : List A) → t x ≡ false → keep t (x ∷ l) ≡ keep t l
  unfolding keep
  keep_no t x l e = cond_no (x ∷ keep t l) (keep t l) e

  pub keep_none : (t : A → Bool) → keep t [] ≡ []
  unfolding keep
  keep_none t = refl

  pub keep_append : (t : A → Bool) (l m : List A) → keep t (l ++ m) ≡ keep t l ++ keep t m
  keep_append t [] m = rw keep_none
  keep_append t (x ∷ l) m =
      let ih = keep_append t l m in
      by_test (t x)
      (λ e. keep_yes t x (l ++ m) e ∙ ap (λ (r : List A). x ∷ r) ih ∙ sym (ap (λ (r : List A). r ++ keep t m) (keep_yes t x l e)))
      (λ e. keep_no t x (l ++ m) e ∙ ih ∙ sym (ap (λ (r : List A). r ++ keep t m) (keep_no t x l e)))

  pub keep_length : (t : A → Bool) (l : List A) → length (keep t l) ≤ length l
  keep_length t [] = rw keep_none zero-le
  keep_length t (x ∷ l) =
      let ih = keep_length t l in
      by_test (t x) (λ e. rw (keep_yes t x l e) (suc-le-suc ih)) (λ e. rw (keep_no t x l e) (omega arith))

  -- ── what passes ──

  -- every kept element passes
  pub keep_passes : (t : A → Bool) (l : List A) → all t (keep t l) ≡ true
  unfolding all
  keep_passes t [] = rw keep_none
  keep_passes t (x ∷ l) =
      let ih = keep_passes t l in
      by_test (t x) (λ e. rw (keep_yes t x l e) (and_hold e ih)) (λ e. rw (keep_no t x l e) ih)

  -- what all elements pass, the kept ones pass
  pub keep_all : (t u : A → Bool) (l : List A) → all u l ≡ true → all u (keep t l) ≡ true
  unfolding all
  keep_all t u [] a = rw keep_none
  keep_all t u (x ∷ l) a =
      let p = both_hold (u x) (all u l) a in
      let ih = keep_all t u l p.1 in
      by_test (t x) (λ e. rw (keep_yes t x l e) (and_hold p.0 ih)) (λ e. rw (keep_no t x l e) ih)

  -- where all pass, all are kept; where none does, none is
  pub keep_whole : (t : A → Bool) (l : List A) → all t l ≡ true → keep t l ≡ l
  unfolding all
  keep_whole t [] a = keep_none t
  keep_whole t (x ∷ l) a =
      let p = both_hold (t x) (all t l) a in
      keep_yes t x l p.0 ∙ ap (λ (r : List A). x ∷ r) (keep_whole t l p.1)

  pub keep_nothing : (t : A → Bool) (l : List A) → all (λ x. not (t x)) l ≡ true → keep t l ≡ []
  unfolding all
  keep_nothing t [] a = keep_none t
  keep_nothing t (x ∷ l) a =
      let p = both_hold (not (t x)) (all (λ x. not (t x)) l) a in
      keep_no t x l (not-true (t x) p.0) ∙ keep_nothing t l p.1

  -- ── two tests ──

  -- two tests that agree on the elements keep the same
  pub keep_same : (t u : A → Bool) (l : List A) → ((x : A) → t x ≡ u x) → keep t l ≡ keep u l
  keep_same t u [] h = keep_none t ∙ sym (keep_none u)
  keep_same t u (x ∷ l) h =
      let ih = keep_same t u l h in
      by_test (t x)
      (λ e. keep_yes t x l e ∙ ap (λ (r : List A). x ∷ r) ih ∙ sym (keep_yes u x l (sym (h x) ∙ e)))
      (λ e. keep_no t x l e ∙ ih ∙ sym (keep_no u x l (sym (h x) ∙ e)))

  -- kept by one test and then another, or by both at once
  pub keep_both : (t u : A → Bool) (l : List A) → keep t (keep u l) ≡ keep (λ x. u x && t x) l
  keep_both t u [] = ap (keep t) (keep_none u) ∙ keep_none t ∙ sym (keep_none (λ x. u x && t x))
  keep_both t u (x ∷ l) =
      let ih = keep_both t u l in
      let both : A → Bool = λ x. u x && t x in
      by_test (u x)
      (λ f. ap (keep t) (keep_yes u x l f)
      ∙ by_test (t x)
      (λ e. keep_yes t x (keep u l) e ∙ ap (λ (r : List A). x ∷ r) ih ∙ sym (keep_yes both x l (and_hold f e)))
      (λ e. keep_no t x (keep u l) e ∙ ih ∙ sym (keep_no both x l (rw (f, e)))))
      (λ f. ap (keep t) (keep_no u x l f) ∙ ih ∙ sym (keep_no both x l (rw f)))

  -- kept by two tests, in either order
  pub keep_swap : (t u : A → Bool) (l : List A) → keep t (keep u l) ≡ keep u (keep t l)
  keep_swap t u l = keep_both t u l ∙ keep_same (λ x. u x && t x) (λ x. t x && u x) l (λ x. and_comm (u x) (t x)) ∙ sym (keep_both u t l)

-- ── lists made of the elements of a list ──

module _ {A B : Type 0} where
  pub each_keep : (t : B → Bool) (f : A → List B) (l : List A) → keep t (each f l) ≡ each (λ x. keep t (f x)) l
  unfolding each
  each_keep t f [] = keep_none t
  each_keep t f (x ∷ l) = keep_append t (f x) (each f l) ∙ ap (λ (r : List B). keep t (f x) ++ r) (each_keep t f l)
