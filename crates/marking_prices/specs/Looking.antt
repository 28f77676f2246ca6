-- Laws of `any`: where none passes, each fails; it is the library's; and to look among some elements is to look among all of them for one of those.
use Rattle.std.specs.Prelude.{◌≡◌, refl, Bool, false, ◌&&◌, ℕ, ◌<◌, length, get_or}
use Rattle.std.specs.List.{list_any}
use Rattle.std.proofs.Common.{sym}
use mathlib.Core.List.{List, [], ◌∷◌}
use Rattle.rules.specs.Words.{any, keep}
use Rattle.laws.specs.Cases.{by_test, true_false}
use Rattle.laws.specs.Keeping.{keep_none, keep_yes, keep_no}
use Rattle.laws.specs.Finding.{any_found}

module _ {A : Type 0} where
  pub fails_at : (t : A → Bool) (l : List A) (i : ℕ) (d : A) → any t l ≡ false → i < length l → t (get_or l i d) ≡ false
  fails_at t l i d e h = by_test (t (get_or l i d)) (λ y. true_false (sym (any_found t l i d h y)) e) (λ n. n)

  pub any_listed : (t : A → Bool) (l : List A) → list_any t l ≡ any t l
  unfolding any
  any_listed t [] = refl
  any_listed t (x ∷ l) = rw (any_listed t l)

  pub any_kept : (t u : A → Bool) (l : List A) → any (λ x. u x && t x) l ≡ any t (keep u l)
  unfolding any
  any_kept t u [] = rw keep_none
  any_kept t u (x ∷ l) =
      let ih = any_kept t u l in
      by_test (u x) (λ e. rw (keep_yes u x l e, e, ih)) (λ e. rw (keep_no u x l e, e, ih))
