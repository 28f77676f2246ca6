-- Numbers are distinct: what is done to the record of a number is done to one row.
use Rattle.std.specs.Prelude.{◌≡◌, refl, ◌≢◌, true, ℕ, zero, suc, ◌<◌, ltb, length, get_or}
use Rattle.std.proofs.Math.Path.{sym, ap}
use Rattle.std.proofs.Common.{◌∙◌, subst, zero-le, suc-le-suc, le_of_suc-le-suc, arith, get_or-set_other, eq-eqb, ne_eqb, ltb-true}
use mathlib.Core.List.{List, [], ◌∷◌}
use Rattle.std.proofs.Math.Decide.{dec_lt}
use Rattle.std.proofs.Math.ListN.{set, length-set, get_or-map}
use Rattle.std.proofs.Math.Seq.{map-set_same}
use Rattle.units.specs.declared.Mils.{Mils}
use Rattle.rules.specs.Book.{no_position}
use Rattle.rules.specs.Sound.{ascends, ascends_from}
use Rattle.rules.specs.Parts.{part_money, without, charged_to, charged_both}
use Rattle.rules.specs.Run.{taken_from, charged_for}
use Rattle.rules.specs.declared.Position.{Position}
use Rattle.rules.specs.declared.Book.{Book}
use Rattle.laws.specs.Cases.{both_hold}
use Rattle.laws.specs.Rows.{row, without_both}

abbrev pub Distinct : List Position → Type 0
Distinct ps = (i j : ℕ) → i < length ps → j < length ps → (row ps i).number ≡ (row ps j).number → i ≡ j

-- ── numbers that ascend are distinct ──

above_at : (n : ℕ) (ps : List Position) (j : ℕ) → ascends_from n ps ≡ true → j < length ps → n < (row ps j).number
unfolding ascends_from
above_at n [] j a h = absurd (omega arith)
above_at n (p ∷ ps) zero a h = ltb-true n p.number (both_hold (ltb n p.number) (ascends_from p.number ps) a).0
above_at n (p ∷ ps) (suc j) a h =
    let q = both_hold (ltb n p.number) (ascends_from p.number ps) a in
    omega (arith, ltb-true n p.number q.0, above_at p.number ps j q.1 (le_of_suc-le-suc h))

from_in_order : (n : ℕ) (ps : List Position) (i j : ℕ) → ascends_from n ps ≡ true → i < j → j < length ps → (row ps i).number < (row ps j).number
unfolding ascends_from
from_in_order n [] i j a l h = absurd (omega arith)
from_in_order n (p ∷ ps) i zero a l h = absurd (omega arith)
from_in_order n (p ∷ ps) zero (suc j) a l h =
    above_at p.number ps j (both_hold (ltb n p.number) (ascends_from p.number ps) a).1 (le_of_suc-le-suc h)
from_in_order n (p ∷ ps) (suc i) (suc j) a l h =
    from_in_order p.number ps i j (both_hold (ltb n p.number) (ascends_from p.number ps) a).1 (le_of_suc-le-suc l) (le_of_suc-le-suc h)

pub rows_in_order : (ps : List Position) (i j : ℕ) → ascends ps ≡ true → i < j → j < length ps → (row ps i).number < (row ps j).number
unfolding ascends
rows_in_order [] i j a l h = absurd (omega arith)
rows_in_order (p ∷ ps) i zero a l h = absurd (omega arith)
rows_in_order (p ∷ ps) zero (suc j) a l h = above_at p.number ps j a (le_of_suc-le-suc h)
rows_in_order (p ∷ ps) (suc i) (suc j) a l h = from_in_order p.number ps i j a (le_of_suc-le-suc l) (le_of_suc-le-suc h)

pub ascends_distinct : (ps : List Position) → ascends ps ≡ true → Distinct ps
ascends_distinct ps a i j hi hj e = go (dec_lt i j) (dec_lt j i)
  where
    go : Dec (i < j) → Dec (j < i) → i ≡ j
    go (yes l) d = absurd (omega (arith, rows_in_order ps i j a l hj))
    go (no l) (yes m) = absurd (omega (arith, rows_in_order ps j i a m hi))
    go (no l) (no m) = omega arith

-- ── one record ──

others : (p : Position) (ps : List Position) → Distinct (p ∷ ps) → (j : ℕ) → j < length ps → (row ps j).number ≢ p.number
others p ps d j h e = let z : suc j ≡ 0 = d (suc j) zero (suc-le-suc h) (suc-le-suc zero-le) e in omega arith

rest : (p : Position) (ps : List Position) → Distinct (p ∷ ps) → Distinct ps
rest p ps d i j hi hj e = let z : suc i ≡ suc j = d (suc i) (suc j) (suc-le-suc hi) (suc-le-suc hj) e in omega arith

taken_not : (n k : ℕ) (ps : List Position) → ((j : ℕ) → j < length ps → (row ps j).number ≢ n) → taken_from n k ps ≡ ps
unfolding taken_from
taken_not n k [] h = refl
taken_not n k (p ∷ ps) h =
    rw (ne_eqb p.number n (h zero (suc-le-suc zero-le))) (ap (λ (l : List Position). p ∷ l) (taken_not n k ps (λ j l. h (suc j) (suc-le-suc l))))

pub taken_row : (ps : List Position) (i k : ℕ) → Distinct ps → i < length ps → taken_from (row ps i).number k ps ≡ set ps i (without (row ps i) k)
unfolding taken_from
taken_row [] i k d h = absurd (omega arith)
taken_row (p ∷ ps) zero k d h =
    rw (eq-eqb p.number p.number refl) (ap (λ (l : List Position). without p k ∷ l) (taken_not p.number k ps (others p ps d)))
taken_row (p ∷ ps) (suc i) k d h =
    let ne : p.number ≢ (row ps i).number = λ e. others p ps d i (le_of_suc-le-suc h) (sym e) in
    rw (ne_eqb p.number (row ps i).number ne) (ap (λ (l : List Position). p ∷ l) (taken_row ps i k (rest p ps d) (le_of_suc-le-suc h)))

pub charged_row : (b : Book) (ps : List Position) (i k : ℕ) (cs : List Mils) → Distinct ps → i < length ps
    → charged_for b (row ps i).number k ps cs ≡ charged_to b cs (row ps i) (part_money (row ps i) k)
unfolding charged_for
charged_row b [] i k cs d h = absurd (omega arith)
charged_row b (p ∷ ps) zero k cs d h = rw (eq-eqb p.number p.number refl)
charged_row b (p ∷ ps) (suc i) k cs d h =
    let ne : p.number ≢ (row ps i).number = λ e. others p ps d i (le_of_suc-le-suc h) (sym e) in
    rw (ne_eqb p.number (row ps i).number ne) (charged_row b ps i k cs (rest p ps d) (le_of_suc-le-suc h))

-- numbers stay
pub number_kept : (ps : List Position) (i k j : ℕ) → (row (set ps i (without (row ps i) k)) j).number ≡ (row ps j).number
unfolding without
number_kept ps i k j =
    sym (get_or-map (λ (p : Position). p.number) (set ps i (without (row ps i) k)) j no_position)
    ∙ ap (λ m. get_or m j 0) (map-set_same (λ (p : Position). p.number) ps i (without (row ps i) k) no_position refl)
    ∙ get_or-map (λ (p : Position). p.number) ps j no_position

pub distinct_kept : (ps : List Position) (i k : ℕ) → Distinct ps → Distinct (set ps i (without (row ps i) k))
distinct_kept ps i k d u v hu hv e =
    let l = length-set ps i (without (row ps i) k) in
    d u v (omega arith) (omega arith) (sym (number_kept ps i k u) ∙ e ∙ number_kept ps i k v)

-- ── two records ──

module _ (ps : List Position) (g r k : ℕ) (d : Distinct ps) (hg : g < length ps) (hr : r < length ps) (ne : r ≢ g) where
  second : row (set ps g (without (row ps g) k)) r ≡ row ps r
  second = get_or-set_other ps g r (without (row ps g) k) no_position ne

  pub both_at : without_both ps g r k ≡ set (set ps g (without (row ps g) k)) r (without (row (set ps g (without (row ps g) k)) r) k)
  unfolding without_both
  both_at = ap (λ (p : Position). set (set ps g (without (row ps g) k)) r (without p k)) (sym second)

  pub taken_both : without_both ps g r k ≡ taken_from (row ps r).number k (taken_from (row ps g).number k ps)
  taken_both =
      let qs : List Position = set ps g (without (row ps g) k) in
      both_at
      ∙ sym (taken_row qs r k (distinct_kept ps g k d) (omega (arith, length-set ps g (without (row ps g) k))))
      ∙ ap (λ (p : Position). taken_from p.number k qs) second
      ∙ ap (λ (l : List Position). taken_from (row ps r).number k l) (sym (taken_row ps g k d hg))

  pub charged_both_lem : (b : Book) (cs : List Mils) → charged_both b cs (row ps g) (row ps r) k ≡ charged_for b (row ps r).number k ps (charged_for b (row ps g).number k ps cs)
  unfolding charged_both
  charged_both_lem b cs =
      sym (charged_row b ps r k (charged_to b cs (row ps g) (part_money (row ps g) k)) d hr)
      ∙ ap (λ (l : List Mils). charged_for b (row ps r).number k ps l) (sym (charged_row b ps g k cs d hg))

  pub distinct_both : Distinct (without_both ps g r k)
  distinct_both = subst Distinct (sym both_at) (distinct_kept (set ps g (without (row ps g) k)) r k (distinct_kept ps g k d))

  pub length_both : length (without_both ps g r k) ≡ length ps
  unfolding without_both
  length_both = simp length-set
