-- Distinct numbers, found out by a flag for each number that has occurred.
use Rattle.std.specs.Prelude.{◌≡◌, refl, Bool, true, false, not, ◌||◌, List, [], ◌∷◌, ◌++◌, ℕ, zero, suc, ◌+◌, ◌<◌, ◌≤◌, eqb, length, get_or, take, replicate}
use Rattle.std.proofs.Common.{sym, ap, ◌∙◌, le_of_suc-le-suc, add-one, arith, take-suc, take_all, eq-eqb, ne_eqb}
use Rattle.std.proofs.Math.Bool.{and-false, or-false, or-true}
use Rattle.std.proofs.Math.Logic.{dite}
use Rattle.std.proofs.Math.Decide.{ℕ_discrete}
use Rattle.std.proofs.lemmas.List.{length-replicate}
use Rattle.rules.specs.Words.{all, any}
use Rattle.rules.specs.Sound.{distinct}
use Rattle.laws.specs.Cases.{by_test, both_hold, and_hold, neither, true_false, or_step}
use Rattle.sound_tables.specs.Flags.{flag_at, raised, all_down, raised_long, raised_up, raised_other}

-- the number is among some
abbrev pub among : ℕ → List ℕ → Bool
among n l = any (λ m. eqb m n) l

among_append : (n : ℕ) (l m : List ℕ) → among n (l ++ m) ≡ among n l || among n m
unfolding any
among_append n [] m = refl
among_append n (x ∷ l) m = or_step (eqb x n) _ _ _ (among_append n l m)

among_one : (n x : ℕ) → among n (x ∷ []) ≡ eqb x n
unfolding any
among_one n x = or-false (eqb x n)

among_more : (n x : ℕ) (ns : List ℕ) (i : ℕ) → i < length ns → get_or ns i 0 ≡ x → among n (take (i + 1) ns) ≡ among n (take i ns) || eqb x n
among_more n x ns i h e = rw (add-one i, take-suc ns i 0 h, among_append n (take i ns) (get_or ns i 0 ∷ []), among_one n (get_or ns i 0), e)

-- ── one more number ──

abbrev apart : ℕ → List ℕ → Bool
apart x l = all (λ m. not (eqb x m)) l

apart_more : (x y : ℕ) (l : List ℕ) → apart x l ≡ true → eqb x y ≡ false → apart x (l ++ (y ∷ [])) ≡ true
unfolding all
apart_more x y [] a e = rw e
apart_more x y (z ∷ l) a e =
    let p = both_hold (not (eqb x z)) (apart x l) a in
    and_hold p.0 (apart_more x y l p.1 e)

distinct_one : (l : List ℕ) (y : ℕ) → distinct l ≡ true → among y l ≡ false → distinct (l ++ (y ∷ [])) ≡ true
unfolding distinct any all
distinct_one [] y a e = refl
distinct_one (x ∷ l) y a e =
    let p = both_hold (apart x l) (distinct l) a in
    let q = neither (eqb x y) (among y l) e in
    and_hold (apart_more x y l p.0 q.0) (distinct_one l y p.1 q.1)

pub distinct_none : (ns : List ℕ) → distinct (take 0 ns) ≡ true
unfolding distinct
distinct_none ns = refl

pub distinct_more : (ns : List ℕ) (i x : ℕ) → i < length ns → get_or ns i 0 ≡ x → distinct (take i ns) ≡ true → among x (take i ns) ≡ false
    → distinct (take (i + 1) ns) ≡ true
distinct_more ns i x h e d a =
    rw (add-one i, take-suc ns i 0 h, e) (distinct_one (take i ns) x d a)

-- ── a number that has occurred ──

apart_at : (x : ℕ) (l : List ℕ) (i : ℕ) → i < length l → eqb x (get_or l i 0) ≡ true → apart x l ≡ false
unfolding all
apart_at x [] i h e = absurd (omega arith)
apart_at x (y ∷ l) zero h e = rw e
apart_at x (y ∷ l) (suc i) h e = rw (apart_at x l i (le_of_suc-le-suc h) e) (and-false (not (eqb x y)))

pub distinct_fails : (ns : List ℕ) (i x : ℕ) → i < length ns → get_or ns i 0 ≡ x → among x (take i ns) ≡ true → false ≡ distinct ns
unfolding distinct any
distinct_fails [] i x h e a = absurd (omega arith)
distinct_fails (y ∷ ns) zero x h e a = true_false a refl
distinct_fails (y ∷ ns) (suc i) x h e a =
    let rest : among x (take i ns) ≡ true → false ≡ distinct ns = distinct_fails ns i x (le_of_suc-le-suc h) e in
    by_test (eqb y x)
    (λ s. rw (apart_at y ns i (le_of_suc-le-suc h) (ap (eqb y) e ∙ s)))
    (λ s. let r = rest (rw s at a) in rw (sym r) (sym (and-false (apart y ns))))

pub distinct_done : (ns : List ℕ) (i : ℕ) → length ns ≤ i → distinct (take i ns) ≡ true → true ≡ distinct ns
distinct_done ns i h e = sym e ∙ ap distinct (take_all i ns h)

-- ── the flags ──

-- a flag is up exactly if its number is among the first
pub record Flagged (flags ns : List ℕ) : Type 0 where
  pub long : length flags ≡ 1024
  pub flag : (n : ℕ) → n < 65536 → flag_at flags n ≡ among n ns

pub flagged_none : (ns : List ℕ) → Flagged (replicate 1024 0) (take 0 ns)
unfolding any
flagged_none ns = record { long = length-replicate {A = ℕ} 1024 0; flag = all_down }

pub flagged_more : (flags ns : List ℕ) (i x : ℕ) → i < length ns → get_or ns i 0 ≡ x → x < 65536 → Flagged flags (take i ns)
    → Flagged (raised flags x) (take (i + 1) ns)
flagged_more flags ns i x h e b f = record {
  long = raised_long flags f.long x b;
  flag = λ n k. dite (ℕ_discrete n x)
      (λ s. ap (flag_at (raised flags x)) s ∙ raised_up flags f.long x b
      ∙ sym (among_more n x ns i h e ∙ rw (eq-eqb x n (sym s)) (or-true (among n (take i ns)))))
      (λ d. raised_other flags f.long x b n d ∙ f.flag n k
      ∙ sym (among_more n x ns i h e ∙ rw (ne_eqb x n (λ s. d (sym s))) (or-false (among n (take i ns)))));
}
