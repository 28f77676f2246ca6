-- Where older, newly due and later records begin: counting the records that are due before a day.
use Rattle.std.specs.Prelude.{◌≡◌, refl, Bool, true, false, cond, List, [], ◌∷◌, ℕ, ◌+◌, ◌<◌, ◌≤◌, eqb, ltb, length, get_or, take}
use Rattle.std.proofs.Common.{sym, ap, ◌∙◌, arith, length-append, ltb-true, ltb-false, lt-ltb, le-ltb, eqb-true, ne_eqb}
use Rattle.std.proofs.lemmas.Bool.{eqb-false}
use Rattle.rules.specs.Words.{keep}
use Rattle.rules.specs.Book.{due_of, no_position}
use Rattle.rules.specs.declared.Position.{Position}
use Rattle.laws.specs.Cases.{by_test}
use Rattle.laws.specs.Keeping.{keep_none, keep_yes, keep_no}
use Rattle.laws.specs.DueDays.{is_older, is_newly}
use Rattle.parts.specs.Packing.{next_kept, next_gone}

-- ── how many of the first i records pass a test ──

pub record Counts (t : Position → Bool) (l : List Position) (i k : ℕ) : Type 0 where
  pub few : k ≤ i
  pub many : k ≡ length (keep t (take i l))

pub counts_none : (t : Position → Bool) (l : List Position) → Counts t l 0 0
unfolding keep
counts_none t l = record { few = omega arith; many = refl }

pub counts_more : (t : Position → Bool) (l : List Position) (i k k' : ℕ) → i < length l → Counts t l i k
    → k' ≡ cond (t (get_or l i no_position)) (k + 1) k → Counts t l (i + 1) k'
counts_more t l i k k' h inv e = by_test (t (get_or l i no_position)) kept gone
  where
    kept : t (get_or l i no_position) ≡ true → Counts t l (i + 1) k'
    kept f =
        let one : k' ≡ k + 1 = rw f at e in
        let p = get_or l i no_position in
        record {
          few = omega (arith, inv.few);
          many = omega (arith, inv.many, ap length (next_kept t l i h f), length-append (keep t (take i l)) (p ∷ []));
        }

    gone : t (get_or l i no_position) ≡ false → Counts t l (i + 1) k'
    gone f =
        let same : k' ≡ k = rw f at e in
        record { few = omega (arith, inv.few); many = same ∙ inv.many ∙ ap length (sym (next_gone t l i h f)) }

-- ── those due before the next day are the older and the newly due ──

pub due_by : (d : ℕ) (ps : List Position) → length (keep (is_older (d + 1)) ps) ≡ length (keep (is_older d) ps) + length (keep (is_newly d) ps)
due_by d [] = rw (keep_none (is_older (d + 1)), keep_none (is_older d), keep_none (is_newly d))
due_by d (p ∷ ps) =
    let ih = due_by d ps in
    by_test (ltb (due_of p) d)
    (λ e. let h = ltb-true (due_of p) d e in
    rw (
      keep_yes (is_older (d + 1)) p ps (lt-ltb (due_of p) (d + 1) (omega arith)),
      keep_yes (is_older d) p ps e,
      keep_no (is_newly d) p ps (ne_eqb (due_of p) d (λ z. omega arith)),
    )
    (omega arith))
    (λ e. let h = ltb-false (due_of p) d e in
    by_test (eqb (due_of p) d)
    (λ f. let g = eqb-true (due_of p) d f in
    rw (
      keep_yes (is_older (d + 1)) p ps (lt-ltb (due_of p) (d + 1) (omega arith)),
      keep_no (is_older d) p ps e,
      keep_yes (is_newly d) p ps f,
    )
    (omega arith))
    (λ f. let g = eqb-false (due_of p) d f in
    rw (
      keep_no (is_older (d + 1)) p ps (le-ltb (due_of p) (d + 1) (omega arith)),
      keep_no (is_older d) p ps e,
      keep_no (is_newly d) p ps f,
    )
    (omega arith)))
