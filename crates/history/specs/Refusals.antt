-- Refusals 1 and 13 are never given on a book that a history from an empty book reaches.
use Rattle.std.specs.Prelude.{◌≡◌, refl, Bool, true, not, ◌||◌, List, [], ◌∷◌, ℕ, ◌<◌, eqb, ltb}
use Rattle.std.proofs.Common.{sym, ◌∙◌, arith, ltb-false}
use Rattle.std.proofs.lemmas.Bool.{eqb-false, not-true}
use Rattle.rules.specs.Words.{all, Test, first}
use Rattle.rules.specs.Bounds.{securities, last_security}
use Rattle.rules.specs.Book.{unlisted}
use Rattle.rules.specs.Trades.{no_security, bad_security}
use Rattle.rules.specs.Calls.{Call, enter, amend, exclude, roll, deposit, withdraw, run, field_tests, holding_tests, tests, answer, answer_sound}
use Rattle.rules.specs.declared.Book.{Book}
use Rattle.laws.specs.Cases.{by_test, both_hold, neither}
use Rattle.laws.specs.SoundRun.{sound_test_13}
use Rattle.history.specs.Steps.{Good, answer_sound_lem}

-- a number that none of the tests gives is not the answer
abbrev spared : ℕ → List Test → Bool
spared n ts = all (λ (t : Test). not (eqb t.1 n)) ts

not_given : (n : ℕ) (ts : List Test) → 0 < n → spared n ts ≡ true → first ts ≡ n → ⊥
unfolding first all
not_given n [] z a e = omega arith
not_given n (t ∷ ts) z a e =
    let p = both_hold (not (eqb t.1 n)) (spared n ts) a in
    by_test t.0 (λ y. eqb-false t.1 n (not-true (eqb t.1 n) p.0) (rw y at e)) (λ y. not_given n ts z p.1 (rw y at e))

-- ── 1 ──

no_1 : (k : Book) (c : Call) → spared 1 (tests k c) ≡ true
unfolding tests field_tests holding_tests all
no_1 k (enter t) = refl
no_1 k (amend t) = refl
no_1 k (exclude n) = refl
no_1 k roll = refl
no_1 k (deposit a s q) = refl
no_1 k (withdraw a s q) = refl
no_1 k (run s) = refl

pub never_1 : (k : Book) (c : Call) → Good k → answer k c ≡ 1 → ⊥
unfolding answer_sound
never_1 k c g e = not_given 1 (tests k c) (omega arith) (no_1 k c) (sym (answer_sound_lem k c g.sound) ∙ e)

-- ── 13 ──

run_13 : (k : Book) (s : ℕ) → Good k → answer_sound k (run s) ≡ 13 → ⊥
unfolding answer_sound tests first bad_security no_security
run_13 k s g e =
    by_test (ltb last_security s || unlisted k s)
    (λ y. let z = rw y at e in omega arith)
    (λ y. let h : s < securities = omega (arith, ltb-false last_security s (neither (ltb last_security s) (unlisted k s) y).0) in
    let z = rw (y, sound_test_13 k s h g.sound) at e in omega arith)

not_13 : (k : Book) (c : Call) → Good k → answer_sound k c ≡ 13 → ⊥
unfolding answer_sound tests field_tests holding_tests all
not_13 k (enter t) g e = not_given 13 (tests k (enter t)) (omega arith) refl e
not_13 k (amend t) g e = not_given 13 (tests k (amend t)) (omega arith) refl e
not_13 k (exclude n) g e = not_given 13 (tests k (exclude n)) (omega arith) refl e
not_13 k roll g e = not_given 13 (tests k roll) (omega arith) refl e
not_13 k (deposit a s q) g e = not_given 13 (tests k (deposit a s q)) (omega arith) refl e
not_13 k (withdraw a s q) g e = not_given 13 (tests k (withdraw a s q)) (omega arith) refl e
not_13 k (run s) g e = run_13 k s g e

pub never_13 : (k : Book) (c : Call) → Good k → answer k c ≡ 13 → ⊥
never_13 k c g e = not_13 k c g (sym (answer_sound_lem k c g.sound) ∙ e)
