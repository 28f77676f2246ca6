-- Each security's open quantities total zero over all accounts, in every sound book: those due by the day, and those due on day + 1.
use Rattle.std.specs.Prelude.{◌≡◌, Bool, true, false, List, [], ◌∷◌, ℕ, ◌+◌, ◌<◌, eqb, leb, ℤ, pos, ◌+ℤ◌}
use Rattle.std.proofs.Common.{arith, leb-true, leb-false, eq-eqb, ne_eqb}
use Rattle.integers.specs.Linear.{zlin}
use Rattle.integers.specs.Sums.{sum_by}
use Rattle.rules.specs.Words.{all, keep}
use Rattle.rules.specs.Bounds.{securities, every_security}
use Rattle.rules.specs.Book.{quantity_of, is_zero, due_of, security_of, open_of}
use Rattle.rules.specs.Sound.{due_fits, is_due, balanced, due_balanced}
use Rattle.rules.specs.declared.Position.{Position}
use Rattle.rules.specs.declared.Book.{Book}
use Rattle.laws.specs.Cases.{by_test, both_hold, is_zero_lem}
use Rattle.laws.specs.Keeping.{keep_none, keep_yes, keep_no}
use Rattle.laws.specs.Against.{shares_in}
use Rattle.laws.specs.Deliveries.{all_from}
use Rattle.laws.specs.Showing.{balanced_sum}
use Rattle.laws.specs.SoundParts.{sound_parts}
use Rattle.history.specs.Steps.{Good}
use Rattle.history.specs.Amounts.{open_shares}

abbrev is_next : ℕ → Position → Bool
is_next day p = eqb (due_of p) (day + 1)

-- every record is due by the day, or on the next
due_or_next : (f : Position → ℤ) (day : ℕ) (ps : List Position) → all (due_fits day) ps ≡ true
    → sum_by f ps ≡ sum_by f (keep (is_due day) ps) +ℤ sum_by f (keep (is_next day) ps)
unfolding all due_fits is_due
due_or_next f day [] a = rw (keep_none (is_due day), keep_none (is_next day))
due_or_next f day (p ∷ ps) a =
    let h = both_hold (leb (due_of p) (day + 1)) (all (due_fits day) ps) a in
    let ih = due_or_next f day ps h.1 in
    by_test (leb (due_of p) day)
    (λ e. let n : is_next day p ≡ false = ne_eqb (due_of p) (day + 1) (λ z. omega (arith, leb-true (due_of p) day e)) in
    rw (keep_yes (is_due day) p ps e, keep_no (is_next day) p ps n) (simp zlin (omega (arith, simp zlin at ih))))
    (λ e. let n : is_next day p ≡ true = eq-eqb (due_of p) (day + 1) (omega (arith, leb-false (due_of p) day e, leb-true (due_of p) (day + 1) h.0)) in
    rw (keep_no (is_due day) p ps e, keep_yes (is_next day) p ps n) (simp zlin (omega (arith, simp zlin at ih))))

pub shares_zero : (k : Book) → Good k → (s : ℕ) → s < securities → open_shares k s ≡ pos 0
unfolding open_shares due_balanced balanced every_security
shares_zero k g s h =
    let c = sound_parts k g.sound in
    let due = keep (is_due k.day) (open_of k) in
    let next = keep (is_next k.day) (open_of k) in
    let b = both_hold (balanced due) (balanced next) c.balances in
    let all-zero = balanced_sum due next (open_of k) (λ u. due_or_next (shares_in u) k.day (open_of k) c.due_days) b.0 b.1 in
    is_zero_lem (sum_by quantity_of (keep (λ p. eqb (security_of p) s) (open_of k)))
    (all_from (λ u. is_zero (sum_by quantity_of (keep (λ p. eqb (security_of p) u) (open_of k)))) 0 securities s all-zero (omega arith) (omega arith))
