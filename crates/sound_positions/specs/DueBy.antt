-- A due day by the number alone: due by a day, that is, numbered below the day after.
use Rattle.std.specs.Prelude.{◌≡◌, ℕ, ◌+◌, ◌*◌, ◌/◌, leb, ltb}
use Rattle.std.proofs.Common.{sym, ◌∙◌, arith, ltb-true, ltb-false, le-leb}
use Rattle.std.proofs.lemmas.Bool.{lt-leb}
use Rattle.laws.specs.Cases.{by_test}

pub below_next : (n day : ℕ) → ltb n ((day + 1) * 2_048) ≡ leb (n / 2_048) day
below_next n day =
    by_test (ltb n ((day + 1) * 2_048))
    (λ e. let h = ltb-true n ((day + 1) * 2_048) e in e ∙ sym (le-leb (n / 2_048) day (omega arith)))
    (λ e. let h = ltb-false n ((day + 1) * 2_048) e in e ∙ sym (lt-leb (n / 2_048) day (omega arith)))
