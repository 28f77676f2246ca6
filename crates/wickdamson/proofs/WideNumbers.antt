-- Laws of wide numbers: what stands for them, that no account, security or trade number is lost or made by it, and lines of them.
use Rattle.std.specs.Prelude.{◌≡◌, Bool, true, false, ◌||◌, List, ℕ, ◌<◌, ◌≤◌}
use Rattle.std.proofs.Common.{sym, arith, lt-ltb, le-ltb, ltb-true, ltb-false}
use Rattle.laws.specs.Cases.{by_test, neither}
use Rattle.rules.specs.Words.{above}
use Rattle.rules.specs.Trades.{no_account, no_security}
use Rattle.rules.specs.declared.Line.{Line}
use Rattle.wickdamson.specs.Fields.{byte_of, number_of}
use Rattle.wickdamson.specs.Lines.{LineWritten, LineOffered}

-- ── by the test that the code makes ──

pub wide_byte : (n : ℕ) → 255 < n → 255 ≡ byte_of n
unfolding byte_of
wide_byte n h = rw (lt-ltb 255 n h)

pub narrow_byte : (n : ℕ) → n ≤ 255 → n ≡ byte_of n
unfolding byte_of
narrow_byte n h = rw (le-ltb 255 n h)

pub wide_number : (n : ℕ) → 65_535 < n → 0 ≡ number_of n
unfolding number_of
wide_number n h = rw (lt-ltb 65_535 n h)

pub narrow_number : (n : ℕ) → n ≤ 65_535 → n ≡ number_of n
unfolding number_of
narrow_number n h = rw (le-ltb 65_535 n h)

-- ── 2 and 3 are answered of the wide number as of the byte that stands for it ──

pub same_account_lem : (n : ℕ) → no_account (byte_of n) ≡ no_account n
unfolding no_account
same_account_lem n =
    by_test (above 255 n)
    (λ w. rw (← wide_byte n (omega (arith, ltb-true 255 n w))) (sym (lt-ltb 63 n (omega (arith, ltb-true 255 n w)))))
    (λ w. rw (← narrow_byte n (ltb-false 255 n w)))

pub same_security : (n : ℕ) → no_security (byte_of n) ≡ no_security n
unfolding no_security
same_security n =
    by_test (above 255 n)
    (λ w. rw (← wide_byte n (omega (arith, ltb-true 255 n w))) (sym (lt-ltb 31 n (omega (arith, ltb-true 255 n w)))))
    (λ w. rw (← narrow_byte n (ltb-false 255 n w)))

-- ── lines ──

pub both_narrow : (a b : ℕ) → above 255 a || above 255 b ≡ false → (a ≤ 255) × (b ≤ 255)
both_narrow a b e = let n = neither (above 255 a) (above 255 b) e in (ltb-false 255 a n.0, ltb-false 255 b n.1)

module _ (l : Line) (buffer : List ℕ) (lines bytes : ℕ) where
  pub too_wide : (wide : Bool) → wide ≡ true → LineOffered wide l buffer lines bytes 18 buffer lines bytes 0
  too_wide wide e = record { answers = rw e; leaves = rw e; tallies = rw e; sized = rw e }

  pub offered : (wide : Bool) {answer : ℕ} {left : List ℕ} {lines' bytes' size : ℕ} → wide ≡ false
      → LineWritten l buffer lines bytes answer left lines' bytes' size → LineOffered wide l buffer lines bytes answer left lines' bytes' size
  offered wide e h = record { answers = rw e h.answers; leaves = rw e h.leaves; tallies = rw e h.tallies; sized = rw e h.sized }
