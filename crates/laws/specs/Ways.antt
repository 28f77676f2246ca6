-- The tests of a call in their order: what the code knows of them at a `return`, and that its answer is then the first that holds.
use Rattle.std.specs.Prelude.{◌≡◌, refl, List, [], ◌∷◌, Bool, true, false, cond, ◌||◌, ℕ, eqb}
use Rattle.std.proofs.Common.{sym, ap, ◌∙◌, eq-eqb, ne_eqb}
use Rattle.rules.specs.Words.{Test, first}
use Rattle.rules.specs.Trades.{bad_accounts, bad_security, bad_quantity, bad_price, same_account}
use Rattle.rules.specs.Calls.{field_tests}
use Rattle.rules.specs.declared.Trade.{Trade}
use Rattle.rules.specs.declared.Book.{Book}

-- a way through the tests to an answer
pub data Way : List Test → ℕ → Type 0 where
  through : Way [] 0
  stop : {b : Bool} {n : ℕ} {ts : List Test} → b ≡ true → Way ((b, n) ∷ ts) n
  pass : {b : Bool} {n m : ℕ} {ts : List Test} → b ≡ false → Way ts m → Way ((b, n) ∷ ts) m

pub answer : {ts : List Test} {m : ℕ} → Way ts m → m ≡ first ts
unfolding first
answer through = refl
answer (stop {n = n} {ts = ts} e) = sym (ap (λ (b : Bool). cond b n (first ts)) e)
answer (pass {n = n} {ts = ts} e w) = answer w ∙ sym (ap (λ (b : Bool). cond b n (first ts)) e)

-- one test of two parts
pub both_fail : (a b : Bool) → a ≡ false → b ≡ false → a || b ≡ false
both_fail a b e f = rw (e, f)

-- ── the tests of a trade's fields, and those behind them ──

five : (a b c d e : Bool) → List Test → List Test
five a b c d e rest = (a, 2) ∷ (b, 3) ∷ (c, 4) ∷ (d, 5) ∷ (e, 6) ∷ rest

five_first : (a b c d e : Bool) (rest : List Test)
    → first (five a b c d e rest) ≡ cond (eqb (first (five a b c d e [])) 0) (first rest) (first (five a b c d e []))
unfolding first five
five_first true b c d e rest = refl
five_first false true c d e rest = refl
five_first false false true d e rest = refl
five_first false false false true e rest = refl
five_first false false false false true rest = refl
five_first false false false false false rest = refl

module _ (k : Book) (t : Trade) (rest : List Test) where
  fields_first : first (field_tests k t rest) ≡ cond (eqb (first (field_tests k t [])) 0) (first rest) (first (field_tests k t []))
  unfolding field_tests five
  fields_first = five_first (bad_accounts t) (bad_security k t.security) (bad_quantity t) (bad_price t) (same_account t) rest

  -- a fault of the fields is the answer
  pub fault_first : (n : ℕ) → n ≡ first (field_tests k t []) → (n ≡ 0 → ⊥) → n ≡ first (field_tests k t rest)
  fault_first n e h = sym (fields_first ∙ rw (← e, ne_eqb n 0 h))

  -- without one it is the answer of the other tests
  pub fine_first : (n m : ℕ) → n ≡ first (field_tests k t []) → n ≡ 0 → m ≡ first rest → m ≡ first (field_tests k t rest)
  fine_first n m e z h = h ∙ sym (fields_first ∙ rw (← e, eq-eqb n 0 z))
