-- Position numbers: due day, account and security are read back from them, and their order is that of due day, then account, then security.
use Rattle.std.specs.Prelude.{◌≡◌, ℕ, ◌*◌, ◌<◌, ◌≤◌}
use Rattle.std.proofs.Common.{sym, ◌∙◌}
use native.Mathlib.Omega.{arith}
use Rattle.rules.specs.Bounds.{accounts, securities}
use Rattle.rules.specs.Book.{number_of, due_of, account_of, security_of}
use Rattle.rules.specs.declared.Position.{Position}

-- ── read back ──

module _ (p : Position) (due account security : ℕ) (a : account < accounts) (s : security < securities)
    (e : p.number ≡ number_of due account security) where
  pub number_due : due_of p ≡ due
  unfolding due_of number_of
  number_due = rw e (omega arith)

  pub number_account : account_of p ≡ account
  unfolding account_of number_of
  number_account = rw e (omega arith)

  pub number_security : security_of p ≡ security
  unfolding security_of number_of
  number_security = rw e (omega arith)

pub account_below : (p : Position) → account_of p < accounts
unfolding account_of
account_below p = omega arith

pub security_below : (p : Position) → security_of p < securities
unfolding security_of
security_below p = omega arith

-- the number is that of its due day, account and security
pub number_whole : (p : Position) → number_of (due_of p) (account_of p) (security_of p) ≡ p.number
unfolding number_of due_of account_of security_of
number_whole p = omega arith

-- ── order ──

pub by_account_lem : (d a s b u : ℕ) → s < securities → a < b → number_of d a s < number_of d b u
unfolding number_of
by_account_lem d a s b u hs h = omega arith

pub by_security : (d a s u : ℕ) → s < u → number_of d a s < number_of d a u
unfolding number_of
by_security d a s u h = omega arith

-- of records: what makes their numbers equal, and what the order of the numbers says of the due days
module _ (p q : Position) where
  pub same_number : due_of p ≡ due_of q → account_of p ≡ account_of q → security_of p ≡ security_of q → p.number ≡ q.number
  same_number e f h =
      let g : number_of (due_of p) (account_of p) (security_of p) ≡ number_of (due_of q) (account_of q) (security_of q) = rw (e, f, h) in
      sym (number_whole p) ∙ g ∙ number_whole q

  pub number_order : p.number < q.number → due_of p ≤ due_of q
  unfolding due_of
  number_order h = omega arith

-- below a day's first number is due before the day, and the other way
pub due_before : (p : Position) (due : ℕ) → due_of p < due → p.number < due * 2_048
unfolding due_of
due_before p due h = omega arith

pub due_from : (p : Position) (due : ℕ) → due ≤ due_of p → due * 2_048 ≤ p.number
unfolding due_of
due_from p due h = omega arith
