-- What all accounts hold of a security is what was deposited less what was withdrawn, over the whole history: runs and rolls neither make nor lose shares.
use Rattle.std.specs.Prelude.{◌≡◌, cond, List, [], ◌∷◌, ℕ, ◌+◌, ◌-◌, ◌<◌, eqb}
use Rattle.std.proofs.Math.Path.{refl, sym}
use Rattle.std.proofs.Common.{arith}
use Rattle.std.proofs.Math.ListN.{get_or}
use Rattle.std.proofs.lemmas.List.{get_or-replicate}
use borrow.Author.Tests.{eqb-true, eqb-false}
use Rattle.rules.specs.Words.{total}
use Rattle.rules.specs.Bounds.{securities}
use Rattle.rules.specs.Book.{held_by, holding_at, empty_book, with_open, with_list, with_holdings, with_charges, with_day}
use Rattle.rules.specs.Sound.{total_held}
use Rattle.rules.specs.Roll.{uncharged, netted, emptied, next_day, offset, rolled}
use Rattle.rules.specs.Calls.{Call, enter, amend, exclude, roll, deposit, withdraw, run, after, answer_sound}
use Rattle.rules.specs.declared.Book.{Book}
use Rattle.laws.specs.Cases.{by_test}
use Rattle.laws.specs.Accepted.{may_deposit, may_withdraw}
use Rattle.laws.specs.Totals.{total_there, total_elsewhere}
use Rattle.laws.specs.Empty.{nothing_total}
use Rattle.laws.specs.RunSound.{may_run}
use Rattle.laws.specs.RunHoldings.{run_total}
use Rattle.history.specs.Histories.{accepted, made, log_of}
use Rattle.history.specs.Steps.{Good, took, after_good}
use Rattle.history.specs.Logs.{made_yes, log_yes, made_no, log_no}
use Rattle.history.specs.Amounts.{brings_in, takes_out, deposited, withdrawn}

-- ── one accepted call ──

module _ (k : Book) (g : Good k) (s : ℕ) (h : s < securities) where
  deposit_total : (a u q : ℕ) → answer_sound k (deposit a u q) ≡ 0
      → total_held (after k (deposit a u q)).holdings s ≡ total_held k.holdings s + cond (eqb u s) q 0
  unfolding after with_holdings held_by
  deposit_total a u q e =
      let m = (may_deposit k a u q e).0 in
      let v = get_or k.holdings (holding_at a u) 0 + q in
      by_test (eqb u s)
      (λ y. rw (y, sym (eqb-true u s y)) (omega (arith, total_there k.holdings g.shaped.holdings a u v m.account m.security)))
      (λ y. rw y (omega (arith, total_elsewhere k.holdings g.shaped.holdings a u v m.account m.security s h (λ z. eqb-false u s y (sym z)))))

  withdraw_total : (a u q : ℕ) → answer_sound k (withdraw a u q) ≡ 0
      → total_held (after k (withdraw a u q)).holdings s + cond (eqb u s) q 0 ≡ total_held k.holdings s
  unfolding after with_holdings held_by
  withdraw_total a u q e =
      let w = may_withdraw k a u q e in
      let m = w.0 in
      let v = get_or k.holdings (holding_at a u) 0 - q in
      by_test (eqb u s)
      (λ y. rw (y, sym (eqb-true u s y)) (omega (arith, w.1, total_there k.holdings g.shaped.holdings a u v m.account m.security)))
      (λ y. rw y (omega (arith, total_elsewhere k.holdings g.shaped.holdings a u v m.account m.security s h (λ z. eqb-false u s y (sym z)))))

  call_total : (c : Call) → answer_sound k c ≡ 0 → total_held (after k c).holdings s + takes_out s c ≡ total_held k.holdings s + brings_in s c
  unfolding after takes_out brings_in with_list rolled offset next_day emptied netted uncharged with_day with_open with_charges
  call_total (enter t) e = refl
  call_total (amend t) e = refl
  call_total (exclude n) e = refl
  call_total roll e = refl
  call_total (deposit a u q) e = omega (arith, deposit_total a u q e)
  call_total (withdraw a u q) e = omega (arith, withdraw_total a u q e)
  call_total (run u) e = omega (arith, run_total k u (may_run k u e).0 g.sound g.shaped s h)

-- ── over a history ──

pub held_kept : (k : Book) (cs : List Call) (s : ℕ) → Good k → s < securities
    → total_held (made k cs).holdings s + withdrawn k cs s ≡ total_held k.holdings s + deposited k cs s
unfolding made log_of deposited withdrawn total
held_kept k [] s g h = refl
held_kept k (c ∷ cs) s g h =
    by_test (accepted k c)
    (λ y. let e = took k c g y in
    rw (made_yes k c cs y, log_yes k c cs y)
    (omega (arith, call_total k g s h c e, held_kept (after k c) cs s (after_good k g c e) h)))
    (λ n. rw (made_no k c cs n, log_no k c cs n) (held_kept k cs s g h))

pub nothing_held : (codes : List ℕ) (s : ℕ) → s < securities → total_held (empty_book codes).holdings s ≡ 0
unfolding total_held empty_book
nothing_held codes s h = rw nothing_total (get_or-replicate securities s 0 0 h)
