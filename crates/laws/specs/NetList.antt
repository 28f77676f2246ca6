-- A day's nets as a list of records: they ascend, are due on one day, are positions of the sizes that a sound book allows, and balance.
use Rattle.std.specs.Prelude.{◌≡◌, Bool, true, false, cond, ◌&&◌, List, ◌++◌, map, eqb, length, ℤ, pos, nat_abs}
use Rattle.std.proofs.Math.Path.{refl, ap}
use Rattle.std.proofs.Common.{sym, ◌∙◌}
use Prim.Native.Nat.{ℕ, zero, suc, ◌*◌, ◌<◌, ◌≤◌}
use native.Mathlib.Omega.{arith}
use Rattle.std.proofs.Math.Dec.{leb, ltb}
use borrow.Author.Tests.{ltb-true, lt-ltb, le-leb, eqb-true, eq-eqb, ne_eqb, not-false}
use Rattle.integers.specs.Sums.{sum_by, sum_by_map}
use Rattle.units.specs.Units.{most_shares, most_mils}
use Rattle.rules.specs.Words.{all, keep, each, from}
use Rattle.rules.specs.Bounds.{accounts, securities, every_account, every_security, most_trades}
use Rattle.rules.specs.Book.{quantity_of, money_of, is_zero, number_of, due_of, security_of}
use Rattle.rules.specs.Sound.{ascends, ascends_from, is_position, sizes_fit, balanced}
use Rattle.rules.specs.Nets.{net_of, trades_of, nets}
use Rattle.rules.specs.declared.Position.{Position}
use Rattle.rules.specs.declared.Trade.{Trade}
use Rattle.laws.specs.Cases.{both_hold, and_hold, is_zero_lem, zero_is}
use Rattle.laws.specs.All.{all_so, all_and, all_both, each_all, each_all_in, map_all_in, accounts_below, securities_below}
use Rattle.laws.specs.Keeping.{keep_all, keep_passes, keep_swap, each_keep}
use Rattle.laws.specs.Adding.{sum_by_keep, sum_by_kept, sum_by_each, sum_security, each_sum_by}
use Rattle.laws.specs.Order.{keep_ascends, ascends_append, below_by}
use Rattle.laws.specs.Numbers.{number_due, by_account_lem, by_security, due_before, due_from}
use Rattle.laws.specs.NetLaws.{in_accounts, in_limits, shares_balance, money_balance, net_of_own, shares_size, money_size}

-- ── one account's ──

module _ (due : ℕ) (ts : List Trade) (a : ℕ) where
  nets_from : (m i n : ℕ) → m < number_of due a i → ascends_from m (map (net_of due ts a) (from i n)) ≡ true
  unfolding from ascends_from net_of
  nets_from m i zero h = refl
  nets_from m i (suc n) h =
      and_hold (lt-ltb m (number_of due a i) h) (nets_from (number_of due a i) (suc i) n (by_security due a i (suc i) (omega arith)))

  account_ascends : (i n : ℕ) → ascends (map (net_of due ts a) (from i n)) ≡ true
  unfolding from ascends net_of
  account_ascends i zero = refl
  account_ascends i (suc n) = nets_from (number_of due a i) (suc i) n (by_security due a i (suc i) (omega arith))

  pub net_number : (s : ℕ) → (net_of due ts a s).number ≡ number_of due a s
  unfolding net_of
  net_number s = refl

  net_security : (s : ℕ) → s < securities → security_of (net_of due ts a s) ≡ s
  unfolding net_of security_of number_of
  net_security s h = omega arith

-- an account's nets that are positions
abbrev nets_of : ℕ → List Trade → ℕ → List Position
nets_of due ts a = keep is_position (map (net_of due (trades_of a ts) a) every_security)

module _ (due : ℕ) (ts : List Trade) (a : ℕ) where
  -- what holds of every net of an account holds of these
  account_all : (t : Position → Bool) → ((s : ℕ) → s < securities → t (net_of due (trades_of a ts) a s) ≡ true) → all t (nets_of due ts a) ≡ true
  account_all t h =
      let one = net_of due (trades_of a ts) a in
      keep_all is_position t (map one every_security)
      (map_all_in (λ s. ltb s securities) t one every_security securities_below (λ s e. h s (ltb-true s securities e)))

  account_kept : ascends (nets_of due ts a) ≡ true
  unfolding every_security
  account_kept =
      let us = trades_of a ts in
      keep_ascends is_position (map (net_of due us a) (from 0 securities)) (account_ascends due us a 0 securities)

  -- their numbers are from that of the account's first security on, and below that of the next account's
  account_from : (m : ℕ) → m ≤ number_of due a 0 → all (λ q. leb m q.number) (nets_of due ts a) ≡ true
  unfolding net_of
  account_from m h = account_all (λ q. leb m q.number) (λ s l. le-leb m (number_of due a s) (at s))
    where
      at : (s : ℕ) → m ≤ number_of due a s
      at zero = h
      at (suc s) = omega (arith, by_security due a 0 (suc s) (omega arith))

  account_before : all (λ p. ltb p.number (number_of due (suc a) 0)) (nets_of due ts a) ≡ true
  unfolding net_of
  account_before =
      let next = number_of due (suc a) 0 in
      account_all (λ p. ltb p.number next) (λ s l. lt-ltb (number_of due a s) next (by_account_lem due a s (suc a) 0 l (omega arith)))

-- ── order and due day ──

module _ (due : ℕ) (ts : List Trade) where
  accounts_from : (a n m : ℕ) → m ≤ number_of due a 0 → all (λ q. leb m q.number) (each (nets_of due ts) (from a n)) ≡ true
  unfolding from each all
  accounts_from a zero m h = refl
  accounts_from a (suc n) m h =
      all_both (λ q. leb m q.number) (nets_of due ts a) (each (nets_of due ts) (from (suc a) n)) (account_from due ts a m h)
      (accounts_from (suc a) n m (omega (arith, by_account_lem due a 0 (suc a) 0 (omega arith) (omega arith))))

  accounts_ascend : (a n : ℕ) → ascends (each (nets_of due ts) (from a n)) ≡ true
  unfolding from each ascends
  accounts_ascend a zero = refl
  accounts_ascend a (suc n) =
      let next = number_of due (suc a) 0 in
      let later = each (nets_of due ts) (from (suc a) n) in
      ascends_append (nets_of due ts a) later (account_kept due ts a) (accounts_ascend (suc a) n)
      (below_by next (nets_of due ts a) later (account_before due ts a) (accounts_from (suc a) n next (omega arith)))

  -- a day's nets ascend
  pub nets_ascend : ascends (nets due ts) ≡ true
  unfolding nets every_account
  nets_ascend = accounts_ascend 0 accounts

  -- what holds of the net of every account and security holds of all nets
  pub nets_all : (t : Position → Bool) → ((a s : ℕ) → a < accounts → s < securities → t (net_of due (trades_of a ts) a s) ≡ true)
      → all t (nets due ts) ≡ true
  unfolding nets
  nets_all t h =
      each_all_in (λ a. ltb a accounts) t (nets_of due ts) every_account accounts_below
      (λ a e. account_all due ts a t (λ s l. h a s (ltb-true a accounts e) l))

  -- each has the due day
  pub nets_due : all (λ p. eqb (due_of p) due) (nets due ts) ≡ true
  nets_due = nets_all (λ p. eqb (due_of p) due) (λ a s ha hs. eq-eqb (due_of (net_of due (trades_of a ts) a s)) due (day a s ha hs))
    where
      day : (a s : ℕ) → a < accounts → s < securities → due_of (net_of due (trades_of a ts) a s) ≡ due
      day a s ha hs = number_due (net_of due (trades_of a ts) a s) due a s ha hs (net_number due (trades_of a ts) a s)

  -- records due before the day, and then its nets, ascend
  pub ascends_nets : (ps : List Position) → ascends ps ≡ true → all (λ p. ltb (due_of p) due) ps ≡ true → ascends (ps ++ nets due ts) ≡ true
  ascends_nets ps a h =
      let n = due * 2_048 in
      ascends_append ps (nets due ts) a nets_ascend
      (below_by n ps (nets due ts)
      (all_so (λ p. ltb (due_of p) due) (λ p. ltb p.number n) ps (λ p e. lt-ltb p.number n (due_before p due (ltb-true (due_of p) due e))) h)
      (all_so (λ p. eqb (due_of p) due) (λ p. leb n p.number) (nets due ts)
      (λ p e. le-leb n p.number (due_from p due (omega (arith, eqb-true (due_of p) due e)))) nets_due))

-- ── balance ──

abbrev in_security : ℕ → Position → Bool
in_security s p = eqb (security_of p) s

-- what counts nothing for a 0-and-0 net, added up over the nets of a security, is the sum over the accounts
module _ (f : Position → ℤ) (idle : (p : Position) → is_position p ≡ false → f p ≡ pos 0)
    (due : ℕ) (ts : List Trade) (s : ℕ) (h : s < securities) where
  -- of one account's nets only that of the security counts
  only_security : (us : List Trade) (a : ℕ) → sum_by f (keep (in_security s) (map (net_of due us a) every_security)) ≡ f (net_of due us a s)
  only_security us a =
      let one = net_of due us a in
      let at : eqb (security_of (one s)) s ≡ true = eq-eqb (security_of (one s)) s (net_security due us a s h) in
      sum_by_keep f (in_security s) (map one every_security)
      ∙ sum_by_map (λ p. cond (in_security s p) (f p) (pos 0)) one every_security
      ∙ sum_security (λ u. cond (in_security s (one u)) (f (one u)) (pos 0)) s h
      (λ u l ne. rw (ne_eqb (security_of (one u)) s (λ e. ne (sym (net_security due us a u l) ∙ e))))
      ∙ rw at

  account_sum : (a : ℕ) → sum_by f (keep (in_security s) (nets_of due ts a)) ≡ f (net_of due ts a s)
  account_sum a =
      let all-nets = map (net_of due (trades_of a ts) a) every_security in
      ap (sum_by f) (keep_swap (in_security s) is_position all-nets)
      ∙ sum_by_kept f is_position (keep (in_security s) all-nets) idle
      ∙ only_security (trades_of a ts) a
      ∙ ap f (net_of_own due ts a s)

  pub nets_sum : sum_by f (keep (in_security s) (nets due ts)) ≡ sum_by (λ a. f (net_of due ts a s)) every_account
  unfolding nets
  nets_sum =
      ap (sum_by f) (each_keep (in_security s) (nets_of due ts) every_account)
      ∙ each_sum_by f (λ a. keep (in_security s) (nets_of due ts a)) every_account
      ∙ sum_by_each (λ a. sum_by f (keep (in_security s) (nets_of due ts a))) (λ a. f (net_of due ts a s)) every_account account_sum

idle_both : (p : Position) → is_position p ≡ false → (is_zero (quantity_of p) ≡ true) × (is_zero (money_of p) ≡ true)
unfolding is_position
idle_both p e = both_hold (is_zero (quantity_of p)) (is_zero (money_of p)) (not-false (is_zero (quantity_of p) && is_zero (money_of p)) e)

-- per security the shares of a day's nets total zero, and their money
module _ (due : ℕ) (ts : List Trade) (w : all in_accounts ts ≡ true) where
  pub nets_shares : (s : ℕ) → s < securities → sum_by quantity_of (keep (in_security s) (nets due ts)) ≡ pos 0
  nets_shares s h = nets_sum quantity_of (λ p e. is_zero_lem (quantity_of p) (idle_both p e).0) due ts s h ∙ shares_balance due ts s w

  pub nets_money : (s : ℕ) → s < securities → sum_by money_of (keep (in_security s) (nets due ts)) ≡ pos 0
  nets_money s h = nets_sum money_of (λ p e. is_zero_lem (money_of p) (idle_both p e).1) due ts s h ∙ money_balance due ts s w

  pub nets_balanced : balanced (nets due ts) ≡ true
  unfolding balanced
  nets_balanced =
      all_so (λ s. ltb s securities) (λ s. is_zero (sum_by quantity_of (keep (in_security s) (nets due ts)))) every_security
      (λ s e. zero_is (sum_by quantity_of (keep (in_security s) (nets due ts))) (nets_shares s (ltb-true s securities e))) securities_below

-- ── sizes ──

-- each net is a position
pub nets_positions : (due : ℕ) (ts : List Trade) → all is_position (nets due ts) ≡ true
unfolding nets
nets_positions due ts =
    each_all is_position (nets_of due ts) every_account (λ a. keep_passes is_position (map (net_of due (trades_of a ts) a) every_security))

abbrev within : Position → Bool
within p = leb (nat_abs (quantity_of p)) most_shares && leb (nat_abs (money_of p)) most_mils

within_fits : (p : Position) → within p && is_position p ≡ true → sizes_fit p ≡ true
unfolding sizes_fit
within_fits p e =
    let x = both_hold (within p) (is_position p) e in
    let y = both_hold (leb (nat_abs (quantity_of p)) most_shares) (leb (nat_abs (money_of p)) most_mils) x.0 in
    and_hold y.0 (and_hold y.1 x.1)

-- of the sizes that a sound book allows
module _ (due : ℕ) (ts : List Trade) (few : length ts ≤ most_trades) (w : all in_limits ts ≡ true) where
  net_within : (a s : ℕ) → within (net_of due ts a s) ≡ true
  net_within a s =
      and_hold (le-leb (nat_abs (quantity_of (net_of due ts a s))) most_shares (shares_size due ts few w a s))
      (le-leb (nat_abs (money_of (net_of due ts a s))) most_mils (money_size due ts few w a s))

  pub nets_fit : all sizes_fit (nets due ts) ≡ true
  nets_fit =
      all_so (λ p. within p && is_position p) sizes_fit (nets due ts) within_fits
      (all_and within is_position (nets due ts)
      (nets_all due ts within (λ a s ha hs. rw (net_of_own due ts a s) (net_within a s)))
      (nets_positions due ts))
