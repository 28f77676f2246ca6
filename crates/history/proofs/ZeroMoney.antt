-- In each currency the money ever charged plus the money still open totals zero over all accounts: today's charges with the open money stay through every
-- call but the roll, and a roll turns what is open into charges and open money.
use Rattle.std.specs.Prelude.{◌≡◌, Bool, true, false, cond, List, [], ◌∷◌, ◌++◌, ℕ, ◌+◌, ◌*◌, ◌<◌, eqb, replicate, ℤ, ◌+ℤ◌}
use Rattle.std.proofs.Math.Path.{refl, sym, ap}
use Rattle.std.proofs.Common.{◌∙◌, arith, eqb-true, eq-eqb, ne_eqb, ltb-true}
use Rattle.std.proofs.Math.Dec.{ltb}
use Rattle.std.proofs.Math.IntN.{pos, +ℤ_idr}
use Rattle.integers.specs.Linear.{zlin}
use Rattle.integers.specs.Sums.{sum_by, sum_by_append, sum_by_sum, sum_by_swap}
use Rattle.units.specs.Units.{mils}
use Rattle.units.specs.declared.Mils.{Mils}
use Rattle.rules.specs.Words.{all, keep}
use Rattle.rules.specs.Bounds.{accounts, securities, currencies, every_account, every_security}
use Rattle.rules.specs.Book.{money_of, account_of, security_of, open_of, list_of, currency_of, charge_of, empty_book, with_open, with_list, with_holdings, with_charges, with_day}
use Rattle.rules.specs.Nets.{nets}
use Rattle.rules.specs.Roll.{uncharged, netted, emptied, next_day, offset, rolled}
use Rattle.rules.specs.Run.{settled}
use Rattle.rules.specs.Calls.{Call, enter, amend, exclude, roll, deposit, withdraw, run, after, answer_sound}
use Rattle.rules.specs.declared.Position.{Position}
use Rattle.rules.specs.declared.Trade.{Trade}
use Rattle.rules.specs.declared.Book.{Book}
use Rattle.laws.specs.Cases.{by_test, true_false}
use Rattle.laws.specs.All.{accounts_below, securities_below}
use Rattle.laws.specs.Keeping.{keep_none, keep_append, keep_passes}
use Rattle.laws.specs.Adding.{sum_by_keep, sum_by_each, sum_by_each_in, sum_by_nothing, sum_account, sum_security}
use Rattle.laws.specs.Numbers.{account_below, security_below}
use Rattle.laws.specs.Charging.{is_of, charge_in, worth}
use Rattle.laws.specs.NetLaws.{in_accounts}
use Rattle.laws.specs.NetList.{nets_money}
use Rattle.laws.specs.Listed.{listed_accounts}
use Rattle.laws.specs.SoundParts.{sound_parts}
use Rattle.laws.specs.StakeKept.{no_charge}
use Rattle.laws.specs.Rolling.{new_nets}
use Rattle.laws.specs.RollWorth.{roll_worth}
use Rattle.laws.specs.RunMoney.{run_worth}
use Rattle.laws.specs.RunSound.{may_run}
use Rattle.history.specs.Histories.{accepted, made, is_roll}
use Rattle.history.specs.Steps.{Good, left_yes, left_no, took, after_good}
use Rattle.history.specs.Logs.{is_roll_lem, made_yes, made_no}
use Rattle.history.specs.Amounts.{money_open, day_charges, ever_charged}

-- a record's money, where a test holds of it
abbrev money_if : (Position → Bool) → Position → ℤ
money_if t p = cond (t p) (money_of p) (pos 0)

abbrev in_currency : Book → ℕ → Position → Bool
in_currency k c p = eqb (currency_of k (security_of p)) c

abbrev in_security : ℕ → Position → Bool
in_security s p = eqb (security_of p) s

-- ── account by account ──

-- a record is of one account
one_account : (k : Book) (c : ℕ) (p : Position) → sum_by (λ a. money_if (is_of k a c) p) every_account ≡ money_if (in_currency k c) p
one_account k c p =
    sum_account (λ a. money_if (is_of k a c) p) (account_of p) (account_below p)
    (λ a h ne. rw (ne_eqb (account_of p) a (λ e. ne (sym e))))
    ∙ rw (eq-eqb (account_of p) (account_of p) refl)

by_account_lem : (k : Book) (c : ℕ) (ps : List Position) → sum_by (λ a. sum_by money_of (keep (is_of k a c) ps)) every_account ≡ sum_by money_of (keep (in_currency k c) ps)
by_account_lem k c ps =
    sum_by_each (λ a. sum_by money_of (keep (is_of k a c) ps)) (λ a. sum_by (money_if (is_of k a c)) ps) every_account (λ a. sum_by_keep money_of (is_of k a c) ps)
    ∙ sum_by_swap (λ a p. money_if (is_of k a c) p) every_account ps
    ∙ sum_by_each (λ p. sum_by (λ a. money_if (is_of k a c) p) every_account) (money_if (in_currency k c)) ps (one_account k c)
    ∙ sym (sum_by_keep money_of (in_currency k c) ps)

-- charges and open money of all accounts
abbrev purse : Book → ℕ → List Mils → List Position → ℤ
purse k c cs ps = sum_by (λ a. charge_in cs a c) every_account +ℤ sum_by money_of (keep (in_currency k c) ps)

all_worth : (k : Book) (c : ℕ) (cs : List Mils) (ps : List Position) → sum_by (λ a. worth k a c cs ps) every_account ≡ purse k c cs ps
all_worth k c cs ps =
    sum_by_sum (λ a. charge_in cs a c) (λ a. sum_by money_of (keep (is_of k a c) ps)) every_account
    ∙ ap (λ (z : ℤ). sum_by (λ a. charge_in cs a c) every_account +ℤ z) (by_account_lem k c ps)

-- of a book
unfoldable purse_of : Book → ℕ → ℤ
purse_of k c = day_charges k c +ℤ money_open k c

purse_is : (k : Book) (c : ℕ) → purse_of k c ≡ purse k c k.charges (open_of k)
unfolding purse_of day_charges money_open charge_of
purse_is k c = refl

-- ── nets: zero in each security, so in each currency ──

by_security : (f : Position → ℤ) (ps : List Position) → sum_by (λ s. sum_by f (keep (in_security s) ps)) every_security ≡ sum_by f ps
by_security f ps =
    sum_by_each (λ s. sum_by f (keep (in_security s) ps)) (λ s. sum_by (λ p. cond (in_security s p) (f p) (pos 0)) ps) every_security (λ s. sum_by_keep f (in_security s) ps)
    ∙ sum_by_swap (λ s p. cond (in_security s p) (f p) (pos 0)) every_security ps
    ∙ sum_by_each (λ p. sum_by (λ s. cond (in_security s p) (f p) (pos 0)) every_security) f ps
    (λ p. sum_security (λ s. cond (in_security s p) (f p) (pos 0)) (security_of p) (security_below p)
    (λ s h ne. rw (ne_eqb (security_of p) s (λ e. ne (sym e))))
    ∙ rw (eq-eqb (security_of p) (security_of p) refl))

module _ (k : Book) (c : ℕ) (due : ℕ) (ts : List Trade) (w : all in_accounts ts ≡ true) where
  security_nets : (s : ℕ) → s < securities → sum_by (money_if (in_currency k c)) (keep (in_security s) (nets due ts)) ≡ pos 0
  security_nets s h =
      let ps = keep (in_security s) (nets due ts) in
      let here : Position → ℤ = λ p. cond (eqb (currency_of k s) c) (money_of p) (pos 0) in
      sum_by_each_in (in_security s) (money_if (in_currency k c)) here ps (keep_passes (in_security s) (nets due ts))
      (λ p e. rw (eqb-true (security_of p) s e))
      ∙ by_test (eqb (currency_of k s) c) (λ y. rw y (nets_money due ts w s h)) (λ y. rw y (sum_by_nothing ps))

  nets_zero : sum_by money_of (keep (in_currency k c) (nets due ts)) ≡ pos 0
  nets_zero =
      sum_by_keep money_of (in_currency k c) (nets due ts)
      ∙ sym (by_security (money_if (in_currency k c)) (nets due ts))
      ∙ sum_by_each_in (λ s. ltb s securities) (λ s. sum_by (money_if (in_currency k c)) (keep (in_security s) (nets due ts))) (λ s. pos 0) every_security
      securities_below (λ s e. security_nets s (ltb-true s securities e))
      ∙ sum_by_nothing every_security

-- ── the calls ──

module _ (k : Book) (g : Good k) (c : ℕ) (hc : c < currencies) where
  -- a run moves open money into charges
  run_purse : (s : ℕ) → answer_sound k (run s) ≡ 0 → purse_of (settled k s) c ≡ purse_of k c
  unfolding settled with_open with_holdings with_charges currency_of
  run_purse s e =
      let m = may_run k s e in
      let j = settled k s in
      purse_is j c
      ∙ sym (all_worth k c j.charges (open_of j))
      ∙ sum_by_each (λ a. worth k a c j.charges (open_of j)) (λ a. worth k a c k.charges (open_of k)) every_account
      (λ a. run_worth k s m.0 g.sound g.shaped m.1 a c hc)
      ∙ all_worth k c k.charges (open_of k)
      ∙ sym (purse_is k c)

  -- a roll turns what is open into charges and open money
  roll_purse : answer_sound k roll ≡ 0 → purse_of (after k roll) c ≡ money_open k c
  unfolding after rolled offset next_day emptied netted uncharged with_day with_list with_open with_charges currency_of money_open
  roll_purse e =
      let j = rolled k in
      let ps = open_of k ++ new_nets k in
      purse_is j c
      ∙ sym (all_worth k c j.charges (open_of j))
      ∙ sum_by_each_in (λ a. ltb a accounts) (λ a. worth k a c j.charges (open_of j)) (λ a. sum_by money_of (keep (is_of k a c) ps)) every_account accounts_below
      (λ a h. roll_worth k g.sound g.shaped e a c (ltb-true a accounts h) hc)
      ∙ by_account_lem k c ps
      ∙ ap (sum_by money_of) (keep_append (in_currency k c) (open_of k) (new_nets k))
      ∙ sum_by_append money_of (keep (in_currency k c) (open_of k)) (keep (in_currency k c) (new_nets k))
      ∙ rw (nets_zero k c (k.day + 2) (list_of k) (listed_accounts k (sound_parts k g.sound).trades))
      (+ℤ_idr (sum_by money_of (keep (in_currency k c) (open_of k))))

  -- the others leave both
  call_purse : (x : Call) → is_roll x ≡ false → answer_sound k x ≡ 0 → purse_of (after k x) c ≡ purse_of k c
  unfolding is_roll after with_list with_holdings purse_of day_charges money_open charge_of open_of currency_of
  call_purse (enter t) r e = refl
  call_purse (amend t) r e = refl
  call_purse (exclude n) r e = refl
  call_purse roll r e = true_false refl r
  call_purse (deposit a s q) r e = refl
  call_purse (withdraw a s q) r e = refl
  call_purse (run s) r e = run_purse s e

  -- by kind of call, in words of a book
  rolled_purse : (x : Call) → is_roll x ≡ true → answer_sound k x ≡ 0 → day_charges (after k x) c +ℤ money_open (after k x) c ≡ money_open k c
  unfolding purse_of
  rolled_purse x r e =
      let q = is_roll_lem x r in
      ap (λ (y : Call). purse_of (after k y) c) q ∙ roll_purse (ap (answer_sound k) (sym q) ∙ e)

  kept_purse : (x : Call) → is_roll x ≡ false → answer_sound k x ≡ 0 → day_charges (after k x) c +ℤ money_open (after k x) c ≡ day_charges k c +ℤ money_open k c
  unfolding purse_of
  kept_purse = call_purse

-- ── over a history ──

module _ (k : Book) (x : Call) (cs : List Call) (c : ℕ) where
  ever_roll : accepted k x ≡ true → is_roll x ≡ true → ever_charged k (x ∷ cs) c ≡ day_charges k c +ℤ ever_charged (after k x) cs c
  unfolding ever_charged
  ever_roll y r = rw (y, r) (ap (λ (b : Book). day_charges k c +ℤ ever_charged b cs c) (left_yes k x y))

  ever_day : accepted k x ≡ true → is_roll x ≡ false → ever_charged k (x ∷ cs) c ≡ ever_charged (after k x) cs c
  unfolding ever_charged
  ever_day y r = rw (y, r) (ap (λ (b : Book). ever_charged b cs c) (left_yes k x y))

  ever_no : accepted k x ≡ false → ever_charged k (x ∷ cs) c ≡ ever_charged k cs c
  unfolding ever_charged
  ever_no n = rw n (ap (λ (b : Book). ever_charged b cs c) (left_no k x n))

-- what was charged before today's start and is open then: all that is charged and open later
pub money_kept : (k : Book) (cs : List Call) (c : ℕ) → Good k → c < currencies
    → ever_charged k cs c +ℤ money_open (made k cs) c ≡ day_charges k c +ℤ money_open k c
unfolding made ever_charged
money_kept k [] c g hc = refl
money_kept k (x ∷ cs) c g hc =
    by_test (accepted k x)
    (λ y. let e = took k x g y in
    let ih = money_kept (after k x) cs c (after_good k g x e) hc in
    by_test (is_roll x)
    (λ r. let p = rolled_purse k g c hc x r e in
    rw (ever_roll k x cs c y r, made_yes k x cs y) (simp zlin (omega (arith, simp zlin at ih, simp zlin at p))))
    (λ r. rw (ever_day k x cs c y r, made_yes k x cs y) (ih ∙ kept_purse k g c hc x r e)))
    (λ n. rw (ever_no k x cs c n, made_no k x cs n) (money_kept k cs c g hc))

-- ── from an empty book ──

module _ (codes : List ℕ) (c : ℕ) (hc : c < currencies) where
  nothing_charged : day_charges (empty_book codes) c ≡ pos 0
  unfolding day_charges charge_of empty_book
  nothing_charged =
      sum_by_each_in (λ a. ltb a accounts) (λ a. charge_in (replicate (accounts * currencies) (mils (pos 0))) a c) (λ a. pos 0) every_account accounts_below
      (λ a h. no_charge a c (ltb-true a accounts h) hc)
      ∙ sum_by_nothing every_account

  nothing_open : money_open (empty_book codes) c ≡ pos 0
  unfolding money_open open_of empty_book
  nothing_open = rw keep_none

  pub nothing_yet : day_charges (empty_book codes) c +ℤ money_open (empty_book codes) c ≡ pos 0
  nothing_yet = rw (nothing_charged, nothing_open)
