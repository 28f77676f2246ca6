-- The trades of the book's list that are not excluded are those that the log says: each number that was entered and not excluded, in its last accepted form, in
-- the order of entry. So the theorems need not name the list.
use Rattle.std.specs.Prelude.{◌≡◌, Bool, true, ◌||◌, ℕ}
use Rattle.std.proofs.Math.Path.{refl, sym, ap}
use Rattle.std.proofs.Common.{◌∙◌}
use Rattle.std.proofs.Math.Bool.{false, not}
use mathlib.Core.List.{List, [], ◌∷◌, ◌++◌, append-nil, append_assoc}
use Rattle.std.proofs.Math.Dec.{eqb}
use borrow.Author.Tests.{eqb-true, not-true}
use Rattle.rules.specs.Words.{all, any, each}
use Rattle.rules.specs.Book.{list_of}
use Rattle.rules.specs.Trades.{is_excluded, stands, entered, replaced, amended, excluded_trade, excluded}
use Rattle.rules.specs.Sound.{distinct}
use Rattle.rules.specs.Calls.{Call, enter, amend, exclude, roll, deposit, withdraw, run, after, answer_sound}
use Rattle.rules.specs.declared.Trade.{Trade}
use Rattle.rules.specs.declared.Book.{Book}
use Rattle.laws.specs.Cases.{by_test, true_false, both_hold, and_hold, cond_yes, cond_no, eqb_swap}
use Rattle.laws.specs.All.{all_cons}
use Rattle.laws.specs.Keeping.{keep_none, keep_yes, keep_no}
use Rattle.laws.specs.Accepted.{may_enter, may_amend}
use Rattle.history.specs.Histories.{accepted, made, log_of, is_other, last_of, last_forms, survivors}
use Rattle.history.specs.Steps.{Good, took, after_good}
use Rattle.history.specs.Rest.{listed, apart}
use Rattle.history.specs.Alike.{other_list}
use Rattle.history.specs.Survivors.{live, numbers_of}
use Rattle.history.specs.Forms.{replaced_here, replaced_past, replaced_none, valid_live, rolled_list}
use Rattle.history.specs.Logs.{made_yes, log_yes, made_no, log_no}

-- ── what the calls of a log leave of a list before them ──

unfoldable kept : List Trade → List Call → List Trade
kept ts cs = each (λ t. last_of t cs) (survivors ts)

module _ (cs : List Call) where
  kept_none : kept [] cs ≡ []
  unfolding kept survivors each
  kept_none = rw keep_none

  kept_live : (t : Trade) (ts : List Trade) → live t ≡ true → kept (t ∷ ts) cs ≡ last_of t cs ++ kept ts cs
  unfolding kept survivors each
  kept_live t ts l = rw (keep_yes live t ts l)

  kept_gone : (t : Trade) (ts : List Trade) → live t ≡ false → kept (t ∷ ts) cs ≡ kept ts cs
  unfolding kept survivors
  kept_gone t ts l = rw (keep_no live t ts l)

  -- a trade behind the list
  kept_behind : (ts : List Trade) (t : Trade) → live t ≡ true → kept (ts ++ (t ∷ [])) cs ≡ kept ts cs ++ last_of t cs
  kept_behind [] t l = kept_live t [] l ∙ rw kept_none (append-nil (last_of t cs)) ∙ sym (ap (λ (r : List Trade). r ++ last_of t cs) kept_none)
  kept_behind (u ∷ ts) t l =
      let ih = kept_behind ts t l in
      by_test (live u)
      (λ y. kept_live u (ts ++ (t ∷ [])) y ∙ ap (λ (r : List Trade). last_of u cs ++ r) ih ∙ sym (append_assoc (last_of u cs) (kept ts cs) (last_of t cs))
      ∙ ap (λ (r : List Trade). r ++ last_of t cs) (sym (kept_live u ts y)))
      (λ n. kept_gone u (ts ++ (t ∷ [])) n ∙ ih ∙ ap (λ (r : List Trade). r ++ last_of t cs) (sym (kept_gone u ts n)))

-- no call behind it
kept_now : (ts : List Trade) → kept ts [] ≡ survivors ts
unfolding kept last_of each
kept_now ts = singles (survivors ts)
  where
    singles : (us : List Trade) → each (λ t. t ∷ []) us ≡ us
    singles [] = refl
    singles (u ∷ us) = ap (λ (l : List Trade). u ∷ l) (singles us)

-- ── amendment and exclusion ──

-- the calls behind an amendment or an exclusion of another number
module _ (t u : Trade) (cs : List Call) where
  amends_this : eqb u.number t.number ≡ true → last_of u (amend t ∷ cs) ≡ last_of t cs
  unfolding last_of
  amends_this e = ap (λ (x : Trade). last_of x cs) (cond_yes t u (eqb_swap t.number u.number ∙ e))

  amends_other : eqb u.number t.number ≡ false → last_of u (amend t ∷ cs) ≡ last_of u cs
  unfolding last_of
  amends_other e = ap (λ (x : Trade). last_of x cs) (cond_no t u (eqb_swap t.number u.number ∙ e))

module _ (m : ℕ) (u : Trade) (cs : List Call) where
  excludes_this : eqb u.number m ≡ true → last_of u (exclude m ∷ cs) ≡ []
  unfolding last_of
  excludes_this e = cond_yes [] (last_of u cs) (eqb_swap m u.number ∙ e)

  excludes_other : eqb u.number m ≡ false → last_of u (exclude m ∷ cs) ≡ last_of u cs
  unfolding last_of
  excludes_other e = cond_no [] (last_of u cs) (eqb_swap m u.number ∙ e)

-- the trade stays before a list that stays
beside : (u : Trade) (ts us : List Trade) (cs ds : List Call) → last_of u ds ≡ last_of u cs → kept us cs ≡ kept ts ds → kept (u ∷ us) cs ≡ kept (u ∷ ts) ds
beside u ts us cs ds e h =
    by_test (live u)
    (λ y. kept_live cs u us y ∙ rw (sym e, h) (sym (kept_live ds u ts y)))
    (λ n. kept_gone cs u us n ∙ h ∙ sym (kept_gone ds u ts n))

kept_excluded : (m : ℕ) (ts : List Trade) (cs : List Call) → kept (replaced ts m (excluded_trade m)) cs ≡ kept ts (exclude m ∷ cs)
unfolding is_excluded
kept_excluded m [] cs = ap (λ (l : List Trade). kept l cs) (replaced_none m (excluded_trade m)) ∙ kept_none cs ∙ sym (kept_none (exclude m ∷ cs))
kept_excluded m (u ∷ ts) cs =
    let x = excluded_trade m in
    let ih = kept_excluded m ts cs in
    by_test (eqb u.number m)
    (λ y. ap (λ (l : List Trade). kept l cs) (replaced_here ts u m x y) ∙ kept_gone cs x (replaced ts m x) refl ∙ ih ∙ sym (gone y))
    (λ n. ap (λ (l : List Trade). kept l cs) (replaced_past ts u m x n) ∙ beside u ts (replaced ts m x) cs (exclude m ∷ cs) (excludes_other m u cs n) ih)
  where
    gone : eqb u.number m ≡ true → kept (u ∷ ts) (exclude m ∷ cs) ≡ kept ts (exclude m ∷ cs)
    gone y =
        by_test (live u)
        (λ l. kept_live (exclude m ∷ cs) u ts l ∙ rw (excludes_this m u cs y))
        (λ l. kept_gone (exclude m ∷ cs) u ts l)

-- Numbers are distinct: where a number stands, no excluded trade has it.
abbrev unless_excluded : ℕ → Trade → Bool
unless_excluded n u = not (eqb u.number n) || live u

module _ (n : ℕ) where
  -- no trade has the number
  none_has : (ts : List Trade) → all (λ m. not (eqb n m)) (numbers_of ts) ≡ true → (stands n ts ≡ false) × (all (unless_excluded n) ts ≡ true)
  unfolding all stands any
  none_has [] a = (refl, refl)
  none_has (u ∷ ts) a =
      let p = both_hold (not (eqb n u.number)) (all (λ m. not (eqb n m)) (numbers_of ts)) a in
      let other : eqb u.number n ≡ false = eqb_swap u.number n ∙ not-true (eqb n u.number) p.0 in
      rw other (none_has ts p.1)

  only_live : (ts : List Trade) → distinct (numbers_of ts) ≡ true → stands n ts ≡ true → all (unless_excluded n) ts ≡ true
  unfolding all distinct stands any
  only_live [] d s = refl
  only_live (u ∷ ts) d s =
      let p = both_hold (all (λ m. not (eqb u.number m)) (numbers_of ts)) (distinct (numbers_of ts)) d in
      by_test (eqb u.number n)
      (λ y. let q = none_has ts (rw (eqb-true u.number n y) at p.0) in
      rw y (and_hold (by_test (live u) (λ l. l) (λ g. true_false s (rw (y, g, q.0)))) q.1))
      (λ y. rw y (only_live ts p.1 (rw y at s)))

kept_amended : (t : Trade) (ts : List Trade) (cs : List Call) → live t ≡ true → all (unless_excluded t.number) ts ≡ true
    → kept (replaced ts t.number t) cs ≡ kept ts (amend t ∷ cs)
kept_amended t [] cs l a = ap (λ (r : List Trade). kept r cs) (replaced_none t.number t) ∙ kept_none cs ∙ sym (kept_none (amend t ∷ cs))
kept_amended t (u ∷ ts) cs l a =
    let n = t.number in
    let p = all_cons (unless_excluded n) u ts a in
    let ih = kept_amended t ts cs l p.1 in
    by_test (eqb u.number n)
    (λ y. ap (λ (r : List Trade). kept r cs) (replaced_here ts u n t y) ∙ kept_live cs t (replaced ts n t) l
    ∙ rw (sym (amends_this t u cs y), ih) (sym (kept_live (amend t ∷ cs) u ts (rw y at p.0))))
    (λ y. ap (λ (r : List Trade). kept r cs) (replaced_past ts u n t y)
    ∙ beside u ts (replaced ts n t) cs (amend t ∷ cs) (amends_other t u cs y) ih)

-- ── the calls ──

-- the survivors of a list and of the log behind it
unfoldable onward : List Trade → List Call → List Trade
onward ts cs = kept ts cs ++ last_forms cs

-- what stays by a call that no trade is named in
kept_same : (ts : List Trade) (cs ds : List Call) → ((t : Trade) → last_of t ds ≡ last_of t cs) → kept ts cs ≡ kept ts ds
kept_same [] cs ds h = kept_none cs ∙ sym (kept_none ds)
kept_same (t ∷ ts) cs ds h = beside t ts ts cs ds (h t) (kept_same ts cs ds h)

kept_rolled : (ts : List Trade) (cs : List Call) → kept ts (roll ∷ cs) ≡ []
unfolding last_of
kept_rolled [] cs = kept_none (roll ∷ cs)
kept_rolled (t ∷ ts) cs =
    let ih = kept_rolled ts cs in
    by_test (live t) (λ y. kept_live (roll ∷ cs) t ts y ∙ ih) (λ n. kept_gone (roll ∷ cs) t ts n ∙ ih)

-- an accepted call, and the log behind it
module _ (k : Book) (g : Good k) (cs : List Call) where
  abbrev ts : List Trade
  ts = list_of k

  same_list : (c : Call) → is_other c ≡ true → ((t : Trade) → last_of t (c ∷ cs) ≡ last_of t cs) → last_forms (c ∷ cs) ≡ last_forms cs
      → onward (list_of (after k c)) cs ≡ onward ts (c ∷ cs)
  unfolding onward
  same_list c o e f = rw (other_list k c o, sym f) (ap (λ (l : List Trade). l ++ last_forms (c ∷ cs)) (kept_same ts cs (c ∷ cs) e))

  step : (c : Call) → answer_sound k c ≡ 0 → onward (list_of (after k c)) cs ≡ onward ts (c ∷ cs)
  unfolding onward after entered amended excluded last_of last_forms is_other
  step (enter t) e =
      let m = may_enter k t e in
      ap (λ (l : List Trade). kept l cs ++ last_forms cs) (listed k (ts ++ (t ∷ [])))
      ∙ ap (λ (l : List Trade). l ++ last_forms cs) (kept_behind cs ts t (valid_live k t m.valid))
      ∙ append_assoc (kept ts cs) (last_of t cs) (last_forms cs)
      ∙ ap (λ (l : List Trade). l ++ (last_of t cs ++ last_forms cs)) (kept_same ts cs (enter t ∷ cs) (λ u. refl))
  step (amend t) e =
      let m = may_amend k t e in
      ap (λ (l : List Trade). kept l cs ++ last_forms cs) (listed k (replaced ts t.number t))
      ∙ ap (λ (l : List Trade). l ++ last_forms cs) (kept_amended t ts cs (valid_live k t m.valid) (only_live t.number ts (apart k g) m.standing))
  step (exclude n) e =
      ap (λ (l : List Trade). kept l cs ++ last_forms cs) (listed k (replaced ts n (excluded_trade n)))
      ∙ ap (λ (l : List Trade). l ++ last_forms cs) (kept_excluded n ts cs)
  step roll e =
      ap (λ (l : List Trade). kept l cs ++ last_forms cs) (rolled_list k)
      ∙ ap (λ (l : List Trade). l ++ last_forms cs) (kept_none cs ∙ sym (kept_rolled ts cs))
  step (deposit a s q) e = same_list (deposit a s q) refl (λ t. refl) refl
  step (withdraw a s q) e = same_list (withdraw a s q) refl (λ t. refl) refl
  step (run s) e = same_list (run s) refl (λ t. refl) refl

-- ── the log ──

onward_made : (k : Book) (cs : List Call) → Good k → survivors (list_of (made k cs)) ≡ onward (list_of k) (log_of k cs)
unfolding made log_of onward last_forms
onward_made k [] g = sym (append-nil (kept (list_of k) []) ∙ kept_now (list_of k))
onward_made k (c ∷ cs) g =
    by_test (accepted k c)
    (λ y. let e = took k c g y in
    ap (λ (b : Book). survivors (list_of b)) (made_yes k c cs y)
    ∙ onward_made (after k c) cs (after_good k g c e)
    ∙ step k g (log_of (after k c) cs) c e
    ∙ ap (onward (list_of k)) (sym (log_yes k c cs y)))
    (λ y. ap (λ (b : Book). survivors (list_of b)) (made_no k c cs y)
    ∙ onward_made k cs g
    ∙ ap (onward (list_of k)) (sym (log_no k c cs y)))

-- from an empty list
pub survivors_log : (k : Book) (cs : List Call) → Good k → list_of k ≡ [] → survivors (list_of (made k cs)) ≡ last_forms (log_of k cs)
unfolding onward
survivors_log k cs g e = onward_made k cs g ∙ rw (e, kept_none (log_of k cs))
