-- A number survives in the form of its last accepted entry or amendment, where no accepted exclusion stands behind it: by the log, not by the list.
use Rattle.std.specs.Prelude.{◌≡◌, refl, true, false, not, List, [], ◌∷◌, ℕ, eqb, ltb, Option, Some, None}
use Rattle.std.proofs.Common.{sym, ◌∙◌, arith, eqb-true, eq-eqb, ne_eqb, ltb-false}
use Rattle.std.proofs.Math.Path.{ap}
use Rattle.std.proofs.Math.Bool.{cond}
use Rattle.rules.specs.Words.{any}
use Rattle.rules.specs.Bounds.{most_traded}
use Rattle.rules.specs.Book.{list_of, with_open, with_list, with_charges, with_day}
use Rattle.rules.specs.Trades.{is_excluded, used, stands, entered, replaced, amended, excluded_trade, excluded, bad_quantity}
use Rattle.rules.specs.Sound.{valid_trade}
use Rattle.rules.specs.Roll.{uncharged, netted, emptied, next_day, offset, rolled}
use Rattle.rules.specs.Calls.{Call, enter, amend, exclude, roll, deposit, withdraw, run, after, answer_sound}
use Rattle.rules.specs.declared.Trade.{Trade}
use Rattle.rules.specs.declared.Book.{Book}
use Rattle.laws.specs.Cases.{by_test, true_false, neither, cond_yes, cond_no}
use Rattle.laws.specs.Keeping.{keep_none, keep_yes, keep_no}
use Rattle.laws.specs.Accepted.{may_enter, may_amend}
use Rattle.history.specs.Histories.{accepted, made, log_of, is_other, survivors, form_after, last_form, find}
use Rattle.history.specs.Steps.{Good, took, after_good}
use Rattle.history.specs.Rest.{listed}
use Rattle.history.specs.Alike.{other_list}
use Rattle.history.specs.Survivors.{live}
use Rattle.history.specs.Entering.{faultless}
use Rattle.history.specs.Logs.{made_yes, log_yes, made_no, log_no}

-- ── the surviving trade of a number ──

unfoldable standing : ℕ → List Trade → Option Trade
standing n ts = find n (survivors ts)

standing_none : (n : ℕ) → standing n [] ≡ None
unfolding standing survivors find
standing_none n = rw keep_none

module _ (n : ℕ) (t : Trade) (ts : List Trade) where
  stand_here : eqb t.number n ≡ true → live t ≡ true → standing n (t ∷ ts) ≡ Some t
  unfolding standing survivors find
  stand_here e l = rw (keep_yes live t ts l) (cond_yes (Some t) (find n (survivors ts)) e)

  stand_gone : live t ≡ false → standing n (t ∷ ts) ≡ standing n ts
  unfolding standing survivors
  stand_gone l = rw (keep_no live t ts l)

  stand_other : eqb t.number n ≡ false → standing n (t ∷ ts) ≡ standing n ts
  unfolding standing survivors find
  stand_other e = by_test (live t) (λ l. rw (keep_yes live t ts l) (cond_no (Some t) (find n (survivors ts)) e)) (λ l. rw (keep_no live t ts l))

  stand_behind : (us : List Trade) → standing n ts ≡ standing n us → standing n (t ∷ ts) ≡ standing n (t ∷ us)
  unfolding standing survivors find
  stand_behind us h =
      by_test (live t)
      (λ l. rw (keep_yes live t ts l, keep_yes live t us l) (ap (λ (o : Option Trade). cond (eqb t.number n) (Some t) o) h))
      (λ l. rw (keep_no live t ts l, keep_no live t us l) h)

-- ── entry ──

entered_same : (ts : List Trade) (t : Trade) → live t ≡ true → used t.number ts ≡ false → standing t.number (entered ts t) ≡ Some t
unfolding entered used any
entered_same [] t l u = stand_here t.number t [] (eq-eqb t.number t.number refl) l
entered_same (x ∷ ts) t l u =
    let p = neither (eqb x.number t.number) (used t.number ts) u in
    stand_other t.number x (entered ts t) p.0 ∙ entered_same ts t l p.1

entered_other : (n : ℕ) (ts : List Trade) (t : Trade) → eqb t.number n ≡ false → standing n (entered ts t) ≡ standing n ts
unfolding entered
entered_other n [] t e = stand_other n t [] e
entered_other n (x ∷ ts) t e = stand_behind n x (entered ts t) ts (entered_other n ts t e)

-- ── replacement ──

module _ (ts : List Trade) (u : Trade) (m : ℕ) (t : Trade) where
  pub replaced_here : eqb u.number m ≡ true → replaced (u ∷ ts) m t ≡ t ∷ replaced ts m t
  unfolding replaced
  replaced_here e = ap (λ (x : Trade). x ∷ replaced ts m t) (cond_yes t u e)

  pub replaced_past : eqb u.number m ≡ false → replaced (u ∷ ts) m t ≡ u ∷ replaced ts m t
  unfolding replaced
  replaced_past e = ap (λ (x : Trade). x ∷ replaced ts m t) (cond_no t u e)

pub replaced_none : (m : ℕ) (t : Trade) → replaced [] m t ≡ []
unfolding replaced
replaced_none m t = refl

-- another number
replaced_other : (n m : ℕ) (t : Trade) (ts : List Trade) → t.number ≡ m → eqb m n ≡ false → standing n (replaced ts m t) ≡ standing n ts
replaced_other n m t [] e d = ap (standing n) (replaced_none m t)
replaced_other n m t (u ∷ ts) e d =
    let ih = replaced_other n m t ts e d in
    by_test (eqb u.number m)
    (λ y. ap (standing n) (replaced_here ts u m t y) ∙ stand_other n t (replaced ts m t) (ap (λ (i : ℕ). eqb i n) e ∙ d) ∙ ih
    ∙ sym (stand_other n u ts (ap (λ (i : ℕ). eqb i n) (eqb-true u.number m y) ∙ d)))
    (λ y. ap (standing n) (replaced_past ts u m t y) ∙ stand_behind n u (replaced ts m t) ts ih)

-- the number itself: a trade that stands is amended
amended_same : (t : Trade) (ts : List Trade) → live t ≡ true → stands t.number ts ≡ true → standing t.number (replaced ts t.number t) ≡ Some t
unfolding stands any
amended_same t [] l h = true_false h refl
amended_same t (u ∷ ts) l h =
    by_test (eqb u.number t.number)
    (λ y. ap (standing t.number) (replaced_here ts u t.number t y)
    ∙ stand_here t.number t (replaced ts t.number t) (eq-eqb t.number t.number refl) l)
    (λ y. ap (standing t.number) (replaced_past ts u t.number t y) ∙ stand_other t.number u (replaced ts t.number t) y
    ∙ amended_same t ts l (rw y at h))

-- or excluded
excluded_same : (m : ℕ) (ts : List Trade) → standing m (replaced ts m (excluded_trade m)) ≡ None
unfolding is_excluded
excluded_same m [] = ap (standing m) (replaced_none m (excluded_trade m)) ∙ standing_none m
excluded_same m (u ∷ ts) =
    let ih = excluded_same m ts in
    by_test (eqb u.number m)
    (λ y. ap (standing m) (replaced_here ts u m (excluded_trade m) y) ∙ stand_gone m (excluded_trade m) (replaced ts m (excluded_trade m)) refl ∙ ih)
    (λ y. ap (standing m) (replaced_past ts u m (excluded_trade m) y) ∙ stand_other m u (replaced ts m (excluded_trade m)) y ∙ ih)

-- ── the calls ──

-- a valid trade has shares
pub valid_live : (k : Book) (t : Trade) → valid_trade k t ≡ true → live t ≡ true
unfolding bad_quantity is_excluded
valid_live k t e =
    let r = neither (ltb t.quantity 1) (ltb most_traded t.quantity) (faultless k t e).quantity in
    ap not (ne_eqb t.quantity 0 (λ z. omega (arith, ltb-false t.quantity 1 r.0)))

pub rolled_list : (k : Book) → list_of (rolled k) ≡ []
unfolding rolled offset next_day emptied netted uncharged list_of with_open with_list with_charges with_day
rolled_list k = refl

-- what an accepted call makes of the form of number n
form_step : (n : ℕ) (k : Book) (c : Call) → answer_sound k c ≡ 0 → standing n (list_of (after k c)) ≡ form_after n (standing n (list_of k)) c
unfolding after amended excluded form_after is_other
form_step n k (enter t) e =
    let m = may_enter k t e in
    let l = valid_live k t m.valid in
    ap (standing n) (listed k (entered (list_of k) t))
    ∙ by_test (eqb t.number n)
    (λ y. rw (y, sym (eqb-true t.number n y)) (entered_same (list_of k) t l m.unused))
    (λ y. rw y (entered_other n (list_of k) t y))
form_step n k (amend t) e =
    let m = may_amend k t e in
    let l = valid_live k t m.valid in
    ap (standing n) (listed k (replaced (list_of k) t.number t))
    ∙ by_test (eqb t.number n)
    (λ y. rw (y, sym (eqb-true t.number n y)) (amended_same t (list_of k) l m.standing))
    (λ y. rw y (replaced_other n t.number t (list_of k) refl y))
form_step n k (exclude m) e =
    ap (standing n) (listed k (replaced (list_of k) m (excluded_trade m)))
    ∙ by_test (eqb m n)
    (λ y. rw (y, sym (eqb-true m n y)) (excluded_same m (list_of k)))
    (λ y. rw y (replaced_other n m (excluded_trade m) (list_of k) refl y))
form_step n k roll e = ap (standing n) (rolled_list k) ∙ standing_none n
form_step n k (deposit a s q) e = ap (standing n) (other_list k (deposit a s q) refl)
form_step n k (withdraw a s q) e = ap (standing n) (other_list k (withdraw a s q) refl)
form_step n k (run s) e = ap (standing n) (other_list k (run s) refl)

-- ── the log ──

forms : (n : ℕ) (k : Book) (cs : List Call) → Good k → standing n (list_of (made k cs)) ≡ last_form n (standing n (list_of k)) (log_of k cs)
unfolding made log_of last_form
forms n k [] g = refl
forms n k (c ∷ cs) g =
    by_test (accepted k c)
    (λ y. let e = took k c g y in
    ap (λ (b : Book). standing n (list_of b)) (made_yes k c cs y)
    ∙ forms n (after k c) cs (after_good k g c e)
    ∙ ap (λ (o : Option Trade). last_form n o (log_of (after k c) cs)) (form_step n k c e)
    ∙ ap (last_form n (standing n (list_of k))) (sym (log_yes k c cs y)))
    (λ y. ap (λ (b : Book). standing n (list_of b)) (made_no k c cs y)
    ∙ forms n k cs g
    ∙ ap (last_form n (standing n (list_of k))) (sym (log_no k c cs y)))

-- from an empty list
pub forms_empty : (n : ℕ) (k : Book) (cs : List Call) → Good k → list_of k ≡ [] → find n (survivors (list_of (made k cs))) ≡ last_form n None (log_of k cs)
unfolding standing
forms_empty n k cs g e = forms n k cs g ∙ ap (λ (o : Option Trade). last_form n o (log_of k cs)) (ap (standing n) e ∙ standing_none n)
