-- Where the arguments of a history's calls fit their types, those of its days and of its tidy days do, and of the days that enter the survivors in any way.
use Rattle.std.specs.Prelude.{◌≡◌, refl, Bool, true, ◌&&◌, ◌^◌, eqb, ltb}
use Rattle.std.proofs.Common.{sym, subst, ◌∙◌, lt-ltb, ltb-true}
use mathlib.Core.List.{List, [], ◌∷◌, ◌++◌, map, map-append, Perm}
use Rattle.rules.specs.Words.{all, keep}
use Rattle.rules.specs.Calls.{Call, enter, amend, exclude, roll, deposit, withdraw, run}
use Rattle.rules.specs.CallFile.{left}
use Rattle.rules.specs.declared.Trade.{Trade}
use Rattle.rules.specs.declared.Book.{Book}
use Rattle.laws.specs.Cases.{by_test, both_hold, and_hold}
use Rattle.laws.specs.All.{all_cons}
use Rattle.laws.specs.Keeping.{keep_none, keep_yes, keep_no}
use Rattle.laws.specs.Fitting.{TradeFits, CallFits}
use Rattle.history.specs.Histories.{accepted, log_of, is_other, others, last_of, last_forms, tidy, Interleaved, nothing, next_call, next_entry, past, today, morning}
use Rattle.history.specs.Lent.{AllFit}
use Rattle.history.specs.ManyDays.{past_today}
use Rattle.history.specs.Orders.{all_order}

-- ── parts of a list of calls ──

fit_none : AllFit []
unfolding AllFit
fit_none = tt

pub fit_both : (cs ds : List Call) → AllFit cs → AllFit ds → AllFit (cs ++ ds)
unfolding AllFit
fit_both [] ds f h = h
fit_both (c ∷ cs) ds f h = (f.0, fit_both cs ds f.1 h)

fit_parts : (cs ds : List Call) → AllFit (cs ++ ds) → AllFit cs × AllFit ds
unfolding AllFit
fit_parts [] ds f = (tt, f)
fit_parts (c ∷ cs) ds f = let p = fit_parts cs ds f.1 in ((f.0, p.0), p.1)

fit_log : (k : Book) (cs : List Call) → AllFit cs → AllFit (log_of k cs)
unfolding AllFit log_of
fit_log k [] f = tt
fit_log k (c ∷ cs) f =
    let ih = fit_log (left k c) cs f.1 in
    by_test (accepted k c) (λ y. rw y (f.0, ih)) (λ n. rw n ih)

fit_keep : (t : Call → Bool) (cs : List Call) → AllFit cs → AllFit (keep t cs)
unfolding AllFit
fit_keep t [] f = rw keep_none fit_none
fit_keep t (c ∷ cs) f =
    let ih = fit_keep t cs f.1 in
    by_test (t c) (λ y. rw (keep_yes t c cs y) (f.0, ih)) (λ n. rw (keep_no t c cs n) ih)

-- ── the days ──

pub fit_days : (k : Book) (cs : List Call) → AllFit cs → AllFit (past k cs) × AllFit (today k cs)
fit_days k cs f = fit_parts (past k cs) (today k cs) (subst AllFit (sym (past_today k cs)) f)

-- ── the survivors, by the log ──

fit_last : (t : Trade) (cs : List Call) → TradeFits t → AllFit cs → AllFit (map enter (last_of t cs))
unfolding AllFit CallFits last_of
fit_last t [] h f = (h, tt)
fit_last t (enter u ∷ cs) h f = fit_last t cs h f.1
fit_last t (amend u ∷ cs) h f = by_test (eqb u.number t.number) (λ y. rw y (fit_last u cs f.0 f.1)) (λ n. rw n (fit_last t cs h f.1))
fit_last t (exclude m ∷ cs) h f = by_test (eqb m t.number) (λ y. rw y tt) (λ n. rw n (fit_last t cs h f.1))
fit_last t (roll ∷ cs) h f = tt
fit_last t (deposit a s q ∷ cs) h f = fit_last t cs h f.1
fit_last t (withdraw a s q ∷ cs) h f = fit_last t cs h f.1
fit_last t (run s ∷ cs) h f = fit_last t cs h f.1

fit_forms : (cs : List Call) → AllFit cs → AllFit (map enter (last_forms cs))
unfolding AllFit CallFits last_forms
fit_forms [] f = tt
fit_forms (enter t ∷ cs) f =
    rw (map-append enter (last_of t cs) (last_forms cs))
    (fit_both (map enter (last_of t cs)) (map enter (last_forms cs)) (fit_last t cs f.0 f.1) (fit_forms cs f.1))
fit_forms (amend t ∷ cs) f = fit_forms cs f.1
fit_forms (exclude n ∷ cs) f = fit_forms cs f.1
fit_forms (roll ∷ cs) f = fit_forms cs f.1
fit_forms (deposit a s q ∷ cs) f = fit_forms cs f.1
fit_forms (withdraw a s q ∷ cs) f = fit_forms cs f.1
fit_forms (run s ∷ cs) f = fit_forms cs f.1

-- ── the tidy day ──

fit_others : (k : Book) (cs : List Call) → AllFit cs → AllFit (others k cs)
unfolding others
fit_others k cs f = fit_keep is_other (log_of k cs) (fit_log k cs f)

fit_tidy : (k : Book) (cs : List Call) → AllFit cs → AllFit (tidy k cs)
unfolding tidy
fit_tidy k cs f = fit_both (others k cs) (map enter (last_forms (log_of k cs))) (fit_others k cs f) (fit_forms (log_of k cs) (fit_log k cs f))

-- the calls up to the last accepted roll, and the tidy day behind them
pub fit_tidied : (k : Book) (cs : List Call) → AllFit cs → AllFit (past k cs ++ tidy (morning k cs) (today k cs))
fit_tidied k cs f =
    let p = fit_days k cs f in
    fit_both (past k cs) (tidy (morning k cs) (today k cs)) p.0 (fit_tidy (morning k cs) (today k cs) p.1)

-- ── the survivors in another order, and between the other calls ──

-- a trade fits, as a test: so it holds of all in any order
fitting : Trade → Bool
fitting t =
    ltb t.number 65_536 && (ltb t.buyer 256 && (ltb t.seller 256 && (ltb t.security 256 && (ltb t.quantity (2 ^ 32) && ltb t.price.0 (2 ^ 32)))))

fitting_yes : (t : Trade) → TradeFits t → fitting t ≡ true
unfolding fitting
fitting_yes t h =
    rw (lt-ltb t.number 65_536 h.number, lt-ltb t.buyer 256 h.buyer, lt-ltb t.seller 256 h.seller, lt-ltb t.security 256 h.security)
    (rw (lt-ltb t.quantity (2 ^ 32) h.quantity) (lt-ltb t.price.0 (2 ^ 32) h.price))

fitting_fits : (t : Trade) → fitting t ≡ true → TradeFits t
unfolding fitting
fitting_fits t e =
    let n = both_hold (ltb t.number 65_536) _ e in
    let b = both_hold (ltb t.buyer 256) _ n.1 in
    let v = both_hold (ltb t.seller 256) _ b.1 in
    let s = both_hold (ltb t.security 256) _ v.1 in
    let q = both_hold (ltb t.quantity (2 ^ 32)) (ltb t.price.0 (2 ^ 32)) s.1 in
    record {
      number = ltb-true _ _ n.0;
      buyer = ltb-true _ _ b.0;
      seller = ltb-true _ _ v.0;
      security = ltb-true _ _ s.0;
      quantity = ltb-true _ _ q.0;
      price = ltb-true _ _ q.1;
    }

all_fitting : (ts : List Trade) → AllFit (map enter ts) → all fitting ts ≡ true
unfolding AllFit CallFits all
all_fitting [] f = refl
all_fitting (t ∷ ts) f = and_hold (fitting_yes t f.0) (all_fitting ts f.1)

fit_between : {os ds : List Call} {us : List Trade} → Interleaved os us ds → AllFit os → all fitting us ≡ true → AllFit ds
unfolding AllFit CallFits
fit_between nothing f e = tt
fit_between (next_call i) f e = (f.0, fit_between i f.1 e)
fit_between (next_entry {t = t} {us = us} i) f e = let p = all_cons fitting t us e in (fitting_fits t p.0, fit_between i f p.1)

pub fit_any_way : (k : Book) (cs : List Call) → AllFit cs → (us : List Trade) → Perm us (last_forms (log_of k cs)) → (ds : List Call) → Interleaved (others k cs) us ds
    → AllFit ds
fit_any_way k cs f us p ds i =
    let vs = last_forms (log_of k cs) in
    fit_between i (fit_others k cs f) (all_order fitting us vs p ∙ all_fitting vs (fit_forms (log_of k cs) (fit_log k cs f)))
