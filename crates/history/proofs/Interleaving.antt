-- The survivors of a day, in any order and however their entries lie between the day's accepted deposits, withdrawals and runs: every call is accepted, and the roll
-- behind them is the day's (demand 3).
use Rattle.std.specs.Prelude.{◌≡◌, refl, true, false, ℕ, ◌≤◌, eqb}
use Rattle.std.proofs.Common.{sym, subst, ◌∙◌, arith}
use Rattle.std.proofs.Math.Path.{ap}
use mathlib.Core.List.Perm
use mathlib.Core.List.{List, [], ◌∷◌, ◌++◌, append-nil, Perm}
use Rattle.std.proofs.Math.ListN.{length}
use Rattle.rules.specs.Words.{all}
use Rattle.rules.specs.Book.{list_of, with_list, currency_of, unlisted}
use Rattle.rules.specs.Trades.{bad_security}
use Rattle.rules.specs.Sound.{valid_trade}
use Rattle.rules.specs.Nets.{nets}
use Rattle.rules.specs.Calls.{Call, enter, after}
use Rattle.rules.specs.declared.Trade.{Trade}
use Rattle.rules.specs.declared.Book.{Book}
use Rattle.laws.specs.Cases.{by_test}
use Rattle.laws.specs.All.{all_cons}
use Rattle.laws.specs.Keeping.{keep_passes}
use Rattle.laws.specs.Listed.{listable}
use Rattle.history.specs.Histories.{accepted, made, log_of, is_other, rolls, others, last_forms, survivors, Interleaved, nothing, next_call, next_entry, SameRoll}
use Rattle.history.specs.Steps.{Good, took, after_good, after_currency, made_currency, made_good}
use Rattle.history.specs.Rest.{bare, few, apart, all_listable, list_long}
use Rattle.history.specs.Alike.{other_list}
use Rattle.history.specs.Survivors.{live, numbers_of, nets_survivors, nets_order, survivors_live, survivors_few, survivors_all, survivors_distinct}
use Rattle.history.specs.Logs.{made_yes, log_yes, log_no}
use Rattle.history.specs.Following.{alike_answer, alike_rest, others_rest, others_log}
use Rattle.history.specs.Entering.{Enterable, next_rest, next_behind, entry_taken, next_good, next_enterable}
use Rattle.history.proofs.Surviving.{survivors_log}
use Rattle.history.proofs.Days.{same_roll}
use Rattle.history.specs.Orders.{length_order, all_order, distinct_order}

-- what a list may have is asked of the currency table alone
listable_same : (k j : Book) (ts : List Trade) → k.currency ≡ j.currency → all (listable k) ts ≡ true → all (listable j) ts ≡ true
unfolding valid_trade bad_security unlisted currency_of
listable_same k j ts e a = rw e at a

-- ── a log of calls that are all accepted ──

log_short : (k : Book) (cs : List Call) → length (log_of k cs) ≤ length cs
unfolding log_of
log_short k [] = omega arith
log_short k (c ∷ cs) =
    by_test (accepted k c)
    (λ y. omega (arith, ap length (log_yes k c cs y), log_short (after k c) cs))
    (λ n. omega (arith, ap length (log_no k c cs n), log_short k cs))

module _ (k : Book) (c : Call) (cs : List Call) (all_taken : log_of k (c ∷ cs) ≡ c ∷ cs) where
  first_taken : accepted k c ≡ true
  first_taken =
      by_test (accepted k c) (λ y. y)
      (λ n. absurd (omega (arith, ap length (sym (log_no k c cs n) ∙ all_taken), log_short k cs)))

  rest_taken : log_of (after k c) cs ≡ cs
  rest_taken = let e : c ∷ log_of (after k c) cs ≡ c ∷ cs = sym (log_yes k c cs first_taken) ∙ all_taken in cc

-- ── the calls ds, made from j: the calls os, made from i, with the trades us entered between them ──

record Stands (i j : Book) (os : List Call) (us : List Trade) (ds : List Call) : Type 0 where
  rest : bare (made j ds) ≡ bare (made i os)
  list : list_of (made j ds) ≡ list_of j ++ us
  log : log_of j ds ≡ ds

-- a deposit, withdrawal or run leaves what can be entered
module _ (j : Book) (c : Call) (o : is_other c ≡ true) (us : List Trade) (f : Enterable j us) where
  still_enterable : Enterable (after j c) us
  unfolding bare with_list
  still_enterable =
      let l = other_list j c o in
      record {
        lives = f.lives;
        sound = listable_same (bare j) (bare (after j c)) us (sym (after_currency j c)) f.sound;
        apart = rw l f.apart;
        room = omega (arith, f.room, ap length l);
      }

stand : {os ds : List Call} {us : List Trade} → Interleaved os us ds → (i j : Book) → Good i → Good j → bare i ≡ bare j
    → log_of i os ≡ os → all is_other os ≡ true → Enterable j us → Stands i j os us ds
unfolding made log_of
stand nothing i j g h e t o f = record { rest = sym e; list = sym (append-nil (list_of j)); log = refl }
stand (next_call {c = c} {os = os} {ds = ds} {us = us} m) i j g h e t o f =
    let p = all_cons is_other c os o in
    let y = first_taken i c os t in
    let z : accepted j c ≡ true = ap (λ (n : ℕ). eqb n 0) (sym (alike_answer i j g h e c p.0)) ∙ y in
    let s = stand m (after i c) (after j c) (after_good i g c (took i c g y)) (after_good j h c (took j c h z)) (alike_rest i j g h e c p.0)
    (rest_taken i c os t) p.1 (still_enterable j c p.0 us f) in
    record {
      rest = ap bare (made_yes j c ds z) ∙ s.rest ∙ sym (ap bare (made_yes i c os y));
      list = ap list_of (made_yes j c ds z) ∙ s.list ∙ ap (λ (l : List Trade). l ++ us) (other_list j c p.0);
      log = log_yes j c ds z ∙ ap (λ (l : List Call). c ∷ l) s.log;
    }
stand (next_entry {t = u} {os = os} {ds = ds} {us = us} m) i j g h e t o f =
    let z = entry_taken j h u us f in
    let s = stand m i (after j (enter u)) g (next_good j h u us f) (e ∙ sym (next_rest j h u us f)) t o (next_enterable j h u us f) in
    record {
      rest = ap bare (made_yes j (enter u) ds z) ∙ s.rest;
      list = ap list_of (made_yes j (enter u) ds z) ∙ s.list ∙ next_behind j h u us f;
      log = log_yes j (enter u) ds z ∙ ap (λ (l : List Call). enter u ∷ l) s.log;
    }

-- ── the day ──

module _ (k : Book) (g : Good k) (morning : list_of k ≡ []) (cs : List Call) (day : rolls k cs ≡ false)
    (us : List Trade) (q : Perm us (last_forms (log_of k cs))) (ds : List Call) (i : Interleaved (others k cs) us ds) where
  abbrev end : Book
  end = made k cs

  end_good : Good end
  end_good = made_good k cs g

  -- by the list
  p : Perm us (survivors (list_of end))
  p = subst (Perm us) (sym (survivors_log k cs g morning)) q

  enterable : Enterable k us
  unfolding bare with_list
  enterable =
      let vs = survivors (list_of end) in
      let n : length us ≡ length vs = length_order us vs p in
      record {
        lives = all_order live us vs p ∙ survivors_live (list_of end);
        sound = listable_same end (bare k) us (made_currency k cs)
            (all_order (listable end) us vs p ∙ survivors_all (listable end) (list_of end) (all_listable end end_good));
        apart = rw morning (distinct_order (numbers_of us) (numbers_of vs) (Perm.map (λ (t : Trade). t.number) p) ∙ survivors_distinct (list_of end) (apart end end_good));
        room = omega (arith, n, ap length morning, survivors_few (list_of end), list_long end end_good, few end end_good);
      }

  all_others : all is_other (others k cs) ≡ true
  unfolding others
  all_others = keep_passes is_other (log_of k cs)

  stands : Stands k k (others k cs) us ds
  stands = stand i k k g g refl (others_log k g cs day) all_others enterable

  pub interleaved_log : log_of k ds ≡ ds
  interleaved_log = stands.log

  pub interleaved_roll : SameRoll end (made k ds)
  interleaved_roll =
      same_roll end (made k ds) end_good (made_good k ds g) (sym (stands.rest ∙ others_rest k g cs day))
      (λ due. let vs = survivors (list_of end) in
      let e : list_of (made k ds) ≡ us = stands.list ∙ rw morning in
      sym (nets_survivors due (list_of end)) ∙ sym (nets_order due us vs p) ∙ ap (nets due) (sym e))
