-- A day of a history: the roll behind it reads its accepted deposits, withdrawals and runs and its surviving trades, and nothing else (demand 3).
use Rattle.std.specs.Prelude.{◌≡◌, refl, true, false, ℕ, length}
use Rattle.std.proofs.Common.{sym, ap₂, ◌∙◌, arith}
use Rattle.std.proofs.Math.Path.{ap}
use mathlib.Core.List.{List, [], ◌∷◌, map, append-nil, Perm}
use Rattle.rules.specs.Words.{all, keep}
use Rattle.rules.specs.Book.{list_of, with_list, currency_of, unlisted}
use Rattle.rules.specs.Trades.{bad_security}
use Rattle.rules.specs.Sound.{distinct, valid_trade}
use Rattle.rules.specs.Nets.{nets}
use Rattle.rules.specs.Calls.{Call, enter, roll}
use Rattle.rules.specs.declared.Trade.{Trade}
use Rattle.rules.specs.declared.Book.{Book}
use Rattle.laws.specs.Keeping.{keep_append, keep_passes, keep_whole}
use Rattle.laws.specs.Listed.{listable}
use Rattle.history.specs.Histories.{made, log_of, is_other, rolls, others, last_forms, tidy, survivors, SameRoll}
use Rattle.history.specs.Steps.{Good, answer_sound_lem, made_good}
use Rattle.history.specs.Rest.{bare, with_bare, whole, few, apart, all_listable, list_long}
use Rattle.history.specs.Alike.{roll_alike}
use Rattle.history.specs.Survivors.{live, numbers_of, nets_survivors, nets_order, survivors_live, survivors_few, survivors_all, survivors_again, survivors_distinct}
use Rattle.history.specs.Logs.{made_append, log_append}
use Rattle.history.specs.Following.{others_rest, others_list, others_log}
use Rattle.history.specs.Entering.{Enterable, Entered, all_entered}
use Rattle.history.proofs.Surviving.{survivors_log}

-- what the list may have reads the rest alone
listable_bare : (k : Book) (ts : List Trade) → all (listable k) ts ≡ true → all (listable (bare k)) ts ≡ true
unfolding valid_trade bad_security unlisted currency_of bare with_list
listable_bare k ts e = e

no_others : (ts : List Trade) → keep is_other (map enter ts) ≡ []
unfolding keep is_other
no_others [] = refl
no_others (t ∷ ts) = no_others ts

-- ── rolls that are answered alike, and leave the same book ──

pub same_roll : (k j : Book) → Good k → Good j → bare k ≡ bare j → ((due : ℕ) → nets due (list_of k) ≡ nets due (list_of j)) → SameRoll k j
same_roll k j g h e f =
    let r = roll_alike k j e f in
    (answer_sound_lem k roll g.sound ∙ r.0 ∙ sym (answer_sound_lem j roll h.sound), r.1)

-- ── the tidy day ──

module _ (k : Book) (g : Good k) (morning : list_of k ≡ []) (cs : List Call) (day : rolls k cs ≡ false) where
  abbrev end : Book
  end = made k cs

  end_good : Good end
  end_good = made_good k cs g

  -- the survivors, by the log; they are those of the list
  abbrev us : List Trade
  us = last_forms (log_of k cs)

  same_us : survivors (list_of end) ≡ us
  same_us = survivors_log k cs g morning

  us_live : all live us ≡ true
  us_live = rw (sym same_us) (survivors_live (list_of end))

  -- each number stands once
  pub us_once : distinct (numbers_of us) ≡ true
  us_once = rw (sym same_us) (survivors_distinct (list_of end) (apart end end_good))

  -- after the deposits, withdrawals and runs
  abbrev noon : Book
  noon = made k (others k cs)

  noon_list : list_of noon ≡ []
  noon_list = others_list k g cs day ∙ morning

  enterable : Enterable noon us
  enterable =
      record {
        lives = us_live;
        sound = rw (others_rest k g cs day, sym same_us)
            (listable_bare end (survivors (list_of end)) (survivors_all (listable end) (list_of end) (all_listable end end_good)));
        apart = rw noon_list us_once;
        room = omega (arith, ap length noon_list, ap length same_us, survivors_few (list_of end), list_long end end_good, few end end_good);
      }

  in_turn : Entered noon us
  in_turn = all_entered us noon (made_good k (others k cs) g) enterable

  tidy_made : made k (tidy k cs) ≡ made noon (map enter us)
  unfolding tidy
  tidy_made = made_append k (others k cs) (map enter us)

  pub tidy_rest : bare (made k (tidy k cs)) ≡ bare end
  tidy_rest = ap bare tidy_made ∙ in_turn.rest ∙ others_rest k g cs day

  pub tidy_list : list_of (made k (tidy k cs)) ≡ us
  tidy_list = ap list_of tidy_made ∙ in_turn.list ∙ rw noon_list

  -- so the tidy day ends at the day's book with its survivors alone in the list
  pub tidy_book : made k (tidy k cs) ≡ with_list end us
  tidy_book =
      let j = made k (tidy k cs) in
      whole j (made_good k (tidy k cs) g) ∙ sym (with_bare j (list_of j)) ∙ ap₂ with_list tidy_rest tidy_list ∙ with_bare end us

  -- every call of the tidy day is accepted
  pub tidy_log : log_of k (tidy k cs) ≡ tidy k cs
  unfolding tidy
  tidy_log = log_append k (others k cs) (map enter us) ∙ rw (others_log k g cs day, in_turn.log)

  -- it has the day's deposits, withdrawals and runs, and its survivors
  pub tidy_others : others k (tidy k cs) ≡ others k cs
  unfolding others tidy
  tidy_others =
      let os = keep is_other (log_of k cs) in
      ap (keep is_other) tidy_log ∙ keep_append is_other os (map enter us)
      ∙ rw (keep_whole is_other os (keep_passes is_other (log_of k cs)), no_others us, append-nil os)

  pub tidy_forms : last_forms (log_of k (tidy k cs)) ≡ us
  tidy_forms = sym (survivors_log k (tidy k cs) g morning) ∙ ap survivors tidy_list ∙ survivors_again us us_live

  -- the roll behind the day is the roll behind the tidy day
  pub tidy_roll : SameRoll end (made k (tidy k cs))
  tidy_roll =
      same_roll end (made k (tidy k cs)) end_good (made_good k (tidy k cs) g) (sym tidy_rest)
      (λ due. sym (nets_survivors due (list_of end)) ∙ ap (nets due) (same_us ∙ sym tidy_list))

-- ── any two days with the same deposits, withdrawals and runs, and the same survivors in any order ──

pub any_roll : (k : Book) → Good k → list_of k ≡ [] → (cs ds : List Call) → rolls k cs ≡ false → rolls k ds ≡ false → others k cs ≡ others k ds
    → Perm (last_forms (log_of k cs)) (last_forms (log_of k ds)) → SameRoll (made k cs) (made k ds)
any_roll k g morning cs ds c d e p =
    same_roll (made k cs) (made k ds) (made_good k cs g) (made_good k ds g)
    (sym (others_rest k g cs c) ∙ ap (λ (os : List Call). bare (made k os)) e ∙ others_rest k g ds d)
    (λ due. nets_log due cs ∙ nets_order due (last_forms (log_of k cs)) (last_forms (log_of k ds)) p ∙ sym (nets_log due ds))
  where
    nets_log : (due : ℕ) (bs : List Call) → nets due (list_of (made k bs)) ≡ nets due (last_forms (log_of k bs))
    nets_log due bs = sym (nets_survivors due (list_of (made k bs))) ∙ ap (nets due) (survivors_log k bs g morning)
