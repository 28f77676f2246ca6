-- One call of a history: accepted or refused; no call alters the currency table; and every book of a history is sound, with tables of their lengths.
use Rattle.std.specs.Prelude.{◌≡◌, refl, true, false, List, [], ◌∷◌, ℕ, length}
use Rattle.std.proofs.Common.{sym, ap, ◌∙◌, subst, eqb-true}
use Rattle.rules.specs.Words.{all, first}
use Rattle.rules.specs.Bounds.{securities}
use Rattle.rules.specs.Book.{empty_book, with_open, with_list, with_holdings, with_charges, with_day}
use Rattle.rules.specs.Sound.{is_code, sound}
use Rattle.rules.specs.Roll.{uncharged, netted, emptied, next_day, offset, rolled}
use Rattle.rules.specs.Run.{settled}
use Rattle.rules.specs.Calls.{Call, enter, amend, exclude, roll, deposit, withdraw, run, after, answer, answer_sound}
use Rattle.rules.specs.CallFile.{left}
use Rattle.rules.specs.declared.Book.{Book}
use Rattle.laws.specs.Cases.{by_test, cond_yes, cond_no}
use Rattle.laws.specs.Shaped.{Shaped, enter_shaped, amend_shaped, exclude_shaped, deposit_shaped, withdraw_shaped}
use Rattle.laws.specs.KeptLists.{enter_kept, amend_kept, exclude_kept}
use Rattle.laws.specs.KeptHoldings.{deposit_kept, withdraw_kept}
use Rattle.laws.specs.RollKept.{roll_kept, roll_shaped}
use Rattle.laws.specs.RunSound.{call_run_sound, call_run_shaped}
use Rattle.laws.specs.Empty.{empty_sound, empty_shaped}
use Rattle.history.specs.Histories.{accepted, made}

-- what every book of a history is
pub record Good (k : Book) : Type 0 where
  pub sound : sound k ≡ true
  pub shaped : Shaped k

-- ── accepted or refused ──

pub left_yes : (k : Book) (c : Call) → accepted k c ≡ true → left k c ≡ after k c
unfolding left
left_yes k c e = cond_yes (after k c) k e

pub left_no : (k : Book) (c : Call) → accepted k c ≡ false → left k c ≡ k
unfolding left
left_no k c e = cond_no (after k c) k e

-- on a sound book the first check passes
pub answer_sound_lem : (k : Book) (c : Call) → sound k ≡ true → answer k c ≡ answer_sound k c
unfolding answer answer_sound first
answer_sound_lem k c e = rw e

pub took : (k : Book) (c : Call) → Good k → accepted k c ≡ true → answer_sound k c ≡ 0
took k c g e = sym (answer_sound_lem k c g.sound) ∙ eqb-true (answer k c) 0 e

-- ── the currency table: no call alters it ──

pub after_currency : (k : Book) (c : Call) → (after k c).currency ≡ k.currency
unfolding after with_list with_holdings rolled offset next_day emptied netted uncharged settled with_open with_charges with_day
after_currency k (enter t) = refl
after_currency k (amend t) = refl
after_currency k (exclude n) = refl
after_currency k roll = refl
after_currency k (deposit a s q) = refl
after_currency k (withdraw a s q) = refl
after_currency k (run s) = refl

pub left_currency : (k : Book) (c : Call) → (left k c).currency ≡ k.currency
left_currency k c =
    by_test (accepted k c)
    (λ e. ap (λ (m : Book). m.currency) (left_yes k c e) ∙ after_currency k c)
    (λ e. ap (λ (m : Book). m.currency) (left_no k c e))

pub made_currency : (k : Book) (cs : List Call) → (made k cs).currency ≡ k.currency
unfolding made
made_currency k [] = refl
made_currency k (c ∷ cs) = made_currency (left k c) cs ∙ left_currency k c

-- ── an accepted call leaves a good book, and so does any ──

module _ (k : Book) (g : Good k) where
  after_sound : (c : Call) → answer_sound k c ≡ 0 → sound (after k c) ≡ true
  after_sound (enter t) e = enter_kept k g.sound g.shaped t e
  after_sound (amend t) e = amend_kept k g.sound g.shaped t e
  after_sound (exclude n) e = exclude_kept k g.sound g.shaped n e
  after_sound roll e = roll_kept k g.sound g.shaped e
  after_sound (deposit a s q) e = deposit_kept k g.sound g.shaped a s q e
  after_sound (withdraw a s q) e = withdraw_kept k g.sound g.shaped a s q e
  after_sound (run s) e = call_run_sound k s g.sound g.shaped e

  after_shaped : (c : Call) → answer_sound k c ≡ 0 → Shaped (after k c)
  after_shaped (enter t) e = enter_shaped k g.shaped t e
  after_shaped (amend t) e = amend_shaped k g.shaped t
  after_shaped (exclude n) e = exclude_shaped k g.shaped n
  after_shaped roll e = roll_shaped k g.sound g.shaped e
  after_shaped (deposit a s q) e = deposit_shaped k g.shaped a s q
  after_shaped (withdraw a s q) e = withdraw_shaped k g.shaped a s q
  after_shaped (run s) e = call_run_shaped k s g.sound g.shaped e

  pub after_good : (c : Call) → answer_sound k c ≡ 0 → Good (after k c)
  after_good c e = record { sound = after_sound c e; shaped = after_shaped c e }

  pub left_good : (c : Call) → Good (left k c)
  left_good c =
      by_test (accepted k c)
      (λ e. subst Good (sym (left_yes k c e)) (after_good c (took k c g e)))
      (λ e. subst Good (sym (left_no k c e)) g)

-- ── histories ──

pub made_good : (k : Book) (cs : List Call) → Good k → Good (made k cs)
unfolding made
made_good k [] g = g
made_good k (c ∷ cs) g = made_good (left k c) cs (left_good k g c)

pub empty_good : (codes : List ℕ) → length codes ≡ securities → all is_code codes ≡ true → Good (empty_book codes)
empty_good codes n e = record { sound = empty_sound codes e; shaped = empty_shaped codes n }
