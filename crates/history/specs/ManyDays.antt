-- Many days: any calls are those up to the last accepted roll and a day behind it, which starts with an empty list.
use Rattle.std.specs.Prelude.{◌≡◌, refl, Bool, true, false, ◌||◌, List, [], ◌∷◌, ◌++◌}
use Rattle.std.proofs.Common.{sym, ap, ◌∙◌, eqb-true}
use Rattle.rules.specs.Words.{any}
use Rattle.rules.specs.Book.{list_of}
use Rattle.rules.specs.Calls.{Call, roll, after, answer}
use Rattle.rules.specs.CallFile.{left}
use Rattle.rules.specs.declared.Book.{Book}
use Rattle.laws.specs.Cases.{by_test, true_false, cond_yes, cond_no}
use Rattle.history.specs.Histories.{accepted, made, log_of, is_roll, rolls, past, today, morning, EndsRolled}
use Rattle.history.specs.Steps.{left_yes, left_no}
use Rattle.history.specs.Logs.{is_roll_lem, log_yes, rolls_no, made_append, rolled_made}
use Rattle.history.specs.Forms.{rolled_list}

-- ── call by call ──

past_more : (k : Book) (c : Call) (cs : List Call) → rolls k (c ∷ cs) ≡ true → past k (c ∷ cs) ≡ c ∷ past (left k c) cs
unfolding past
past_more k c cs e = cond_yes (c ∷ past (left k c) cs) [] e

pub past_none : (k : Book) (cs : List Call) → rolls k cs ≡ false → past k cs ≡ []
unfolding past
past_none k [] e = refl
past_none k (c ∷ cs) e = cond_no (c ∷ past (left k c) cs) [] e

rolls_none : (k : Book) → rolls k [] ≡ false
unfolding rolls any log_of
rolls_none k = refl

-- ── the two parts ──

pub past_today : (k : Book) (cs : List Call) → past k cs ++ today k cs ≡ cs
unfolding past today
past_today k [] = refl
past_today k (c ∷ cs) =
    let ih = past_today (left k c) cs in
    by_test (rolls k (c ∷ cs)) (λ e. rw e (ap (λ (l : List Call). c ∷ l) ih)) (λ e. rw e)

-- no roll is accepted in the second
pub today_rolls : (k : Book) (cs : List Call) → rolls (morning k cs) (today k cs) ≡ false
unfolding morning made past today
today_rolls k [] = rolls_none k
today_rolls k (c ∷ cs) =
    let ih = today_rolls (left k c) cs in
    by_test (rolls k (c ∷ cs)) (λ e. rw e ih) (λ e. rw e e)

-- one after the other they leave what all the calls leave
pub day_made : (k : Book) (cs : List Call) → made (morning k cs) (today k cs) ≡ made k cs
unfolding morning
day_made k cs = sym (made_append k (past k cs) (today k cs)) ∙ ap (made k) (past_today k cs)

-- ── the last accepted roll ──

left_true : (a b : Bool) → a || b ≡ true → b ≡ false → a ≡ true
left_true true b h n = refl
left_true false b h n = true_false h n

-- the only accepted roll is the first call
rolls_first : (k : Book) (c : Call) (cs : List Call) → rolls k (c ∷ cs) ≡ true → rolls (left k c) cs ≡ false → (c ≡ roll) × (answer k c ≡ 0)
unfolding rolls any
rolls_first k c cs e f =
    by_test (accepted k c)
    (λ y. let this : is_roll c ≡ true =
    left_true (is_roll c) (any is_roll (log_of (after k c) cs)) (rw (log_yes k c cs y) at e) (rw (left_yes k c y) at f) in
    (is_roll_lem c this, eqb-true (answer k c) 0 y))
    (λ n. true_false e (rolls_no k c cs n ∙ ap (λ (b : Book). rolls b cs) (sym (left_no k c n)) ∙ f))

pub past_ends : (k : Book) (cs : List Call) → rolls k cs ≡ true → EndsRolled k (past k cs)
unfolding made
past_ends k [] e = true_false e (rolls_none k)
past_ends k (c ∷ cs) e =
    let ih : rolls (left k c) cs ≡ true → EndsRolled (left k c) (past (left k c) cs) = past_ends (left k c) cs in
    by_test (rolls (left k c) cs)
    (λ y. let h = ih y in
    record { front = c ∷ h.front; ends = past_more k c cs e ∙ ap (λ (l : List Call). c ∷ l) h.ends; taken = h.taken })
    (λ n. let h = rolls_first k c cs e n in
    record {
      front = [];
      ends = past_more k c cs e ∙ rw (past_none (left k c) cs n, h.0);
      taken = ap (answer k) (sym h.0) ∙ h.1;
    })

-- ── the day starts with an empty list ──

pub morning_list : (k : Book) (cs : List Call) → list_of k ≡ [] → list_of (morning k cs) ≡ []
unfolding morning made after
morning_list k cs e =
    by_test (rolls k cs)
    (λ y. let h = past_ends k cs y in
    let j = made k h.front in
    ap (λ (l : List Call). list_of (made k l)) h.ends ∙ ap list_of (rolled_made k h.front h.taken) ∙ rolled_list j)
    (λ n. ap (λ (l : List Call). list_of (made k l)) (past_none k cs n) ∙ e)
