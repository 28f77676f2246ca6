-- The sides of a run's meetings: each is a record's, so its account is the one of the record of that number.
use Rattle.std.specs.Prelude.{◌≡◌, refl, Bool, true, ◌&&◌, List, [], ◌∷◌, ◌++◌, map, ℕ, ◌-◌, ◌/◌, ◌%◌, min, eqb, ltb, get_or, set}
use Rattle.std.proofs.Common.{sym, ap, subst, ◌∙◌, eqb-true, eq-eqb}
use Rattle.rules.specs.Words.{all}
use Rattle.rules.specs.Book.{quantity_of, account_of, holding_at}
use Rattle.rules.specs.Run.{Side, side, short_of, long_of, due_in, givers_of, givers, receivers, Meeting, leaving, filled, meetings_of, meetings}
use Rattle.rules.specs.declared.Position.{Position}
use Rattle.rules.specs.declared.Book.{Book}
use Rattle.laws.specs.Cases.{by_test, both_hold, and_hold}
use Rattle.laws.specs.All.{all_by, all_cons, all_both, map_all_in}
use Rattle.laws.specs.Keeping.{keep_all}

-- ── a side's account is its number's ──

abbrev is_own : Side → Bool
is_own g = eqb g.account (g.number / 32 % 64)

abbrev pub both_own : Meeting → Bool
both_own m = is_own m.giver && is_own m.receiver

side_own : (p : Position) (k : ℕ) → is_own (side p k) ≡ true
unfolding account_of
side_own p k = eq-eqb (p.number / 32 % 64) (p.number / 32 % 64) refl

givers_own : (s : ℕ) (ps : List Position) (held : List ℕ) → all is_own (givers_of s ps held) ≡ true
unfolding givers_of all
givers_own s [] held = refl
givers_own s (p ∷ ps) held =
    let i = holding_at (account_of p) s in
    let k = min (short_of (quantity_of p)) (get_or held i 0) in
    by_test (eqb k 0)
    (λ e. rw e (givers_own s ps held))
    (λ e. rw e (and_hold (side_own p k) (givers_own s ps (set held i (get_or held i 0 - k)))))

receivers_own : (k : Book) (s : ℕ) → all is_own (receivers k s) ≡ true
unfolding receivers
receivers_own k s =
    let wanting : Position → Side = λ p. side p (long_of (quantity_of p)) in
    keep_all (λ r. ltb 0 r.shares) is_own (map wanting (due_in k s))
    (map_all_in (λ p. true) is_own wanting (due_in k s) (all_by (λ p. true) (due_in k s) (λ p. refl)) (λ p e. side_own p (long_of (quantity_of p))))

leaving_own : (g : Side) (k : ℕ) (gs : List Side) → is_own g ≡ true → all is_own gs ≡ true → all is_own (leaving g k gs) ≡ true
unfolding leaving all
leaving_own g k gs e a = by_test (eqb g.shares k) (λ y. rw y a) (λ n. rw n (and_hold e a))

filled_own : (r : Side) (w : ℕ) (gs : List Side) → is_own r ≡ true → all is_own gs ≡ true
    → (all both_own (filled r w gs).meetings ≡ true) × (all is_own (filled r w gs).left ≡ true)
unfolding filled all
filled_own r w [] e a = (refl, refl)
filled_own r w (g ∷ gs) e a =
    let h = both_hold (is_own g) (all is_own gs) a in
    let k = min g.shares w in
    let rest = filled_own r (w - k) gs e h.1 in
    by_test (eqb w 0)
    (λ y. rw y (refl, a))
    (λ n. rw n (and_hold (and_hold h.0 e) rest.0, leaving_own g k (filled r (w - k) gs).left h.0 rest.1))

meetings_of_own : (rs gs : List Side) → all is_own rs ≡ true → all is_own gs ≡ true → all both_own (meetings_of rs gs) ≡ true
unfolding meetings_of all
meetings_of_own [] gs a h = refl
meetings_of_own (r ∷ rs) gs a h =
    let u = both_hold (is_own r) (all is_own rs) a in
    let f = filled_own r r.shares gs u.0 h in
    all_both both_own (filled r r.shares gs).meetings _ f.0 (meetings_of_own rs (filled r r.shares gs).left u.1 f.1)

pub meetings_own : (k : Book) (s : ℕ) → all both_own (meetings k s) ≡ true
unfolding meetings givers
meetings_own k s = meetings_of_own (receivers k s) (givers k s) (receivers_own k s) (givers_own s (due_in k s) k.holdings)

all_here : (ms : List Meeting) (m : Meeting) (rest : List Meeting) → all both_own (ms ++ m ∷ rest) ≡ true → both_own m ≡ true
all_here [] m rest a = (all_cons both_own m rest a).0
all_here (n ∷ ms) m rest a = all_here ms m rest (all_cons both_own n (ms ++ m ∷ rest) a).1

-- So of every meeting: a record of the giver's number is the giver's account's.
pub giver_account : (k : Book) (s : ℕ) (ms : List Meeting) (m : Meeting) (rest : List Meeting) → meetings k s ≡ ms ++ m ∷ rest
    → (p : Position) → p.number ≡ m.giver.number → account_of p ≡ m.giver.account
unfolding account_of
giver_account k s ms m rest e p n =
    let own = all_here ms m rest (subst (λ (l : List Meeting). all both_own l ≡ true) e (meetings_own k s)) in
    ap (λ (i : ℕ). i / 32 % 64) n ∙ sym (eqb-true m.giver.account (m.giver.number / 32 % 64) (both_hold (is_own m.giver) (is_own m.receiver) own).0)
