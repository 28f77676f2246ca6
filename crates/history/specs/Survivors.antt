-- The trades of a list that are not excluded: they have the nets of the whole list, their numbers are distinct, and they can be entered.
use Rattle.std.specs.Prelude.{◌≡◌, refl, Bool, true, false, cond, not, ℕ, ◌≤◌, eqb, length, pos, ◌-ℤ◌}
use Rattle.std.proofs.Common.{sym, ap, ◌∙◌, zero-mul, eqb-true}
use mathlib.Core.List.{List, [], ◌∷◌, map, Perm}
use Rattle.std.proofs.lemmas.Bool.{not-false}
use Rattle.integers.specs.Sums.{sum_by, sum_by_perm}
use Rattle.rules.specs.Words.{all, keep, each}
use Rattle.rules.specs.Bounds.{every_account, every_security}
use Rattle.rules.specs.Trades.{amount_of, is_excluded}
use Rattle.rules.specs.Sound.{distinct, is_position}
use Rattle.rules.specs.Nets.{bought, sold, net, net_of, trades_of, nets}
use Rattle.rules.specs.declared.Trade.{Trade}
use Rattle.laws.specs.Cases.{by_test, both_hold, and_hold}
use Rattle.laws.specs.Keeping.{keep_yes, keep_no, keep_none, keep_all, keep_passes, keep_length, keep_swap, keep_whole}
use Rattle.laws.specs.Adding.{sum_by_keep, sum_by_kept}
use Rattle.laws.specs.NetLaws.{flow, net_of_own}
use Rattle.history.specs.Histories.{survivors}

-- not excluded
abbrev pub live : Trade → Bool
live t = not (is_excluded t)

-- ── nets ──

-- what is 0 of an excluded trade
abbrev Idle : (Trade → ℕ) → Type 0
Idle v = (t : Trade) → is_excluded t ≡ true → v t ≡ 0

shares_idle : Idle (λ t. t.quantity)
unfolding is_excluded
shares_idle t e = eqb-true t.quantity 0 e

amount_idle : Idle amount_of
unfolding amount_of
amount_idle t e = rw (shares_idle t e) (zero-mul t.price.0)

flow_idle : (v : Trade → ℕ) → Idle v → (a : ℕ) (t : Trade) → live t ≡ false → flow v a t ≡ pos 0
unfolding bought sold
flow_idle v h a t e = rw (h t (not-false (is_excluded t) e)) (nothing (eqb t.buyer a) (eqb t.seller a))
  where
    nothing : (x y : Bool) → cond x (pos 0) (pos 0) -ℤ cond y (pos 0) (pos 0) ≡ pos 0
    nothing true true = refl
    nothing true false = refl
    nothing false true = refl
    nothing false false = refl

net_survivors : (v : Trade → ℕ) → Idle v → (ts : List Trade) (a s : ℕ) → net v (survivors ts) a s ≡ net v ts a s
unfolding net survivors
net_survivors v h ts a s =
    let in_security : Trade → Bool = λ t. eqb t.security s in
    ap (sum_by (flow v a)) (keep_swap in_security live ts) ∙ sum_by_kept (flow v a) live (keep in_security ts) (flow_idle v h a)

net_of_survivors : (due : ℕ) (ts : List Trade) (a s : ℕ) → net_of due (survivors ts) a s ≡ net_of due ts a s
unfolding net_of
net_of_survivors due ts a s = rw (net_survivors (λ t. t.quantity) shares_idle ts a s, net_survivors amount_of amount_idle ts a s)

-- lists with the same net for each account and security
nets_same : (due : ℕ) (ts us : List Trade) → ((a s : ℕ) → net_of due ts a s ≡ net_of due us a s) → nets due ts ≡ nets due us
unfolding nets
nets_same due ts us h =
    let same : (a s : ℕ) → net_of due (trades_of a ts) a s ≡ net_of due (trades_of a us) a s =
    λ a s. net_of_own due ts a s ∙ h a s ∙ sym (net_of_own due us a s) in
    λ i. each (λ a. keep is_position (map (λ s. same a s i) every_security)) every_account

pub nets_survivors : (due : ℕ) (ts : List Trade) → nets due (survivors ts) ≡ nets due ts
nets_survivors due ts = nets_same due (survivors ts) ts (net_of_survivors due ts)

-- the same trades in another order have the same nets
net_order : (v : Trade → ℕ) (ts us : List Trade) → Perm ts us → (a s : ℕ) → net v ts a s ≡ net v us a s
unfolding net
net_order v ts us p a s =
    let in_security : Trade → Bool = λ t. eqb t.security s in
    sum_by_keep (flow v a) in_security ts
    ∙ sum_by_perm (λ t. cond (in_security t) (flow v a t) (pos 0)) ts us p
    ∙ sym (sum_by_keep (flow v a) in_security us)

net_of_order : (due : ℕ) (ts us : List Trade) → Perm ts us → (a s : ℕ) → net_of due ts a s ≡ net_of due us a s
unfolding net_of
net_of_order due ts us p a s = rw (net_order (λ t. t.quantity) ts us p a s, net_order amount_of ts us p a s)

pub nets_order : (due : ℕ) (ts us : List Trade) → Perm ts us → nets due ts ≡ nets due us
nets_order due ts us p = nets_same due ts us (net_of_order due ts us p)

-- ── the survivors ──

pub survivors_live : (ts : List Trade) → all live (survivors ts) ≡ true
unfolding survivors
survivors_live ts = keep_passes live ts

pub survivors_few : (ts : List Trade) → length (survivors ts) ≤ length ts
unfolding survivors
survivors_few ts = keep_length live ts

pub survivors_all : (t : Trade → Bool) (ts : List Trade) → all t ts ≡ true → all t (survivors ts) ≡ true
unfolding survivors
survivors_all t ts a = keep_all live t ts a

pub survivors_again : (ts : List Trade) → all live ts ≡ true → survivors ts ≡ ts
unfolding survivors
survivors_again ts a = keep_whole live ts a

-- ── their numbers ──

abbrev pub numbers_of : List Trade → List ℕ
numbers_of ts = map (λ t. t.number) ts

kept_numbers : (t : Trade → Bool) (u : ℕ → Bool) (ts : List Trade) → all u (numbers_of ts) ≡ true → all u (numbers_of (keep t ts)) ≡ true
unfolding all
kept_numbers t u [] a = rw keep_none
kept_numbers t u (x ∷ ts) a =
    let p = both_hold (u x.number) (all u (numbers_of ts)) a in
    let ih = kept_numbers t u ts p.1 in
    by_test (t x) (λ e. rw (keep_yes t x ts e) (and_hold p.0 ih)) (λ e. rw (keep_no t x ts e) ih)

kept_distinct : (t : Trade → Bool) (ts : List Trade) → distinct (numbers_of ts) ≡ true → distinct (numbers_of (keep t ts)) ≡ true
unfolding distinct
kept_distinct t [] d = rw keep_none
kept_distinct t (x ∷ ts) d =
    let other : ℕ → Bool = λ m. not (eqb x.number m) in
    let p = both_hold (all other (numbers_of ts)) (distinct (numbers_of ts)) d in
    let ih = kept_distinct t ts p.1 in
    by_test (t x) (λ e. rw (keep_yes t x ts e) (and_hold (kept_numbers t other ts p.0) ih)) (λ e. rw (keep_no t x ts e) ih)

pub survivors_distinct : (ts : List Trade) → distinct (numbers_of ts) ≡ true → distinct (numbers_of (survivors ts)) ≡ true
unfolding survivors
survivors_distinct ts d = kept_distinct live ts d
