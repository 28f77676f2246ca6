-- Meetings one at a time: the first giver and the first receiver meet, and then it is a run of what the two have left and all the others.
-- So it is all one whether receivers are filled one after another or givers give one after another.
use Rattle.std.specs.Prelude.{◌≡◌, refl, List, [], ◌∷◌, ◌++◌, ℕ, ◌+◌, ◌-◌, min, ◌<◌, eqb}
use Rattle.std.proofs.Common.{sym, ap, ◌∙◌, arith, eq-eqb, ne_eqb}
use Rattle.std.proofs.Math.Decide.{ℕ_discrete}
use Rattle.rules.specs.Words.{total}
use Rattle.rules.specs.Run.{Side, Meeting, Filled, Running, filled, leaving, meetings_of, met, taken}
use Rattle.rules.specs.declared.Book.{Book}
use Rattle.laws.specs.Cases.{by_test}
use Rattle.laws.specs.Walk.{Walking}

-- ── what meetings do to a walk ──

abbrev pub running : Walking → Running
running x = record { records = x.records; holdings = x.holdings; charges = x.charges }

abbrev pub meeting : Side → Side → ℕ → Meeting
meeting g r k = record { giver = g; receiver = r; shares = k }

unfoldable pub walked_by : Book → ℕ → Walking → Meeting → Walking
walked_by b s x m =
    let y = met b s (running x) m in
    record { records = y.records; holdings = y.holdings; charges = y.charges; shares = x.shares + m.shares }

unfoldable pub walked_all : Book → ℕ → Walking → List Meeting → Walking
walked_all b s x [] = x
walked_all b s x (m ∷ ms) = walked_all b s (walked_by b s x m) ms

-- it is what `taken` says, and the shares add up
pub all_taken : (b : Book) (s : ℕ) (x : Walking) (ms : List Meeting) → running (walked_all b s x ms) ≡ taken b s (running x) ms
unfolding walked_all walked_by taken
all_taken b s x [] = refl
all_taken b s x (m ∷ ms) = all_taken b s (walked_by b s x m) ms

pub all_shares : (b : Book) (s : ℕ) (x : Walking) (ms : List Meeting) → (walked_all b s x ms).shares ≡ x.shares + total (λ m. m.shares) ms
unfolding walked_all walked_by total
all_shares b s x [] = omega arith
all_shares b s x (m ∷ ms) = omega (arith, all_shares b s (walked_by b s x m) ms)

-- ── a receiver that is filled ──

-- k shares less
abbrev pub less : Side → ℕ → Side
less g k = record { number = g.number; account = g.account; shares = g.shares - k }

pub filled_full : (r : Side) (gs : List Side) → filled r 0 gs ≡ record { meetings = []; left = gs }
unfolding filled
filled_full r [] = refl
filled_full r (g ∷ gs) = refl

-- only the number and the account of the receiver count, beside what it wants
filled_left : (r : Side) (k w : ℕ) (gs : List Side) → (filled (less r k) w gs).left ≡ (filled r w gs).left
unfolding filled
filled_left r k w [] = refl
filled_left r k w (g ∷ gs) =
    by_test (eqb w 0) (λ e. rw e) (λ e. rw e (ap (λ (l : List Side). leaving g (min g.shares w) l) (filled_left r k (w - min g.shares w) gs)))

filled_met : (b : Book) (s : ℕ) (x : Walking) (r : Side) (k w : ℕ) (gs : List Side) (ms : List Meeting)
    → walked_all b s x ((filled (less r k) w gs).meetings ++ ms) ≡ walked_all b s x ((filled r w gs).meetings ++ ms)
unfolding filled walked_all walked_by met
filled_met b s x r k w [] ms = refl
filled_met b s x r k w (g ∷ gs) ms =
    by_test (eqb w 0) (λ e. rw e)
    (λ e. rw e (filled_met b s (walked_by b s x (meeting g r (min g.shares w))) r k (w - min g.shares w) gs ms))

-- ── the first giver and the first receiver ──

pub leaving_none : (g : Side) (k : ℕ) (gs : List Side) → g.shares ≡ k → leaving g k gs ≡ gs
unfolding leaving
leaving_none g k gs e = rw (eq-eqb g.shares k e)

pub leaving_some : (g : Side) (k : ℕ) (gs : List Side) → k < g.shares → leaving g k gs ≡ less g k ∷ gs
unfolding leaving
leaving_some g k gs h = rw (ne_eqb g.shares k (λ e. omega arith))

filled_first : (r g : Side) (gs : List Side) → 0 < r.shares
    → filled r r.shares (g ∷ gs)
    ≡ record {
      meetings = meeting g r (min g.shares r.shares) ∷ (filled r (r.shares - min g.shares r.shares) gs).meetings;
      left = leaving g (min g.shares r.shares) (filled r (r.shares - min g.shares r.shares) gs).left;
    }
unfolding filled
filled_first r g gs h = rw (ne_eqb r.shares 0 (λ e. omega arith))

-- they meet, of the smaller of what the one has to give and the other wants; who has nothing left is gone
pub merge_step : (b : Book) (s : ℕ) (x : Walking) (r g : Side) (rs gs : List Side) (k : ℕ) → 0 < r.shares → 0 < g.shares → k ≡ min g.shares r.shares
    → walked_all b s x (meetings_of (r ∷ rs) (g ∷ gs)) ≡ walked_all b s (walked_by b s x (meeting g r k)) (meetings_of (leaving r k rs) (leaving g k gs))
unfolding meetings_of walked_all
merge_step b s x r g rs gs k hr hg ek =
    ap (λ (f : Filled). walked_all b s x (f.meetings ++ meetings_of rs f.left)) (filled_first r g gs hr)
    ∙ ap (λ (j : ℕ). walked_all b s (walked_by b s x (meeting g r j)) ((filled r (r.shares - j) gs).meetings ++ meetings_of rs (leaving g j (filled r (r.shares - j) gs).left))) (sym ek)
    ∙ go (ℕ_discrete r.shares k)
  where
    y : Walking
    y = walked_by b s x (meeting g r k)

    go : Dec (r.shares ≡ k)
        → walked_all b s y ((filled r (r.shares - k) gs).meetings ++ meetings_of rs (leaving g k (filled r (r.shares - k) gs).left))
        ≡ walked_all b s y (meetings_of (leaving r k rs) (leaving g k gs))
    go (yes e) =
        let z : r.shares - k ≡ 0 = omega arith in
        ap (λ (w : ℕ). walked_all b s y ((filled r w gs).meetings ++ meetings_of rs (leaving g k (filled r w gs).left))) z
        ∙ ap (λ (f : Filled). walked_all b s y (f.meetings ++ meetings_of rs (leaving g k f.left))) (filled_full r gs)
        ∙ ap (λ (l : List Side). walked_all b s y (meetings_of l (leaving g k gs))) (sym (leaving_none r k rs e))
    go (no e) =
        let w : ℕ = r.shares - k in
        ap (λ (l : List Side). walked_all b s y ((filled r w gs).meetings ++ meetings_of rs l)) (leaving_none g k (filled r w gs).left (omega arith) ∙ sym (filled_left r k w gs))
        ∙ sym (filled_met b s y r k w gs (meetings_of rs (filled (less r k) w gs).left))
        ∙ ap (λ (l : List Side). walked_all b s y (meetings_of (less r k ∷ rs) l)) (sym (leaving_none g k gs (omega arith)))
        ∙ ap (λ (l : List Side). walked_all b s y (meetings_of l (leaving g k gs))) (sym (leaving_some r k rs (omega arith)))

-- nobody receives, or nobody gives: no meeting
pub none_give : (rs : List Side) → meetings_of rs [] ≡ []
unfolding meetings_of filled
none_give [] = refl
none_give (r ∷ rs) = none_give rs

pub none_receive : (gs : List Side) → meetings_of [] gs ≡ []
unfolding meetings_of
none_receive gs = refl
