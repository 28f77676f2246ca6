-- The holdings of a run: each security's total stays, holdings of other securities stay, all stay within bounds, and an unlisted security still
-- has no records and no holdings.
use Rattle.std.specs.Prelude.{◌≡◌, ◌≢◌, false, eqb, set}
use Rattle.std.proofs.Math.Path.{refl, ap}
use Rattle.std.proofs.Common.{◌∙◌, arith, get_or-set_other}
use Rattle.std.proofs.Math.Bool.{Bool, true, not}
use mathlib.Core.List.{List, []}
use Prim.Native.Nat.{ℕ, ◌+◌, ◌*◌, ◌-◌, ◌<◌}
use Rattle.std.proofs.Math.Dec.{leb}
use Rattle.std.proofs.Math.ListN.{length, get_or}
use Rattle.rules.specs.Words.{all}
use Rattle.rules.specs.Bounds.{accounts, securities, no_currency, most_held}
use Rattle.rules.specs.Book.{account_of, security_of, open_of, currency_of, unlisted, holding_at, held_by, with_open, with_holdings, with_charges}
use Rattle.rules.specs.Sound.{by_account, totals_held, total_held, holdings_fit, holds_listed, unlisted_empty, sound}
use Rattle.rules.specs.Roll.{remains}
use Rattle.rules.specs.Run.{moved, settled}
use Rattle.rules.specs.declared.Position.{Position}
use Rattle.rules.specs.declared.Book.{Book}
use Rattle.laws.specs.Cases.{both_hold, and_hold}
use Rattle.laws.specs.All.{all_by_index, all_set}
use Rattle.laws.specs.Walks.{all_at}
use Rattle.laws.specs.Keeping.{keep_all}
use Rattle.laws.specs.Tables.{group, groups_length, groups_set}
use Rattle.laws.specs.Totals.{totals_held_length}
use Rattle.laws.specs.MovedTotals.{held_moved, held_within}
use Rattle.laws.specs.Numbers.{account_below}
use Rattle.laws.specs.Rows.{row}
use Rattle.laws.specs.Taking.{without_security}
use Rattle.laws.specs.Walk.{Walking, met_at, walked}
use Rattle.laws.specs.SoundParts.{sound_parts}
use Rattle.laws.specs.Shaped.{Shaped}
use Rattle.laws.specs.KeptHoldings.{listed_set}
use Rattle.laws.specs.RunKeeps.{Meets, Steady, walk_keeps}
use Rattle.laws.specs.RunLeaves.{closed, closed_open, closed_holdings, room, settled_is, end_steady, end_pass}

-- ── places ──

other_place : (a u c s : ℕ) → u < securities → s < securities → u ≢ s → holding_at a u ≢ holding_at c s
unfolding holding_at
other_place a u c s hu hs ne e = ne (omega arith)

moved_past : (hs : List ℕ) (i j k m : ℕ) → m ≢ i → m ≢ j → get_or (moved hs i j k) m 0 ≡ get_or hs m 0
unfolding moved
moved_past hs i j k m ni nj =
    let less : List ℕ = set hs i (get_or hs i 0 - k) in
    get_or-set_other less j m (get_or less j 0 + k) 0 nj ∙ get_or-set_other hs i m (get_or hs i 0 - k) 0 ni

-- ── holdings of a listed security may be any ──

-- the accounts' holdings, where unlisted securities have none
abbrev AllListed : List ℕ → List ℕ → Type 0
AllListed cs hs = all (holds_listed cs) (by_account securities accounts hs) ≡ true

account_set : (cs hs : List ℕ) (a s v : ℕ) → a < accounts → s < securities → eqb (get_or cs s 0) no_currency ≡ false
    → AllListed cs hs → AllListed cs (set hs (holding_at a s) v)
unfolding holding_at
account_set cs hs a s v ha hs₃ e h =
    let rows : List (List ℕ) = by_account securities accounts hs in
    let r : List ℕ = group securities accounts hs a in
    ap (all (holds_listed cs)) (groups_set securities accounts hs a s v hs₃)
    ∙ all_set (holds_listed cs) rows a (set r s v) h
    (listed_set cs r s v e (all_at (holds_listed cs) rows a [] h (omega (arith, groups_length securities accounts hs))))

account_moved : (cs hs : List ℕ) (a c s k : ℕ) → a < accounts → c < accounts → s < securities → eqb (get_or cs s 0) no_currency ≡ false
    → AllListed cs hs → AllListed cs (moved hs (holding_at a s) (holding_at c s) k)
unfolding moved
account_moved cs hs a c s k ha hc hs₃ e h = account_set cs _ c s _ hc hs₃ e (account_set cs hs a s _ ha hs₃ e h)

-- ── the run ──

module _ (b : Book) (s : ℕ) (hs : s < 32) (ok : sound b ≡ true) (shape : Shaped b) where
  abbrev x₁ : Walking
  x₁ = walked b s

  pub settled_holdings : (settled b s).holdings ≡ x₁.holdings
  settled_holdings = ap (λ (k : Book). k.holdings) (settled_is b s hs ok shape) ∙ closed_holdings b x₁

  -- each security's total stays
  pub met_total : (u : ℕ) → u < securities → (x : Walking) (g r k : ℕ) → Steady b x → Meets b s x g r k → total_held x.holdings u ≡ total_held b.holdings u
      → total_held (met_at b s x g r k).holdings u ≡ total_held b.holdings u
  unfolding met_at
  met_total u hu x g r k c m e =
      held_moved x.holdings (c.wide ∙ shape.holdings) s (account_of (row x.records g)) (account_of (row x.records r)) k
      hs (account_below (row x.records g)) (account_below (row x.records r)) m.backed u hu
      ∙ e

  pub run_total : (u : ℕ) → u < securities → total_held (settled b s).holdings u ≡ total_held b.holdings u
  run_total u hu =
      ap (λ (l : List ℕ). total_held l u) settled_holdings
      ∙ walk_keeps b s (room b s hs ok shape) (λ x. total_held x.holdings u ≡ total_held b.holdings u) (met_total u hu) refl

  -- holdings of other securities stay
  met_other : (a u : ℕ) → u < securities → u ≢ s → (x : Walking) (g r k : ℕ) → Steady b x → Meets b s x g r k
      → get_or x.holdings (holding_at a u) 0 ≡ held_by b a u → get_or (met_at b s x g r k).holdings (holding_at a u) 0 ≡ held_by b a u
  unfolding met_at
  met_other a u hu ne x g r k c m e =
      moved_past x.holdings _ _ k (holding_at a u) (other_place a u (account_of (row x.records g)) s hu hs ne)
      (other_place a u (account_of (row x.records r)) s hu hs ne)
      ∙ e

  pub run_others_held : (a u : ℕ) → u < securities → u ≢ s → held_by (settled b s) a u ≡ held_by b a u
  unfolding held_by
  run_others_held a u hu ne =
      ap (λ (l : List ℕ). get_or l (holding_at a u) 0) settled_holdings
      ∙ walk_keeps b s (room b s hs ok shape) (λ x. get_or x.holdings (holding_at a u) 0 ≡ held_by b a u) (met_other a u hu ne) refl

  -- holdings and totals stay within bounds
  pub run_holdings : holdings_fit (settled b s) ≡ true
  unfolding holdings_fit total_held
  run_holdings =
      let old = (both_hold (all (λ h. leb h most_held) b.holdings) (all (λ t. leb t most_held) (totals_held b.holdings)) (sound_parts b ok).holdings).1 in
      let new : List ℕ = (settled b s).holdings in
      let wide : length new ≡ accounts * securities = ap length settled_holdings ∙ (end_steady b s hs ok shape).wide ∙ shape.holdings in
      let within : all (λ t. leb t most_held) (totals_held new) ≡ true =
      all_by_index (λ t. leb t most_held) (totals_held new) 0
      (λ i h. ap (λ (t : ℕ). leb t most_held) (run_total i (omega (arith, totals_held_length new wide)))
      ∙ all_at (λ t. leb t most_held) (totals_held b.holdings) i 0 old (omega (arith, totals_held_length new wide, totals_held_length b.holdings shape.holdings))) in
      and_hold (held_within new wide most_held within) within

  -- an unlisted security still has no records and no holdings
  module _ (listed : unlisted b s ≡ false) where
    met_listed : (x : Walking) (g r k : ℕ) → Steady b x → Meets b s x g r k → AllListed b.currency x.holdings
        → AllListed b.currency (met_at b s x g r k).holdings
    unfolding met_at unlisted currency_of
    met_listed x g r k c m e =
        account_moved b.currency x.holdings _ _ s k (account_below (row x.records g)) (account_below (row x.records r)) hs listed e

    closed_listed : unlisted_empty (closed b x₁) ≡ true
    unfolding unlisted_empty unlisted currency_of with_open with_holdings with_charges
    closed_listed =
        let t : Position → Bool = λ p. not (unlisted b (security_of p)) in
        let old = both_hold (all t (open_of b)) (all (holds_listed b.currency) (by_account securities accounts b.holdings)) (sound_parts b ok).listed in
        and_hold
        (ap (all (λ p. not (unlisted (closed b x₁) (security_of p)))) (closed_open b x₁)
        ∙ keep_all (remains b.day) t x₁.records (end_pass b s hs ok shape t (λ p k h e. rw (without_security p k) e) old.0))
        (walk_keeps b s (room b s hs ok shape) (λ x. AllListed b.currency x.holdings) met_listed old.1)

    pub run_listed : unlisted_empty (settled b s) ≡ true
    run_listed = ap unlisted_empty (settled_is b s hs ok shape) ∙ closed_listed
