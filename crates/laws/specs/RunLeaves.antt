-- The book that a run leaves: the walk's holdings and charges, and its records but for those that are due and at 0 shares. They ascend, and
-- each passes what the book's records pass and a record that loses shares still passes.
use Rattle.std.specs.Prelude.{◌≡◌, refl, Bool, true, false, ◌&&◌, List, ℕ, ◌-◌, ◌<◌, ◌≤◌, length, replicate, pos}
use Rattle.std.proofs.Common.{sym, ◌∙◌, arith}
use Rattle.std.proofs.Math.Path.{ap}
use Rattle.std.proofs.Math.Seq.{take-append_seam}
use Rattle.std.proofs.lemmas.Bool.{not-false}
use Rattle.rules.specs.Words.{all, keep}
use Rattle.rules.specs.Bounds.{most_records}
use Rattle.rules.specs.Book.{quantity_of, open_of, is_zero, no_position, with_open, with_holdings, with_charges}
use Rattle.rules.specs.Sound.{ascends, is_due, due_nonzero, sound}
use Rattle.rules.specs.Parts.{without}
use Rattle.rules.specs.Roll.{remains}
use Rattle.rules.specs.Run.{shares_moved, settled}
use Rattle.rules.specs.declared.Position.{Position}
use Rattle.rules.specs.declared.Book.{Book}
use Rattle.laws.specs.Cases.{both_hold, is_zero_lem}
use Rattle.laws.specs.All.{all_set}
use Rattle.laws.specs.Walks.{all_at}
use Rattle.laws.specs.Order.{same_numbers_ascend}
use Rattle.laws.specs.Rows.{row, without_both}
use Rattle.laws.specs.Walk.{Walking, met_at, walked}
use Rattle.laws.specs.WalkIsRun.{ruled}
use Rattle.laws.specs.SoundRun.{sound_runnable, sound_walk}
use Rattle.laws.specs.Shaped.{Shaped}
use Rattle.laws.specs.RunKeeps.{Loses, Meets, Steady, walk_keeps, walk_steady}

-- ── the book that a walk leaves ──

abbrev pub closed : Book → Walking → Book
closed b x = with_open (with_holdings (with_charges b x.charges) x.holdings) (keep (remains b.day) x.records)

pub closed_open : (b : Book) (x : Walking) → open_of (closed b x) ≡ keep (remains b.day) x.records
unfolding open_of with_open
closed_open b x =
    let ps : List Position = keep (remains b.day) x.records in take-append_seam ps (replicate (most_records - length ps) no_position)

pub closed_holdings : (b : Book) (x : Walking) → (closed b x).holdings ≡ x.holdings
unfolding with_open with_holdings
closed_holdings b x = refl

pub closed_charges : (b : Book) (x : Walking) → (closed b x).charges ≡ x.charges
unfolding with_open with_holdings with_charges
closed_charges b x = refl

pub closed_day : (b : Book) (x : Walking) → (closed b x).day ≡ b.day
unfolding with_open with_holdings with_charges
closed_day b x = refl

-- a record that goes is due, and at 0 shares
pub gone : (day : ℕ) (p : Position) → remains day p ≡ false → (is_due day p ≡ true) × (quantity_of p ≡ pos 0)
unfolding remains due_nonzero
gone day p e =
    let h = both_hold (is_due day p) (is_zero (quantity_of p)) (not-false (is_due day p && is_zero (quantity_of p)) e) in
    (h.0, is_zero_lem (quantity_of p) h.1)

-- ── a run of a sound book ──

module _ (b : Book) (s : ℕ) (hs : s < 32) (ok : sound b ≡ true) (shape : Shaped b) where
  -- the walk's end
  abbrev x₁ : Walking
  x₁ = walked b s

  pub room : b.records ≤ length b.positions
  room = omega (arith, (sound_runnable b ok).few, shape.positions)

  pub end_is : x₁ ≡ ruled b s
  end_is = sound_walk b s hs ok shape.holdings shape.positions

  pub end_shares : x₁.shares ≡ shares_moved b s
  end_shares = ap (λ (x : Walking). x.shares) end_is

  pub settled_is : settled b s ≡ closed b x₁
  unfolding settled
  settled_is = ap (closed b) (sym end_is)

  pub settled_open : open_of (settled b s) ≡ keep (remains b.day) x₁.records
  settled_open = ap open_of settled_is ∙ closed_open b x₁

  pub end_steady : Steady b x₁
  end_steady = walk_steady b s room

  -- numbers ascend
  pub end_ascends : ascends x₁.records ≡ true
  end_ascends = same_numbers_ascend (open_of b) x₁.records end_steady.numbers ∙ (sound_runnable b ok).order

  -- what a record passes that loses shares, every record passes at the end
  module _ (t : Position → Bool) (still : (p : Position) (k : ℕ) → Loses b s p k → t p ≡ true → t (without p k) ≡ true) where
    pub met_pass : (x : Walking) (g r k : ℕ) → Steady b x → Meets b s x g r k → all t x.records ≡ true → all t (met_at b s x g r k).records ≡ true
    unfolding met_at without_both
    met_pass x g r k c m a =
        all_set t _ r (without (row x.records r) k)
        (all_set t x.records g (without (row x.records g) k) a
        (still (row x.records g) k m.giver (all_at t x.records g no_position a m.giver_row)))
        (still (row x.records r) k m.taker (all_at t x.records r no_position a m.taker_row))

    pub end_pass : all t (open_of b) ≡ true → all t x₁.records ≡ true
    end_pass a = walk_keeps b s room (λ x. all t x.records ≡ true) met_pass a
