-- The records of a run: few, of fitting sizes, none without shares and money, due as before, and none due at 0 shares; unused room is zero.
use Rattle.std.specs.Prelude.{◌≡◌, refl, true, false, not, ◌&&◌, ◌||◌, ℕ, zero, suc, ◌+◌, ◌-◌, ◌<◌, ◌≤◌, nat_abs}
use Rattle.std.proofs.Math.Path.{ap}
use Rattle.std.proofs.Common.{◌∙◌, leb-true, le-leb}
use Rattle.std.proofs.Math.Bool.{Bool}
use mathlib.Core.List.{List}
use native.Mathlib.Omega.{arith}
use Rattle.std.proofs.Math.Dec.{leb}
use Rattle.std.proofs.Math.ListN.{length, replicate, length-take}
use Rattle.std.proofs.Math.Seq.{drop-append_seam}
use Rattle.std.proofs.lemmas.Bool.{not-true}
use Rattle.units.specs.Units.{most_shares, most_mils}
use Rattle.rules.specs.Words.{all, keep}
use Rattle.rules.specs.Bounds.{most_records}
use Rattle.rules.specs.Book.{quantity_of, money_of, is_zero, due_of, open_of, no_position, with_open}
use Rattle.rules.specs.Sound.{ascends, is_blank, records_fit, is_position, sizes_fit, due_fits, is_due, due_nonzero, sound}
use Rattle.rules.specs.Parts.{without}
use Rattle.rules.specs.Roll.{remains}
use Rattle.rules.specs.Run.{settled}
use Rattle.rules.specs.declared.Position.{Position}
use Rattle.rules.specs.declared.Book.{Book}
use Rattle.laws.specs.Cases.{by_test, true_false, both_hold, and_hold, or_right}
use Rattle.laws.specs.All.{all_so, all_and}
use Rattle.laws.specs.Keeping.{keep_length, keep_passes, keep_all}
use Rattle.laws.specs.Order.{keep_ascends}
use Rattle.laws.specs.Taking.{without_due, without_size, without_sizes}
use Rattle.laws.specs.Walk.{Walking, walked}
use Rattle.laws.specs.SoundParts.{sound_parts}
use Rattle.laws.specs.SoundRun.{sound_runnable}
use Rattle.laws.specs.Shaped.{Shaped}
use Rattle.laws.specs.RunKeeps.{Loses, steady_long}
use Rattle.laws.specs.RunLeaves.{closed, closed_open, settled_is, settled_open, end_steady, end_ascends, end_pass}

-- ── sizes ──

-- of fitting sizes, and due or not without shares and money
abbrev fitting : ℕ → Position → Bool
fitting day p = leb (nat_abs (quantity_of p)) most_shares && (leb (nat_abs (money_of p)) most_mils && (is_due day p || is_position p))

fit_fitting : (day : ℕ) (p : Position) → sizes_fit p ≡ true → fitting day p ≡ true
unfolding sizes_fit
fit_fitting day p e =
    let u = both_hold (leb (nat_abs (quantity_of p)) most_shares) (leb (nat_abs (money_of p)) most_mils && is_position p) e in
    let v = both_hold (leb (nat_abs (money_of p)) most_mils) (is_position p) u.1 in
    and_hold u.0 (and_hold v.0 (or_right (is_due day p) v.1))

rest_due : (b : Book) (s : ℕ) (p : Position) (k : ℕ) → Loses b s p k → is_due b.day (without p k) ≡ true
unfolding is_due
rest_due b s p k h = ap (λ (n : ℕ). leb n b.day) (without_due p k) ∙ h.due

fitting_rest : (b : Book) (s : ℕ) (p : Position) (k : ℕ) → Loses b s p k → fitting b.day p ≡ true → fitting b.day (without p k) ≡ true
fitting_rest b s p k h e =
    let u = both_hold (leb (nat_abs (quantity_of p)) most_shares) (leb (nat_abs (money_of p)) most_mils && (is_due b.day p || is_position p)) e in
    let v = both_hold (leb (nat_abs (money_of p)) most_mils) (is_due b.day p || is_position p) u.1 in
    and_hold (le-leb (nat_abs (quantity_of (without p k))) most_shares (omega (arith, without_size p k, leb-true (nat_abs (quantity_of p)) most_shares u.0)))
    (and_hold (le-leb (nat_abs (money_of (without p k))) most_mils (omega (arith, without_sizes p k h.within, leb-true (nat_abs (money_of p)) most_mils v.0)))
    (rw (rest_due b s p k h)))

-- a due record that remains has shares
pub remains_some : (day : ℕ) (p : Position) → remains day p ≡ true → is_due day p ≡ true → is_zero (quantity_of p) ≡ false
unfolding remains due_nonzero
remains_some day p e f =
    by_test (is_zero (quantity_of p)) (λ z. true_false (and_hold f z) (not-true (is_due day p && is_zero (quantity_of p)) e)) (λ z. z)

position_yes : (x y : Bool) → x ≡ false → not (x && y) ≡ true
position_yes x y e = rw e

fitting_fit : (day : ℕ) (p : Position) → fitting day p && remains day p ≡ true → sizes_fit p ≡ true
unfolding sizes_fit is_position
fitting_fit day p e =
    let w = both_hold (fitting day p) (remains day p) e in
    let u = both_hold (leb (nat_abs (quantity_of p)) most_shares) (leb (nat_abs (money_of p)) most_mils && (is_due day p || is_position p)) w.0 in
    let v = both_hold (leb (nat_abs (money_of p)) most_mils) (is_due day p || is_position p) u.1 in
    and_hold u.0
    (and_hold v.0
    (by_test (is_due day p)
    (λ d. position_yes (is_zero (quantity_of p)) (is_zero (money_of p)) (remains_some day p w.1 d))
    (λ d. rw d at v.1)))

-- ── room ──

-- the records that a run leaves
abbrev pub left : Book → ℕ → List Position
left b s = keep (remains b.day) (walked b s).records

blank_all : (n : ℕ) → all is_blank (replicate n no_position) ≡ true
unfolding all is_blank is_zero
blank_all zero = refl
blank_all (suc n) = blank_all n

module _ (b : Book) (s : ℕ) (hs : s < 32) (ok : sound b ≡ true) (shape : Shaped b) where
  abbrev x₁ : Walking
  x₁ = walked b s

  pub left_few : length (left b s) ≤ most_records
  unfolding open_of
  left_few =
      omega (
        arith,
        keep_length (remains b.day) x₁.records,
        steady_long b x₁ (end_steady b s hs ok shape),
        length-take b.records b.positions,
        (sound_runnable b ok).few,
      )

  -- at most 1,024, ascending, and zeros behind them
  closed_records : records_fit (closed b x₁) ≡ true
  unfolding records_fit with_open
  closed_records =
      let blanks : List Position = replicate (most_records - length (left b s)) no_position in
      and_hold (le-leb (length (left b s)) most_records left_few)
      (and_hold (ap ascends (closed_open b x₁) ∙ keep_ascends (remains b.day) x₁.records (end_ascends b s hs ok shape))
      (ap (all is_blank) (drop-append_seam (left b s) blanks) ∙ blank_all (most_records - length (left b s))))

  pub run_records : records_fit (settled b s) ≡ true
  run_records = ap records_fit (settled_is b s hs ok shape) ∙ closed_records

  pub run_sizes : all sizes_fit (open_of (settled b s)) ≡ true
  run_sizes =
      let before = all_so sizes_fit (fitting b.day) (open_of b) (fit_fitting b.day) (sound_parts b ok).sizes in
      let at_end = end_pass b s hs ok shape (fitting b.day) (fitting_rest b s) before in
      ap (all sizes_fit) (settled_open b s hs ok shape)
      ∙ all_so (λ p. fitting b.day p && remains b.day p) sizes_fit (left b s) (fitting_fit b.day)
      (all_and (fitting b.day) (remains b.day) (left b s) (keep_all (remains b.day) (fitting b.day) x₁.records at_end)
      (keep_passes (remains b.day) x₁.records))

  -- no due day beyond day + 1
  pub run_due_days : all (due_fits b.day) (open_of (settled b s)) ≡ true
  unfolding due_fits
  run_due_days =
      let t : Position → Bool = λ p. leb (due_of p) (b.day + 1) in
      ap (all t) (settled_open b s hs ok shape)
      ∙ keep_all (remains b.day) t x₁.records
      (end_pass b s hs ok shape t (λ p k h e. ap (λ (n : ℕ). leb n (b.day + 1)) (without_due p k) ∙ e) (sound_parts b ok).due_days)

  -- what is due has shares
  pub run_due_nonzero : all (due_nonzero b.day) (open_of (settled b s)) ≡ true
  unfolding remains
  run_due_nonzero = ap (all (due_nonzero b.day)) (settled_open b s hs ok shape) ∙ keep_passes (remains b.day) x₁.records
