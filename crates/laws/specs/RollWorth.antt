-- No money is lost in a day roll: for each account and currency, the day's charge with the open money afterwards is the open money before
-- with that of today's nets.
use Rattle.std.specs.Prelude.{◌≡◌, Bool, true, ◌&&◌, ◌||◌, ◌++◌, ℕ, ◌<◌, ℤ, pos, ◌+ℤ◌}
use Rattle.std.proofs.Common.{sym, ◌∙◌, arith}
use Rattle.std.proofs.Math.Path.{ap}
use Rattle.std.proofs.lemmas.Bool.{not-true}
use Rattle.integers.specs.Linear.{zlin}
use Rattle.integers.specs.Sums.{sum_by, sum_by_append}
use Rattle.rules.specs.Words.{all, keep}
use Rattle.rules.specs.Bounds.{accounts, currencies}
use Rattle.rules.specs.Book.{quantity_of, money_of, is_zero, open_of, currency_of, with_open, with_list, with_charges, with_day}
use Rattle.rules.specs.Sound.{is_due, due_nonzero, sound}
use Rattle.rules.specs.Roll.{remains, uncharged, netted, emptied, next_day, offset, rolled}
use Rattle.rules.specs.Calls.{roll, after, answer_sound}
use Rattle.rules.specs.declared.Position.{Position}
use Rattle.rules.specs.declared.Book.{Book}
use Rattle.laws.specs.Cases.{by_test, true_false, both_hold, zero_is, is_zero_lem}
use Rattle.laws.specs.All.{all_so, all_and}
use Rattle.laws.specs.Keeping.{keep_all, keep_passes}
use Rattle.laws.specs.Adding.{sum_by_keep, sum_by_each_in}
use Rattle.laws.specs.Charging.{is_of, worth}
use Rattle.laws.specs.SoundParts.{sound_parts}
use Rattle.laws.specs.Shaped.{Shaped}
use Rattle.laws.specs.Lessened.{Less, lessened_all}
use Rattle.laws.specs.Against.{money_in}
use Rattle.laws.specs.Offsets.{live, live_money, live_all}
use Rattle.laws.specs.DueDays.{parts_whole}
use Rattle.laws.specs.Remaining.{live_sum, left_parts}
use Rattle.laws.specs.OffsetKept.{older_of, newly_of, later_of, Ready, met_of, left_of, offset_open, offset_charges, done, older_due, newly_due, later_next}
use Rattle.laws.specs.StakeKept.{no_charge}
use Rattle.laws.specs.Rolling.{rolling, new_nets, rolling_day, rolling_open, rolling_older, rolling_charges, rolling_ready, may_roll}

-- ── offsetting ──

-- a record with no shares has no money
abbrev clean : Position → Bool
clean p = live p || is_zero (money_of p)

clean_less : (p q : Position) → Less p q → live p ≡ true → clean q ≡ true
clean_less p q h e =
    by_test (is_zero (quantity_of q))
    (λ z. rw z (zero_is (money_of q) (h.clean (λ y. true_false y (not-true (is_zero (quantity_of p)) e)) z)))
    (λ z. rw z)

clean_money : (q : Position) → clean q ≡ true → is_zero (quantity_of q) ≡ true → money_of q ≡ pos 0
clean_money q e z = is_zero_lem (money_of q) (rw z at e)

module _ (b : Book) (r : Ready b) (l : all live (older_of b) ≡ true) (a c : ℕ) (hc : c < currencies) where
  abbrev f : Position → ℤ
  f = money_in b a c

  -- older records that end leave no money
  older_money : sum_by f (keep (remains b.day) (met_of b).older) ≡ sum_by f (met_of b).older
  older_money =
      live_sum b.day f (met_of b).older (older_due b r)
      ∙ sum_by_each_in clean (live_money b a c) f (met_of b).older (lessened_all live clean clean_less (done b r).older l)
      (λ q e. live_all b a c q (clean_money q e))

  left_money : sum_by f (left_of b) ≡ sum_by f (met_of b).older +ℤ (sum_by (live_money b a c) (met_of b).newly +ℤ sum_by f (later_of b))
  unfolding left_of
  left_money =
      let t = remains b.day in
      let os = (met_of b).older in
      let ns = (met_of b).newly in
      let e₁ = ap (sum_by f) (left_parts b.day os ns (later_of b) (older_due b r) (newly_due b r) (later_next b r)) in
      let e₂ = sum_by_append f (keep t os) (keep t ns ++ later_of b) in
      let e₃ = sum_by_append f (keep t ns) (later_of b) in
      let e₄ = live_sum b.day f ns (newly_due b r) in
      e₁ ∙ e₂ ∙ rw (older_money, e₃, e₄)

  table_money : sum_by f (open_of b) ≡ sum_by f (older_of b) +ℤ (sum_by f (newly_of b) +ℤ sum_by f (later_of b))
  table_money =
      let e₁ = ap (sum_by f) (parts_whole b.day (open_of b) r.order) in
      let e₂ = sum_by_append f (older_of b) (newly_of b ++ later_of b) in
      let e₃ = sum_by_append f (newly_of b) (later_of b) in
      sym e₁ ∙ e₂ ∙ ap (λ (z : ℤ). sum_by f (older_of b) +ℤ z) e₃

  -- charge and open money together stay
  pub offset_worth : worth b a c (offset b).charges (open_of (offset b)) ≡ worth b a c b.charges (open_of b)
  offset_worth =
      let e₁ = left_money in
      let e₂ = table_money in
      let e₃ = (done b r).worths a c hc in
      rw (offset_open b, offset_charges b, sum_by_keep money_of (is_of b a c) (left_of b), sum_by_keep money_of (is_of b a c) (open_of b))
      (simp zlin (omega (arith, simp zlin at e₁, simp zlin at e₂, simp zlin at e₃)))

-- ── the roll ──

module _ (k : Book) (ok : sound k ≡ true) (s : Shaped k) (e : answer_sound k roll ≡ 0) (a c : ℕ) (ha : a < accounts) (hc : c < currencies) where
  due_live : all live (keep (is_due k.day) (open_of k)) ≡ true
  unfolding due_nonzero
  due_live =
      let t = is_due k.day in
      all_so (λ p. due_nonzero k.day p && t p) live (keep t (open_of k))
      (λ p h. let x = both_hold (due_nonzero k.day p) (t p) h in rw x.1 at x.0)
      (all_and (due_nonzero k.day) t (keep t (open_of k)) (keep_all t (due_nonzero k.day) (open_of k) (sound_parts k ok).due_nonzero_lem)
      (keep_passes t (open_of k)))

  older_live : all live (older_of (rolling k)) ≡ true
  older_live = rw (rolling_open k, rolling_day k, rolling_older k (sound_parts k ok)) due_live

  rolling_worth : worth (rolling k) a c (rolling k).charges (open_of (rolling k))
      ≡ sum_by money_of (keep (is_of (rolling k) a c) (open_of k ++ new_nets k))
  rolling_worth = rw (rolling_open k, rolling_charges k, no_charge a c ha hc) (simp zlin (omega arith))

  pub roll_worth : worth k a c (after k roll).charges (open_of (after k roll)) ≡ sum_by money_of (keep (is_of k a c) (open_of k ++ new_nets k))
  unfolding after rolled rolling next_day emptied netted uncharged with_day with_list with_open with_charges currency_of
  roll_worth = offset_worth (rolling k) (rolling_ready k (sound_parts k ok) s (may_roll k e).0) older_live a c hc ∙ rolling_worth
