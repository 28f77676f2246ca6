-- The signs of a run: a record that has shares left has the sign that it had, so an account's due records in one security still have one sign.
use Rattle.std.specs.Prelude.{◌≡◌, refl, Bool, true, false, ◌&&◌, ℕ, zero, suc, ◌<◌, length, get_or, set, nat_abs}
use Rattle.std.proofs.Common.{sym, ◌∙◌, subst, suc-le-suc, zero-le, arith, length-set, get_or-set_same, get_or-set_other, ne_eqb}
use Rattle.std.proofs.Math.Path.{ap}
use mathlib.Core.List.{List, [], ◌∷◌, map}
use Rattle.std.proofs.Math.Decide.{ℕ_discrete}
use Rattle.std.proofs.Math.ListN.{get_or-map}
use Rattle.std.proofs.lemmas.Bool.{eqb-false}
use Rattle.integers.specs.Signs.{is_negative}
use Rattle.rules.specs.Words.{all, keep}
use Rattle.rules.specs.Book.{quantity_of, is_zero, due_of, account_of, security_of, open_of, no_position}
use Rattle.rules.specs.Sound.{is_due, same_pair, agree, one_sign, sound}
use Rattle.rules.specs.Parts.{without}
use Rattle.rules.specs.Roll.{remains}
use Rattle.rules.specs.Run.{settled}
use Rattle.rules.specs.declared.Position.{Position}
use Rattle.rules.specs.declared.Book.{Book}
use Rattle.laws.specs.Cases.{by_test, both_hold, and_hold}
use Rattle.laws.specs.Keeping.{keep_none, keep_yes, keep_no, keep_both}
use Rattle.laws.specs.Rows.{row, without_both}
use Rattle.laws.specs.Taking.{without_sign, none_left}
use Rattle.laws.specs.Walk.{Walking, met_at, walked}
use Rattle.laws.specs.WalkIsRun.{kept_at}
use Rattle.laws.specs.SoundParts.{sound_parts}
use Rattle.laws.specs.Shaped.{Shaped}
use Rattle.laws.specs.RunKeeps.{Loses, Meets, Steady, steady_long, walk_keeps}
use Rattle.laws.specs.RunLeaves.{room, settled_open, end_steady}
use Rattle.laws.specs.RunRecords.{remains_some}

-- ── row by row ──

-- what holds of every row, and of one that replaces row i
row_set : (Q : ℕ → Position → Type 0) (ps : List Position) (i : ℕ) (p : Position) → i < length ps → ((j : ℕ) → Q j (row ps j)) → Q i p
    → (j : ℕ) → Q j (row (set ps i p) j)
row_set Q ps i p h q new j = go (ℕ_discrete j i)
  where
    go : Dec (j ≡ i) → Q j (row (set ps i p) j)
    go (yes e) = subst (λ (m : ℕ). Q m (row (set ps i p) m)) (sym e) (subst (Q i) (sym (get_or-set_same ps i p no_position h)) new)
    go (no e) = subst (Q j) (sym (get_or-set_other ps i j p no_position e)) (q j)

row_both : (Q : ℕ → Position → Type 0) (ps : List Position) (g r k : ℕ) → g < length ps → r < length ps → ((j : ℕ) → Q j (row ps j))
    → Q g (without (row ps g) k) → Q r (without (row ps r) k) → (j : ℕ) → Q j (row (without_both ps g r k) j)
unfolding without_both
row_both Q ps g r k hg hr q new-g new-r =
    let p : Position = without (row ps g) k in
    row_set Q (set ps g p) r (without (row ps r) k) (omega (arith, length-set ps g p)) (row_set Q ps g p hg q new-g) new-r

-- kept records pass what each row passes that is kept
kept_by : (t u : Position → Bool) (l : List Position) → ((i : ℕ) → i < length l → u (row l i) ≡ true → t (row l i) ≡ true) → all t (keep u l) ≡ true
unfolding all
kept_by t u [] h = ap (all t) (keep_none u)
kept_by t u (p ∷ l) h =
    let ih = kept_by t u l (λ i k. h (suc i) (suc-le-suc k)) in
    by_test (u p) (λ e. ap (all t) (keep_yes u p l e) ∙ and_hold (h zero (suc-le-suc zero-le) e) ih) (λ e. ap (all t) (keep_no u p l e) ∙ ih)

-- ── signs ──

-- a record with shares left has its sign
sign_left : (b : Book) (s : ℕ) (p : Position) (k : ℕ) → Loses b s p k → is_zero (quantity_of (without p k)) ≡ false
    → (is_zero (quantity_of p) ≡ false) × (is_negative (quantity_of (without p k)) ≡ is_negative (quantity_of p))
unfolding is_zero
sign_left b s p k h e =
    let ne : k ≡ nat_abs (quantity_of p) → ⊥ = eqb-false k (nat_abs (quantity_of p)) (sym (none_left p k h.within) ∙ e) in
    (ne_eqb (nat_abs (quantity_of p)) 0 (λ z. omega (arith, h.some, h.within)), without_sign p k (omega (arith, h.within)))

same_number : (ps qs : List Position) (i : ℕ) → map (λ p. p.number) qs ≡ map (λ p. p.number) ps → (row qs i).number ≡ (row ps i).number
same_number ps qs i e =
    sym (get_or-map (λ (p : Position). p.number) qs i no_position)
    ∙ ap (λ (l : List ℕ). get_or l i 0) e
    ∙ get_or-map (λ (p : Position). p.number) ps i no_position

same_due : (day : ℕ) (p q : Position) → q.number ≡ p.number → is_due day q ≡ is_due day p
unfolding is_due due_of
same_due day p q e = rw e

-- agreement reads numbers and signs
same_agree : (p q p' q' : Position) → p'.number ≡ p.number → q'.number ≡ q.number → is_negative (quantity_of p') ≡ is_negative (quantity_of p)
    → is_negative (quantity_of q') ≡ is_negative (quantity_of q) → agree p q ≡ true → agree p' q' ≡ true
unfolding agree same_pair account_of security_of
same_agree p q p' q' e f g h a = rw (e, f, g, h) a

module _ (b : Book) (s : ℕ) (hs : s < 32) (ok : sound b ≡ true) (shape : Shaped b) where
  abbrev x₁ : Walking
  x₁ = walked b s

  -- a row of the walk has the sign of the book's row, or no shares
  abbrev Signed : ℕ → Position → Type 0
  Signed i p = is_zero (quantity_of p) ≡ false → is_negative (quantity_of p) ≡ is_negative (quantity_of (row (open_of b) i))

  met_signs : (x : Walking) (g r k : ℕ) → Steady b x → Meets b s x g r k → ((i : ℕ) → Signed i (row x.records i)) → (i : ℕ) → Signed i (row (met_at b s x g r k).records i)
  unfolding met_at
  met_signs x g r k c m q =
      row_both Signed x.records g r k m.giver_row m.taker_row q
      (λ e. let w = sign_left b s (row x.records g) k m.giver e in w.1 ∙ q g w.0)
      (λ e. let w = sign_left b s (row x.records r) k m.taker e in w.1 ∙ q r w.0)

  end_signs : (i : ℕ) → Signed i (row x₁.records i)
  end_signs = walk_keeps b s (room b s hs ok shape) (λ x. (i : ℕ) → Signed i (row x.records i)) met_signs (λ i e. refl)

  -- due, and with shares
  abbrev due : Position → Bool
  due p = remains b.day p && is_due b.day p

  end_agree : (i j : ℕ) → i < length x₁.records → j < length x₁.records → due (row x₁.records i) ≡ true → due (row x₁.records j) ≡ true
      → agree (row x₁.records i) (row x₁.records j) ≡ true
  unfolding one_sign
  end_agree i j hi hj di dj =
      let st = end_steady b s hs ok shape in
      let long = steady_long b x₁ st in
      let p : Position = row (open_of b) i in
      let q : Position = row (open_of b) j in
      let p₁ : Position = row x₁.records i in
      let q₁ : Position = row x₁.records j in
      let ei = same_number (open_of b) x₁.records i st.numbers in
      let ej = same_number (open_of b) x₁.records j st.numbers in
      let ui = both_hold (remains b.day p₁) (is_due b.day p₁) di in
      let uj = both_hold (remains b.day q₁) (is_due b.day q₁) dj in
      let all-p = kept_at (λ p. all (agree p) (keep (is_due b.day) (open_of b))) (is_due b.day) (open_of b) i (sound_parts b ok).signs (omega arith)
      (sym (same_due b.day p p₁ ei) ∙ ui.1) in
      let a = kept_at (agree p) (is_due b.day) (open_of b) j all-p (omega arith) (sym (same_due b.day q q₁ ej) ∙ uj.1) in
      same_agree p q p₁ q₁ ei ej (end_signs i (remains_some b.day p₁ ui.0 ui.1)) (end_signs j (remains_some b.day q₁ uj.0 uj.1)) a

  pub run_signs : one_sign (keep (is_due b.day) (open_of (settled b s))) ≡ true
  unfolding one_sign
  run_signs =
      let l : List Position = keep due x₁.records in
      ap (λ (m : List Position). one_sign (keep (is_due b.day) m)) (settled_open b s hs ok shape)
      ∙ ap one_sign (keep_both (is_due b.day) (remains b.day) x₁.records)
      ∙ kept_by (λ p. all (agree p) l) due x₁.records
      (λ i hi di. kept_by (agree (row x₁.records i)) due x₁.records (λ j hj dj. end_agree i j hi hj di dj))
