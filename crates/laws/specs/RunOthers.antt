-- What a run leaves alone: records that are not due or of other securities, and charges in other currencies. (Holdings of other securities are
-- in RunHoldings.)
use Rattle.std.specs.Prelude.{◌≡◌, ◌≢◌, Bool, true, false, cond, not, ◌&&◌, ℕ, zero, suc, ◌*◌, ◌<◌, eqb, length, pos, ◌+ℤ◌}
use Rattle.std.proofs.Math.Path.{refl, ap}
use Rattle.std.proofs.Common.{sym, ◌∙◌, le_of_suc-le-suc, arith, get_or-set_other, eq-eqb, ne_eqb}
use mathlib.Core.List.{List, [], ◌∷◌}
use Rattle.std.proofs.Math.ListN.{set, length-set}
use Rattle.std.proofs.Math.IntN.{+ℤ_idr}
use Rattle.units.specs.declared.Mils.{Mils}
use Rattle.rules.specs.Words.{keep}
use Rattle.rules.specs.Bounds.{accounts, currencies}
use Rattle.rules.specs.Book.{account_of, security_of, open_of, currency_of, unlisted, charge_of, no_position}
use Rattle.rules.specs.Sound.{is_due, due_nonzero, sound}
use Rattle.rules.specs.Parts.{part_money, without, charged_to, charged_both}
use Rattle.rules.specs.Roll.{remains}
use Rattle.rules.specs.Run.{settled}
use Rattle.rules.specs.declared.Position.{Position}
use Rattle.rules.specs.declared.Book.{Book}
use Rattle.laws.specs.Cases.{by_test, and_hold}
use Rattle.laws.specs.Keeping.{keep_yes, keep_no, keep_all, keep_whole, keep_swap}
use Rattle.laws.specs.Rows.{row, without_both}
use Rattle.laws.specs.Taking.{without_due, without_security}
use Rattle.laws.specs.Charging.{is_of, charge_in, charged_long, charged_for_lem}
use Rattle.laws.specs.Walk.{Walking, met_at, walked}
use Rattle.laws.specs.SoundParts.{sound_parts}
use Rattle.laws.specs.Shaped.{Shaped}
use Rattle.laws.specs.RunKeeps.{Loses, Meets, Steady, walk_keeps}
use Rattle.laws.specs.RunLeaves.{room, settled_open}
use Rattle.laws.specs.RunMoney.{settled_charges, loses_below}

-- ── one element is replaced that is not kept, by one that is not ──

keep_set : (t : Position → Bool) (l : List Position) (i : ℕ) (a : Position) → i < length l → t (row l i) ≡ false → t a ≡ false → keep t (set l i a) ≡ keep t l
keep_set t [] i a h e f = absurd (omega arith)
keep_set t (x ∷ l) zero a h e f = keep_no t a l f ∙ sym (keep_no t x l e)
keep_set t (x ∷ l) (suc i) a h e f =
    let ih = keep_set t l i a (le_of_suc-le-suc h) e f in
    by_test (t x)
    (λ y. keep_yes t x (set l i a) y ∙ ap (λ (m : List Position). x ∷ m) ih ∙ sym (keep_yes t x l y))
    (λ y. keep_no t x (set l i a) y ∙ ih ∙ sym (keep_no t x l y))

module _ (b : Book) (s : ℕ) (hs : s < 32) (ok : sound b ≡ true) (shape : Shaped b) where
  abbrev x₁ : Walking
  x₁ = walked b s

  -- ── records that are not due, or of other securities ──

  abbrev other : Position → Bool
  other p = not (eqb (security_of p) s && is_due b.day p)

  loses_due : (p : Position) (k : ℕ) → Loses b s p k → other p ≡ false
  loses_due p k h = ap not (and_hold (eq-eqb (security_of p) s h.security) h.due)

  rest_due : (p : Position) (k : ℕ) → other (without p k) ≡ other p
  unfolding is_due
  rest_due p k = rw (without_security p k, without_due p k)

  met_others : (x : Walking) (g r k : ℕ) → Steady b x → Meets b s x g r k → keep other x.records ≡ keep other (open_of b)
      → keep other (met_at b s x g r k).records ≡ keep other (open_of b)
  unfolding met_at without_both
  met_others x g r k c m e =
      let p : Position = row x.records g in
      let q : Position = row x.records r in
      let ps : List Position = set x.records g (without p k) in
      keep_set other ps r (without q k) (omega (arith, length-set x.records g (without p k), m.taker_row))
      (ap other (get_or-set_other x.records g r (without p k) no_position m.apart) ∙ loses_due q k m.taker)
      (rest_due q k ∙ loses_due q k m.taker)
      ∙ keep_set other x.records g (without p k) m.giver_row (loses_due p k m.giver) (rest_due p k ∙ loses_due p k m.giver)
      ∙ e

  pub run_others : keep other (open_of (settled b s)) ≡ keep other (open_of b)
  unfolding remains
  run_others =
      let same : keep other x₁.records ≡ keep other (open_of b) =
      walk_keeps b s (room b s hs ok shape) (λ x. keep other x.records ≡ keep other (open_of b)) met_others refl in
      ap (keep other) (settled_open b s hs ok shape)
      ∙ keep_swap other (remains b.day) x₁.records
      ∙ ap (keep (remains b.day)) same
      ∙ keep_whole (remains b.day) (keep other (open_of b)) (keep_all other (due_nonzero b.day) (open_of b) (sound_parts b ok).due_nonzero_lem)

  -- ── charges in other currencies ──

  module _ (listed : unlisted b s ≡ false) (a c : ℕ) (hc : c < currencies) (ne : c ≢ currency_of b s) where
    not_of : (p : Position) (k : ℕ) → Loses b s p k → is_of b a c p ≡ false
    not_of p k h =
        rw (h.security, ne_eqb (currency_of b s) c (λ e. ne (sym e))) (and_none (eqb (account_of p) a))
      where
        and_none : (x : Bool) → x && false ≡ false
        and_none true = refl
        and_none false = refl

    one_charge : (cs : List Mils) (p : Position) (k : ℕ) → length cs ≡ accounts * currencies → Loses b s p k
        → charge_in (charged_to b cs p (part_money p k)) a c ≡ charge_in cs a c
    one_charge cs p k w h =
        charged_for_lem b a c hc cs p (part_money p k) w (loses_below b s hs ok shape listed p k h)
        ∙ ap (λ (t : Bool). charge_in cs a c +ℤ cond t (part_money p k) (pos 0)) (not_of p k h)
        ∙ +ℤ_idr (charge_in cs a c)

    met_charge : (x : Walking) (g r k : ℕ) → Steady b x → Meets b s x g r k → charge_in x.charges a c ≡ charge_in b.charges a c
        → charge_in (met_at b s x g r k).charges a c ≡ charge_in b.charges a c
    unfolding met_at charged_both
    met_charge x g r k t m e =
        let p : Position = row x.records g in
        let q : Position = row x.records r in
        let w = t.charges ∙ shape.charges in
        one_charge (charged_to b x.charges p (part_money p k)) q k (charged_long b x.charges p (part_money p k) ∙ w) m.taker
        ∙ one_charge x.charges p k w m.giver
        ∙ e

    pub run_others_charged : charge_of (settled b s) a c ≡ charge_of b a c
    unfolding charge_of
    run_others_charged =
        ap (λ (cs : List Mils). charge_in cs a c) (settled_charges b s hs ok shape listed)
        ∙ walk_keeps b s (room b s hs ok shape) (λ x. charge_in x.charges a c ≡ charge_in b.charges a c) met_charge refl
