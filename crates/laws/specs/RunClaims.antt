-- What an account holds of the security and what it has yet to receive, less what it has yet to deliver: a run leaves the sum as it was.
use Rattle.std.specs.Prelude.{◌≡◌, Bool, ◌&&◌, eqb, length, ◌+ℤ◌, ◌-ℤ◌}
use Rattle.std.proofs.Math.Path.{refl, ap}
use Rattle.std.proofs.Common.{sym, ◌∙◌, arith, get_or-set_same, get_or-set_other, eqb-true, eq-eqb}
use Rattle.std.proofs.Math.Bool.{true, false, cond}
use mathlib.Core.List.{List}
use Prim.Native.Nat.{ℕ, ◌+◌, ◌-◌, ◌<◌, ◌≤◌}
use Rattle.std.proofs.Math.ListN.{get_or, set, length-set}
use Rattle.std.proofs.Math.IntN.{ℤ, pos}
use Rattle.std.proofs.lemmas.Bool.{eqb-false}
use Rattle.integers.specs.Linear.{zlin}
use Rattle.integers.specs.Signs.{is_negative, signed, toward_zero_diff}
use Rattle.integers.specs.Sums.{sum_by, sum_by_set}
use Rattle.rules.specs.Words.{keep}
use Rattle.rules.specs.Book.{quantity_of, account_of, security_of, open_of, holding_at, held_by, no_position}
use Rattle.rules.specs.Sound.{sound}
use Rattle.rules.specs.Parts.{without}
use Rattle.rules.specs.Roll.{remains}
use Rattle.rules.specs.Run.{moved, settled}
use Rattle.rules.specs.declared.Position.{Position}
use Rattle.rules.specs.declared.Book.{Book}
use Rattle.laws.specs.Cases.{by_test}
use Rattle.laws.specs.Keeping.{keep_swap}
use Rattle.laws.specs.Adding.{sum_by_keep, sum_by_kept}
use Rattle.laws.specs.Rows.{row, without_both}
use Rattle.laws.specs.Taking.{without_account, without_security}
use Rattle.laws.specs.Walk.{Walking, met_at, walked}
use Rattle.laws.specs.SidesOf.{holding_below, holding_apart}
use Rattle.laws.specs.WalkIsRun.{unwalked}
use Rattle.laws.specs.Shaped.{Shaped}
use Rattle.laws.specs.RunKeeps.{Loses, Meets, Steady, walk_keeps}
use Rattle.laws.specs.RunLeaves.{room, gone, settled_open}
use Rattle.laws.specs.RunHoldings.{settled_holdings}

-- ── an entry that is k more, or less, shows in its account alone ──

module _ (hs : List ℕ) (s a : ℕ) (p : Position) (k : ℕ) (l : holding_at (account_of p) s < length hs) where
  abbrev place : ℕ
  place = holding_at (account_of p) s

  entry_set : (v : ℕ) → get_or (set hs place v) (holding_at a s) 0 ≡ cond (eqb (account_of p) a) v (get_or hs (holding_at a s) 0)
  entry_set v =
      by_test (eqb (account_of p) a)
      (λ e. rw e (ap (λ (c : ℕ). get_or (set hs place v) (holding_at c s) 0) (sym (eqb-true (account_of p) a e)) ∙ get_or-set_same hs place v 0 l))
      (λ e. rw e (get_or-set_other hs place (holding_at a s) v 0 (holding_apart a (account_of p) s (λ z. eqb-false (account_of p) a e (sym z)))))

  entry_less : k ≤ get_or hs place 0
      → pos (get_or (set hs place (get_or hs place 0 - k)) (holding_at a s) 0) ≡ pos (get_or hs (holding_at a s) 0) -ℤ cond (eqb (account_of p) a) (pos k) (pos 0)
  entry_less h =
      let q = entry_set (get_or hs place 0 - k) in
      by_test (eqb (account_of p) a)
      (λ e. let f = rw e at q in
      let same : get_or hs place 0 ≡ get_or hs (holding_at a s) 0 = ap (λ (c : ℕ). get_or hs (holding_at c s) 0) (eqb-true (account_of p) a e) in
      rw (e, f) (simp zlin (omega arith)))
      (λ e. let f = rw e at q in rw (e, f) (simp zlin (omega arith)))

  entry_more : pos (get_or (set hs place (get_or hs place 0 + k)) (holding_at a s) 0) ≡ pos (get_or hs (holding_at a s) 0) +ℤ cond (eqb (account_of p) a) (pos k) (pos 0)
  entry_more =
      let q = entry_set (get_or hs place 0 + k) in
      by_test (eqb (account_of p) a)
      (λ e. let f = rw e at q in
      let same : get_or hs place 0 ≡ get_or hs (holding_at a s) 0 = ap (λ (c : ℕ). get_or hs (holding_at c s) 0) (eqb-true (account_of p) a e) in
      rw (e, f) (simp zlin (omega arith)))
      (λ e. let f = rw e at q in rw (e, f) (simp zlin (omega arith)))

-- ── the open shares of an account ──

-- a record of account a in security s
abbrev pub is_in : ℕ → ℕ → Position → Bool
is_in a s p = eqb (account_of p) a && eqb (security_of p) s

abbrev shares_for : ℕ → ℕ → Position → ℤ
shares_for a s p = cond (is_in a s p) (quantity_of p) (pos 0)

-- k shares less to deliver is k more, k less to receive is k less
rest_shares : (b : Book) (s a : ℕ) (p : Position) (k : ℕ) → Loses b s p k
    → shares_for a s (without p k) ≡ shares_for a s p -ℤ cond (eqb (account_of p) a) (signed (is_negative (quantity_of p)) k) (pos 0)
unfolding without
rest_shares b s a p k h =
    let e : is_in a s (without p k) ≡ eqb (account_of p) a = rw (without_account p k, without_security p k) (of_s (eqb (account_of p) a)) in
    rw (e, of_s (eqb (account_of p) a)) (split (eqb (account_of p) a) _ _ _ (toward_zero_diff (quantity_of p) k h.within))
  where
    and_yes : (x y : Bool) → y ≡ true → x && y ≡ x
    and_yes true y e = e
    and_yes false y e = refl

    of_s : (x : Bool) → x && eqb (security_of p) s ≡ x
    of_s x = and_yes x (eqb (security_of p) s) (eq-eqb (security_of p) s h.security)

    split : (t : Bool) (x y z : ℤ) → x ≡ y -ℤ z → cond t x (pos 0) ≡ cond t y (pos 0) -ℤ cond t z (pos 0)
    split true x y z e = e
    split false x y z e = refl

module _ (b : Book) (s : ℕ) (hs : s < 32) (ok : sound b ≡ true) (shape : Shaped b) (a : ℕ) where
  abbrev x₁ : Walking
  x₁ = walked b s

  -- what the account holds, and its open shares
  abbrev claim : Walking → ℤ
  claim x = pos (get_or x.holdings (holding_at a s) 0) +ℤ sum_by quantity_of (keep (is_in a s) x.records)

  module _ (x : Walking) (g r k : ℕ) (c : Steady b x) (m : Meets b s x g r k) where
    abbrev giver : Position
    giver = row x.records g

    abbrev taker : Position
    taker = row x.records r

    met_holding : pos (get_or (moved x.holdings (holding_at (account_of giver) s) (holding_at (account_of taker) s) k) (holding_at a s) 0)
        ≡ (pos (get_or x.holdings (holding_at a s) 0) -ℤ cond (eqb (account_of giver) a) (pos k) (pos 0)) +ℤ cond (eqb (account_of taker) a) (pos k) (pos 0)
    unfolding moved
    met_holding =
        let wide = c.wide ∙ shape.holdings in
        let v : ℕ = get_or x.holdings (holding_at (account_of giver) s) 0 - k in
        entry_more (set x.holdings (holding_at (account_of giver) s) v) s a taker k
        (omega (arith, holding_below taker s hs, length-set x.holdings (holding_at (account_of giver) s) v))
        ∙ ap (λ (z : ℤ). z +ℤ cond (eqb (account_of taker) a) (pos k) (pos 0))
        (entry_less x.holdings s a giver k (omega (arith, holding_below giver s hs)) m.backed)

    met_open : sum_by quantity_of (keep (is_in a s) (without_both x.records g r k))
        ≡ (sum_by quantity_of (keep (is_in a s) x.records) +ℤ cond (eqb (account_of giver) a) (pos k) (pos 0)) -ℤ cond (eqb (account_of taker) a) (pos k) (pos 0)
    unfolding without_both
    met_open =
        let f : Position → ℤ = shares_for a s in
        let ps : List Position = set x.records g (without giver k) in
        let e₁ = sum_by_set f x.records g (without giver k) no_position m.giver_row in
        let e₂ = rw (get_or-set_other x.records g r (without giver k) no_position m.apart)
        at (sum_by_set f ps r (without taker k) no_position (omega (arith, length-set x.records g (without giver k), m.taker_row))) in
        let e₃ = rw m.gives at (rest_shares b s a giver k m.giver) in
        let e₄ = rw m.receives at (rest_shares b s a taker k m.taker) in
        let e₅ = negated (eqb (account_of giver) a) k in
        rw (sum_by_keep quantity_of (is_in a s) (set ps r (without taker k)), sum_by_keep quantity_of (is_in a s) x.records)
        (simp zlin (omega (arith, simp zlin at e₁, simp zlin at e₂, simp zlin at e₃, simp zlin at e₄, simp zlin at e₅)))
      where
        negated : (t : Bool) (k : ℕ) → cond t (signed true k) (pos 0) ≡ pos 0 -ℤ cond t (pos k) (pos 0)
        negated true k = simp zlin (omega arith)
        negated false k = refl

    met_claim : claim x ≡ claim (unwalked b)
        → claim (met_at b s x g r k) ≡ claim (unwalked b)
    unfolding met_at
    met_claim e =
        let e₁ = met_holding in
        let e₂ = met_open in
        simp zlin (omega (arith, simp zlin at e₁, simp zlin at e₂, simp zlin at e))

  pub run_claim : pos (held_by (settled b s) a s) +ℤ sum_by quantity_of (keep (is_in a s) (open_of (settled b s)))
      ≡ pos (held_by b a s) +ℤ sum_by quantity_of (keep (is_in a s) (open_of b))
  unfolding held_by
  run_claim =
      ap (λ (l : List ℕ). pos (get_or l (holding_at a s) 0) +ℤ sum_by quantity_of (keep (is_in a s) (open_of (settled b s)))) (settled_holdings b s hs ok shape)
      ∙ ap (λ (z : ℤ). pos (get_or x₁.holdings (holding_at a s) 0) +ℤ z)
      (ap (λ (l : List Position). sum_by quantity_of (keep (is_in a s) l)) (settled_open b s hs ok shape)
      ∙ ap (sum_by quantity_of) (keep_swap (is_in a s) (remains b.day) x₁.records)
      ∙ sum_by_kept quantity_of (remains b.day) (keep (is_in a s) x₁.records) (λ p e. (gone b.day p e).1))
      ∙ walk_keeps b s (room b s hs ok shape) (λ x. claim x ≡ claim (unwalked b)) met_claim refl
