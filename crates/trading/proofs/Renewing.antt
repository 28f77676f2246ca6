-- A trade in the place of each of its number, one row after the other.
use Rattle.std.proofs.Common.{◌≡◌, ℕ, ◌+◌, ◌<◌, ◌≤◌, ◌++◌, List, cond, eqb, length, get_or, take, drop, map, set, sym, ap, ◌∙◌, arith, take_all, add-zero, length-take-le, eq-eqb, ne_eqb}
use Rattle.std.proofs.lemmas.List.{length-map, get_or-append-add, get_or-drop, drop_all, append-nil}
use Rattle.rules.specs.Book.{no_trade}
use Rattle.rules.specs.declared.Trade.{Trade}
use Rattle.trading.specs.Tables.{renewed_more}

abbrev pub renewed : ℕ → Trade → Trade → Trade
renewed n t u = cond (eqb u.number n) t u

module _ (n : ℕ) (t : Trade) (l : List Trade) where
  -- the first i rows are renewed, the others as they were
  abbrev pub RenewedTo : List Trade → ℕ → Type 0
  RenewedTo rows i = rows ≡ map (renewed n t) (take i l) ++ drop i l

  pub renewed_all : (rows : List Trade) (i : ℕ) → length l ≤ i → RenewedTo rows i → rows ≡ map (renewed n t) l
  renewed_all rows i h e = e ∙ rw (take_all i l h, drop_all i l h) (append-nil (map (renewed n t) l))

  module _ (rows : List Trade) (i : ℕ) (h : i < length l) (e : RenewedTo rows i) where
    as_was : get_or rows i no_trade ≡ get_or l i no_trade
    as_was =
        let front = map (renewed n t) (take i l) in
        let long : length front + 0 ≡ i = omega (arith, length-map (take i l) (renewed n t), length-take-le i l (omega arith)) in
        ap (λ (r : List Trade). get_or r i no_trade) e
        ∙ ap (λ (j : ℕ). get_or (front ++ drop i l) j no_trade) (sym long)
        ∙ get_or-append-add front (drop i l) 0 no_trade
        ∙ get_or-drop i l 0 no_trade
        ∙ ap (λ (j : ℕ). get_or l j no_trade) (add-zero i)

    -- the row at i is of the number, or it is not
    pub put_at : (get_or rows i no_trade).number ≡ n → RenewedTo (set rows i t) (i + 1)
    put_at f = renewed_more (renewed n t) l rows i no_trade t h e (rw (← as_was, eq-eqb _ _ f))

    pub kept_at : ((get_or rows i no_trade).number ≡ n → ⊥) → RenewedTo (set rows i (get_or rows i no_trade)) (i + 1)
    kept_at f = renewed_more (renewed n t) l rows i no_trade (get_or rows i no_trade) h e (rw (← as_was, ne_eqb _ _ f))
