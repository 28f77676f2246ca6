-- Today's nets pair by pair: pair i of the 2,048 is account i / 32 and security i % 32.
use Rattle.std.specs.Prelude.{◌≡◌, true, false}
use Rattle.std.proofs.Math.Path.{refl, sym, ap}
use Rattle.std.proofs.Common.{ap₂, ◌∙◌, add-zero, zero-add, suc-add}
use mathlib.Core.List.{List, [], ◌∷◌, ◌++◌, map, append-nil}
use Prim.Native.Nat.{ℕ, zero, suc, ◌+◌, ◌-◌, ◌*◌, ◌/◌, ◌%◌, ◌<◌, ◌≤◌}
use native.Mathlib.Omega.{arith}
use Rattle.std.proofs.Math.ListN.{length, length-append}
use borrow.Table.Elements.{map_app}
use Rattle.rules.specs.Words.{keep, each, from}
use Rattle.rules.specs.Bounds.{accounts, every_account, every_security}
use Rattle.rules.specs.Sound.{is_position}
use Rattle.rules.specs.Nets.{net_of, trades_of, nets}
use Rattle.rules.specs.declared.Position.{Position}
use Rattle.rules.specs.declared.Trade.{Trade}
use Rattle.laws.specs.Keeping.{keep_append, keep_none, keep_yes, keep_no, each_keep}
use Rattle.laws.specs.NetLaws.{net_of_own}

from_split : (i m n : ℕ) → from i (m + n) ≡ from i m ++ from (i + m) n
unfolding from
from_split i zero n = rw (add-zero i, zero-add n)
from_split i (suc m) n = let e : i + suc m ≡ suc i + m = omega arith in rw (e, suc-add m n) (ap (λ (l : List ℕ). i ∷ l) (from_split (suc i) m n))

from_more : (i : ℕ) → from 0 (i + 1) ≡ from 0 i ++ (i ∷ [])
unfolding from
from_more i = from_split 0 i 1 ∙ ap (λ (j : ℕ). from 0 i ++ (j ∷ [])) (zero-add i)

module _ (due : ℕ) (ts : List Trade) where
  abbrev pub pair_net : ℕ → Position
  pair_net i = net_of due ts (i / 32) (i % 32)

  -- the nets of the first n pairs
  unfoldable pub nets_to : ℕ → List Position
  nets_to n = keep is_position (map pair_net (from 0 n))

  pub nets_to_none : nets_to 0 ≡ []
  unfolding nets_to from
  nets_to_none = keep_none is_position

  nets_to_next : (i : ℕ) → nets_to (i + 1) ≡ nets_to i ++ keep is_position (pair_net i ∷ [])
  unfolding nets_to
  nets_to_next i =
      ap (λ (l : List ℕ). keep is_position (map pair_net l)) (from_more i)
      ∙ ap (keep is_position) (map_app pair_net (from 0 i) (i ∷ []))
      ∙ keep_append is_position (map pair_net (from 0 i)) (pair_net i ∷ [])

  -- one pair more: a position, or 0 and 0
  module _ (i : ℕ) (p : Position) (at : p ≡ pair_net i) where
    pub nets_to_more : is_position p ≡ true → nets_to (i + 1) ≡ nets_to i ++ (p ∷ [])
    nets_to_more e =
        nets_to_next i
        ∙ ap (λ (l : List Position). nets_to i ++ l)
        (ap (λ (q : Position). keep is_position (q ∷ [])) (sym at) ∙ keep_yes is_position p [] e ∙ ap (λ (l : List Position). p ∷ l) (keep_none is_position))

    pub nets_to_same : is_position p ≡ false → nets_to (i + 1) ≡ nets_to i
    nets_to_same e =
        nets_to_next i
        ∙ ap (λ (l : List Position). nets_to i ++ l) (ap (λ (q : Position). keep is_position (q ∷ [])) (sym at) ∙ keep_no is_position p [] e ∙ keep_none is_position)
        ∙ append-nil (nets_to i)

  -- the pairs from i on add to the nets
  pub nets_to_fewer : (i : ℕ) → i ≤ 2_048 → length (nets_to i) ≤ length (nets_to 2_048)
  unfolding nets_to
  nets_to_fewer i h =
      let rest = map pair_net (from (0 + i) (2_048 - i)) in
      let e : 2_048 ≡ i + (2_048 - i) = omega arith in
      let all-pairs : nets_to 2_048 ≡ nets_to i ++ keep is_position rest =
      ap (λ (n : ℕ). keep is_position (map pair_net (from 0 n))) e
      ∙ ap (λ (l : List ℕ). keep is_position (map pair_net l)) (from_split 0 i (2_048 - i))
      ∙ ap (keep is_position) (map_app pair_net (from 0 i) (from (0 + i) (2_048 - i)))
      ∙ keep_append is_position (map pair_net (from 0 i)) rest in
      omega (arith, ap length all-pairs, length-append (nets_to i) (keep is_position rest))

  pub pair_of : (a s : ℕ) → s < 32 → net_of due ts a s ≡ pair_net (a * 32 + s)
  pair_of a s h =
      let e : a ≡ (a * 32 + s) / 32 = omega arith in
      let f : s ≡ (a * 32 + s) % 32 = omega arith in
      ap₂ (λ (b u : ℕ). net_of due ts b u) e f

  -- ── the rule's nets, account by account ──

  pair_at : (a s : ℕ) → s < 32 → net_of due (trades_of a ts) a s ≡ pair_net (a * 32 + s)
  pair_at a s h = net_of_own due ts a s ∙ pair_of a s h

  account_pairs : (a s n : ℕ) → s + n ≤ 32 → map (net_of due (trades_of a ts) a) (from s n) ≡ map pair_net (from (a * 32 + s) n)
  unfolding from
  account_pairs a s zero h = refl
  account_pairs a s (suc n) h =
      let e : suc (a * 32 + s) ≡ a * 32 + suc s = omega arith in
      rw e (ap₂ (λ (p : Position) (l : List Position). p ∷ l) (pair_at a s (omega arith)) (account_pairs a (suc s) n (omega arith)))

  -- an account's nets, 0 and 0 too
  abbrev account_nets : ℕ → List Position
  account_nets a = map (net_of due (trades_of a ts) a) every_security

  one_account : (a : ℕ) → account_nets a ≡ map pair_net (from (a * 32) 32)
  unfolding every_security
  one_account a = let z : a * 32 + 0 ≡ a * 32 = omega arith in rw z at (account_pairs a 0 32 (omega arith))

  each_pairs : (a n : ℕ) → each account_nets (from a n) ≡ map pair_net (from (a * 32) (n * 32))
  unfolding each from
  each_pairs a zero = refl
  each_pairs a (suc n) =
      let m : suc n * 32 ≡ 32 + n * 32 = omega arith in
      let e : suc a * 32 ≡ a * 32 + 32 = omega arith in
      rw m
      (ap₂ (λ (l r : List Position). l ++ r) (one_account a) (each_pairs (suc a) n ∙ rw e)
      ∙ sym (map_app pair_net (from (a * 32) 32) (from (a * 32 + 32) (n * 32)))
      ∙ ap (map pair_net) (sym (from_split (a * 32) 32 (n * 32))))

  pub nets_pairs : nets due ts ≡ nets_to 2_048
  unfolding nets nets_to every_account
  nets_pairs =
      sym (each_keep is_position account_nets every_account) ∙ ap (keep is_position) (each_pairs 0 accounts)
