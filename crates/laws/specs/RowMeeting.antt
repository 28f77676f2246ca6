-- One meeting of two rows, where all rows before the one have nothing to give and all rows before the other want nothing:
-- it is the first meeting of the rule, and the rule's other meetings are those of the book as it then is.
use Rattle.std.specs.Prelude.{◌≡◌, ◌≢◌, length, get_or, drop}
use Rattle.std.proofs.Math.Path.{sym, ap, ap₂, subst}
use Rattle.std.proofs.Common.{◌∙◌, arith}
use mathlib.Core.List.{List}
use Prim.Native.Nat.{ℕ, suc, ◌+◌, ◌-◌, min, ◌≤◌, ◌<◌}
use Rattle.std.proofs.Math.ListN.{set, length-set}
use Rattle.std.proofs.Math.Seq.{get_or-set_other, map-set_same}
use Rattle.rules.specs.Words.{keep}
use Rattle.rules.specs.Book.{account_of, holding_at, no_position}
use Rattle.rules.specs.Parts.{without}
use Rattle.rules.specs.Run.{Side, side, meetings_of, met, moved}
use Rattle.rules.specs.declared.Position.{Position}
use Rattle.rules.specs.declared.Book.{Book}
use Rattle.laws.specs.Rows.{row, without_both}
use Rattle.laws.specs.Walk.{Walking, owes, wants, left_to_give, size_of, met_at}
use Rattle.laws.specs.Merging.{less, meeting, walked_by, walked_all, merge_step}
use Rattle.laws.specs.Spare.{at, some, Spent, first_kept, kept_less, less_account, less_shares}
use Rattle.laws.specs.Giving.{less_at, with_shares, given, given_first, given_less}
use Rattle.laws.specs.ByNumber.{Distinct, taken_both, charged_both_lem, distinct_both, length_both}
use Rattle.laws.specs.SidesOf.{owing, wanting, owed, asked, holds, at_row, sides_set, owing_less, wanting_less, owes_or_wants, holding_below, holding_apart, holds_less}

-- what each row has to give and wants, as the walk now stands
abbrev pub gives : ℕ → ℕ → Walking → List Side
gives d s x = given (owed d s x.records) (holds s x.holdings)

abbrev pub asks : ℕ → ℕ → Walking → List Side
asks d s x = asked d s x.records

-- the walk, and then all the meetings that the rule has for the book as it now stands
abbrev pub done : Book → ℕ → Walking → Walking
done b s x = walked_all b s x (meetings_of (keep some (asks b.day s x)) (keep some (gives b.day s x)))

-- n records, of distinct numbers, and no account both owes and wants
pub record Sane (d s n : ℕ) (x : Walking) : Type 0 where
  pub long : length x.records ≡ n
  pub wide : length x.holdings ≡ 2048
  pub distinct : Distinct x.records
  pub apart : (i j : ℕ) → 0 < (at (owed d s x.records) i).shares → 0 < (at (asked d s x.records) j).shares
      → (at (owed d s x.records) i).account ≢ (at (asked d s x.records) j).account

module _ (b : Book) (s n : ℕ) (x : Walking) (g r : ℕ) (hg : g < n) (hr : r < n) (ok : Sane b.day s n x) (zg : Spent (gives b.day s x) g) where
  abbrev d : ℕ
  d = b.day

  abbrev giver : Position
  giver = row x.records g

  abbrev taker : Position
  taker = row x.records r

  owed_g : at (owed d s x.records) g ≡ owing d s giver
  owed_g = at_row (owing d s) x.records g (omega (arith, ok.long))

  pub asked_r : at (asks d s x) r ≡ wanting d s taker
  asked_r = at_row (wanting d s) x.records r (omega (arith, ok.long))

  pub gives_g : at (gives d s x) g ≡ side giver (left_to_give d s x g)
  unfolding left_to_give
  gives_g =
      given_first (owed d s x.records) g (holds s x.holdings) zg
      ∙ ap (λ (o : Side). with_shares o (min o.shares (holds s x.holdings o.account))) owed_g

  pub size_is : size_of d s x g r ≡ min (at (gives d s x) g).shares (at (asks d s x) r).shares
  unfolding size_of
  size_is = ap₂ (λ (u v : Side). min u.shares v.shares) (sym gives_g) (sym asked_r)

  module _ (k : ℕ) (hs : s < 32) (zr : Spent (asks d s x) r) (hk : 0 < k) (ek : k ≡ min (at (gives d s x) g).shares (at (asks d s x) r).shares) where
    k_gives : k ≤ left_to_give d s x g
    k_gives = omega (arith, ap (λ (o : Side). o.shares) gives_g)

    k_owes : k ≤ owes d s giver
    unfolding left_to_give
    k_owes = omega (arith, k_gives)

    k_wants : k ≤ wants d s taker
    k_wants = omega (arith, ap (λ (o : Side). o.shares) asked_r)

    r_not_g : r ≢ g
    r_not_g e = omega (arith, k_owes, k_wants, ap (λ (i : ℕ). owes d s (row x.records i)) e, owes_or_wants d s taker)

    accounts_apart : (j : ℕ) → 0 < (at (owed d s x.records) j).shares → (at (owed d s x.records) j).account ≢ account_of taker
    accounts_apart j h e =
        ok.apart j r h (omega (arith, k_wants, ap (λ (o : Side). o.shares) asked_r)) (e ∙ sym (ap (λ (o : Side). o.account) asked_r))

    -- what is owed is k less at g, what is wanted k less at r
    pub owed_after : owed d s (without_both x.records g r k) ≡ set (owed d s x.records) g (less (at (owed d s x.records) g) k)
    unfolding without_both
    owed_after =
        let z : owes d s taker - k ≡ owes d s taker = omega (arith, k_wants, owes_or_wants d s taker) in
        map-set_same (owing d s) (set x.records g (without giver k)) r (without taker k) no_position
        (owing_less d s taker k ∙ ap (λ (j : ℕ). side taker j) z ∙ ap (owing d s) (sym (get_or-set_other x.records g r (without giver k) no_position r_not_g)))
        ∙ sides_set (owing d s) x.records g (without giver k)
        ∙ ap (λ (o : Side). set (owed d s x.records) g o) (owing_less d s giver k ∙ ap (λ (o : Side). less o k) (sym owed_g))

    pub asked_after : asked d s (without_both x.records g r k) ≡ set (asks d s x) r (less (at (asks d s x) r) k)
    unfolding without_both
    asked_after =
        let z : wants d s giver - k ≡ wants d s giver = omega (arith, k_owes, owes_or_wants d s giver) in
        sides_set (wanting d s) (set x.records g (without giver k)) r (without taker k)
        ∙ ap₂ (λ (l : List Side) (o : Side). set l r o)
        (map-set_same (wanting d s) x.records g (without giver k) no_position (wanting_less d s giver k ∙ ap (λ (j : ℕ). side giver j) z))
        (wanting_less d s taker k ∙ ap (λ (o : Side). less o k) (sym asked_r))

    -- the giver's account holds k less, and of the others who owe nobody holds more or less
    holds_after : (j : ℕ) → 0 < (at (owed d s x.records) j).shares
        → holds s (moved x.holdings (holding_at (account_of giver) s) (holding_at (account_of taker) s) k) (at (owed d s x.records) j).account
        ≡ less_at (holds s x.holdings) (at (owed d s x.records) g).account k (at (owed d s x.records) j).account
    unfolding moved
    holds_after j h =
        let a : ℕ = (at (owed d s x.records) j).account in
        let u : ℕ = holding_at (account_of giver) s in
        let v : ℕ = holding_at (account_of taker) s in
        let l : List ℕ = set x.holdings u (get_or x.holdings u 0 - k) in
        get_or-set_other l v (holding_at a s) (get_or l v 0 + k) 0 (holding_apart a (account_of taker) s (accounts_apart j h))
        ∙ ap (λ (f : ℕ → ℕ). f a) (holds_less s x.holdings (account_of giver) k (omega (arith, ok.wide, holding_below giver s hs)))
        ∙ ap (λ (o : Side). less_at (holds s x.holdings) o.account k a) (sym owed_g)

    pub gives_after : gives d s (met_at b s x g r k) ≡ set (gives d s x) g (less (at (gives d s x) g) k)
    unfolding met_at
    gives_after =
        ap (λ (os : List Side). given os (holds s (moved x.holdings (holding_at (account_of giver) s) (holding_at (account_of taker) s) k))) owed_after
        ∙ given_less (owed d s x.records) g k (holds s x.holdings) (holds s (moved x.holdings (holding_at (account_of giver) s) (holding_at (account_of taker) s) k))
        zg hk (omega arith) holds_after

    -- by rows or by numbers
    by_rows : (i j : ℕ) → walked_by b s x (meeting (side giver i) (side taker j) k) ≡ met_at b s x g r k
    unfolding walked_by met met_at
    by_rows i j =
        let e = taken_both x.records g r k ok.distinct (omega (arith, ok.long)) (omega (arith, ok.long)) r_not_g in
        let f = charged_both_lem x.records g r k ok.distinct (omega (arith, ok.long)) (omega (arith, ok.long)) r_not_g b x.charges in
        λ t. record {
          records = sym e t;
          holdings = moved x.holdings (holding_at (account_of giver) s) (holding_at (account_of taker) s) k;
          charges = sym f t;
          shares = x.shares + k;
        }

    met_is : walked_by b s x (meeting (at (gives d s x) g) (at (asks d s x) r) k) ≡ met_at b s x g r k
    met_is =
        ap₂ (λ (u v : Side). walked_by b s x (meeting u v k)) gives_g asked_r ∙ by_rows (left_to_give d s x g) (wants d s taker)

    pub done_after : done b s x ≡ done b s (met_at b s x g r k)
    unfolding met_at
    done_after =
        let gs : List Side = keep some (drop (suc g) (gives d s x)) in
        let rs : List Side = keep some (drop (suc r) (asks d s x)) in
        ap₂ (λ (u v : List Side). walked_all b s x (meetings_of u v)) (first_kept (asks d s x) r zr (omega arith)) (first_kept (gives d s x) g zg (omega arith))
        ∙ merge_step b s x (at (asks d s x) r) (at (gives d s x) g) rs gs k (omega arith) (omega arith) ek
        ∙ ap₂ (λ (u v : List Side). walked_all b s (walked_by b s x (meeting (at (gives d s x) g) (at (asks d s x) r) k)) (meetings_of u v))
        (sym (kept_less (asks d s x) r k zr (omega arith) (omega arith)) ∙ ap (keep some) (sym asked_after))
        (sym (kept_less (gives d s x) g k zg (omega arith) (omega arith)) ∙ ap (keep some) (sym gives_after))
        ∙ ap (λ (y : Walking). walked_all b s y (meetings_of (keep some (asks d s (met_at b s x g r k))) (keep some (gives d s (met_at b s x g r k))))) met_is

    apart_after : (i j : ℕ) → 0 < (at (set (owed d s x.records) g (less (at (owed d s x.records) g) k)) i).shares → 0 < (at (set (asks d s x) r (less (at (asks d s x) r) k)) j).shares
        → (at (set (owed d s x.records) g (less (at (owed d s x.records) g) k)) i).account ≢ (at (set (asks d s x) r (less (at (asks d s x) r) k)) j).account
    apart_after i j h l e =
        ok.apart i j (omega (arith, less_shares (owed d s x.records) g k i)) (omega (arith, less_shares (asks d s x) r k j))
        (sym (less_account (owed d s x.records) g k i) ∙ e ∙ less_account (asks d s x) r k j)

    pub sane_after : Sane d s n (met_at b s x g r k)
    unfolding met_at moved
    sane_after =
        record {
          long = length_both x.records g r k ok.distinct (omega (arith, ok.long)) (omega (arith, ok.long)) r_not_g ∙ ok.long;
          wide = simp length-set ok.wide;
          distinct = distinct_both x.records g r k ok.distinct (omega (arith, ok.long)) (omega (arith, ok.long)) r_not_g;
          apart = subst (λ (os : List Side). (i j : ℕ) → 0 < (at os i).shares → 0 < (at (asked d s (without_both x.records g r k)) j).shares → (at os i).account ≢ (at (asked d s (without_both x.records g r k)) j).account)
              (sym owed_after)
              (subst (λ (ws : List Side). (i j : ℕ) → 0 < (at (set (owed d s x.records) g (less (at (owed d s x.records) g) k)) i).shares → 0 < (at ws j).shares → (at (set (owed d s x.records) g (less (at (owed d s x.records) g) k)) i).account ≢ (at ws j).account)
              (sym asked_after) apart_after);
        }
