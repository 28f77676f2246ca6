-- One pass finds two due records of a pair that disagree exactly if there are two: with the sign seen of each pair beside it.
use Rattle.std.specs.Prelude.{◌≡◌, refl, Bool, true, false, not, cond, ◌&&◌, ◌||◌, Option, Some, None, List, [], ◌∷◌, ℕ, ◌+◌, ◌*◌, ◌<◌, ◌≤◌, eqb, length, get_or, set, take, drop, replicate}
use Rattle.std.specs.Bool.{beq}
use Rattle.std.proofs.Common.{sym, ap, ◌∙◌, add-one, arith, length-set, drop-cons, length-take-le, get_or-take, get_or-set_same, get_or-set_other, eq-eqb, eqb-true}
use Rattle.std.proofs.Math.Path.{ap₂}
use Rattle.std.proofs.Math.Bool.{and-false, and_self_left, and_assoc, and-true, or-true}
use Rattle.std.proofs.lemmas.List.{length-replicate, get_or-replicate}
use Rattle.std.proofs.Math.Seq.{drop-length}
use Rattle.integers.specs.Signs.{is_negative}
use Rattle.rules.specs.Words.{all, keep}
use Rattle.rules.specs.Bounds.{accounts, securities}
use Rattle.rules.specs.Book.{quantity_of, account_of, security_of, no_position}
use Rattle.rules.specs.Sound.{same_pair, agree, one_sign}
use Rattle.rules.specs.declared.Position.{Position}
use Rattle.laws.specs.Cases.{by_test, true_false, both_hold, and_hold, cond_yes, cond_no, eqb_swap}
use Rattle.laws.specs.All.{all_by}
use Rattle.laws.specs.Keeping.{keep_none, keep_yes, keep_no}
use Rattle.laws.specs.Numbers.{account_below, security_below}
use Rattle.sound_positions.specs.Table.{all_same, all_two}
use Rattle.sound_positions.specs.declared.signs.Sign.{Sign}
use Rattle.sound_positions.specs.declared.signs.Sign.TheVariants.{Receives, Delivers}

-- the pairs of an account and a security
abbrev pub places : ℕ
places = accounts * securities

abbrev pub place_of : Position → ℕ
place_of p = account_of p * 32 + security_of p

unfoldable pub sign : Bool → Sign
sign negative = cond negative Delivers Receives

abbrev pub sign_of : Position → Sign
sign_of p = sign (is_negative (quantity_of p))

-- what was seen of a pair, nothing or a sign, and a record's sign
unfoldable pub fits : Option Sign → Sign → Bool
fits None new = true
fits (Some Receives) Receives = true
fits (Some Delivers) Delivers = true
fits (Some _) _ = false

abbrev pub fits_seen : List (Option Sign) → Position → Bool
fits_seen seen p = fits (get_or seen (place_of p) None) (sign_of p)

abbrev pub with_sign : List (Option Sign) → Position → List (Option Sign)
with_sign seen p = set seen (place_of p) (Some (sign_of p))

-- the pass
unfoldable pub no_clash : List (Option Sign) → List Position → Bool
no_clash seen [] = true
no_clash seen (p ∷ ps) = fits_seen seen p && no_clash (with_sign seen p) ps

-- nothing is seen yet
abbrev pub unseen : List (Option Sign)
unseen = replicate places None

-- ── words ──

beq_swap : (a b : Bool) → beq a b ≡ beq b a
beq_swap true true = refl
beq_swap true false = refl
beq_swap false true = refl
beq_swap false false = refl

beq_same : (a : Bool) → beq a a ≡ true
beq_same true = refl
beq_same false = refl

-- ── the rule, one record more ──

agree_self : (p : Position) → agree p p ≡ true
unfolding agree
agree_self p = rw (beq_same (is_negative (quantity_of p))) (or-true (not (same_pair p p)))

agree_swap : (p q : Position) → agree p q ≡ agree q p
unfolding agree same_pair
agree_swap p q =
    rw (eqb_swap (account_of p) (account_of q), eqb_swap (security_of p) (security_of q), beq_swap (is_negative (quantity_of p)) (is_negative (quantity_of q)))

one_sign_cons : (p : Position) (ps : List Position) → one_sign (p ∷ ps) ≡ all (agree p) ps && one_sign ps
unfolding one_sign all
one_sign_cons p ps =
    let a : all (λ x. agree x p && all (agree x) ps) ps ≡ all (agree p) ps && one_sign ps =
    all_two (λ x. agree x p) (λ x. all (agree x) ps) ps
    ∙ ap (λ (b : Bool). b && one_sign ps) (all_same (λ x. agree x p) (agree p) ps (λ x. agree_swap x p)) in
    rw (agree_self p, a) (and_self_left (all (agree p) ps) (one_sign ps))

-- ── what is seen, one record more ──

-- a record that fits what was seen of its pair: now its sign is what was seen
fits_next : (m : Option Sign) (a b : Bool) → fits m (sign a) ≡ true → fits (Some (sign a)) (sign b) ≡ fits m (sign b) && beq a b
unfolding sign fits
fits_next m true true e = rw e
fits_next m true false e = sym (and-false (fits m Receives))
fits_next m false true e = sym (and-false (fits m Delivers))
fits_next m false false e = rw e

same_place : (p q : Position) → place_of p ≡ place_of q → (account_of p ≡ account_of q) × (security_of p ≡ security_of q)
same_place p q e =
    (omega (arith, e, security_below p, security_below q), omega (arith, e, security_below p, security_below q))

module _ (seen : List (Option Sign)) (w : length seen ≡ places) (p : Position) (h : fits_seen seen p ≡ true) where
  fits_step : (q : Position) → fits_seen (with_sign seen p) q ≡ fits_seen seen q && agree p q
  unfolding agree same_pair
  fits_step q =
      by_test (same_pair p q)
      (λ e. let b = both_hold (eqb (account_of p) (account_of q)) (eqb (security_of p) (security_of q)) e in
      let i : place_of q ≡ place_of p =
      ap₂ (λ (a s : ℕ). a * 32 + s) (sym (eqb-true (account_of p) (account_of q) b.0)) (sym (eqb-true (security_of p) (security_of q) b.1)) in
      rw (i, b.0, b.1, get_or-set_same seen (place_of p) (Some (sign_of p)) None (omega (arith, w, account_below p, security_below p)))
      (fits_next (get_or seen (place_of p) None) (is_negative (quantity_of p)) (is_negative (quantity_of q)) h))
      (λ e. let o : place_of q ≡ place_of p → ⊥ =
      λ i. let s = same_place p q (sym i) in
      true_false (and_hold (eq-eqb (account_of p) (account_of q) s.0) (eq-eqb (security_of p) (security_of q) s.1)) e in
      rw (get_or-set_other seen (place_of p) (place_of q) (Some (sign_of p)) None o, e) (sym (and-true (fits_seen seen q))))

-- The law: nothing clashes exactly if all fit what was seen and no two disagree.
no_clash_lem : (seen : List (Option Sign)) (ps : List Position) → length seen ≡ places → no_clash seen ps ≡ all (fits_seen seen) ps && one_sign ps
unfolding no_clash all one_sign
no_clash_lem seen [] w = refl
no_clash_lem seen (p ∷ ps) w =
    let ih : no_clash (with_sign seen p) ps ≡ all (fits_seen (with_sign seen p)) ps && one_sign ps =
    no_clash_lem (with_sign seen p) ps (length-set seen (place_of p) (Some (sign_of p)) ∙ w) in
    by_test (fits_seen seen p)
    (λ e. let g : all (fits_seen (with_sign seen p)) ps ≡ all (fits_seen seen) ps && all (agree p) ps =
    all_same (fits_seen (with_sign seen p)) (λ q. fits_seen seen q && agree p q) ps (fits_step seen w p e) ∙ all_two (fits_seen seen) (agree p) ps in
    rw (e, one_sign_cons p ps, ih, g) (and_assoc (all (fits_seen seen) ps) (all (agree p) ps) (one_sign ps)))
    (λ e. rw e)

-- ── the loop: what is left of the first n records of a table, seen so far ──

pub clash_none : (d : Position → Bool) (l : List Position) → no_clash unseen (keep d (drop 0 l)) ≡ one_sign (keep d l)
unfolding fits
clash_none d l =
    let a : all (fits_seen unseen) (keep d l) ≡ true =
    all_by (fits_seen unseen) (keep d l) (λ p. rw (get_or-replicate {A = Option Sign} places (place_of p) None None (omega (arith, account_below p, security_below p)))) in
    no_clash_lem unseen (keep d l) (length-replicate {A = Option Sign} places None) ∙ ap (λ (b : Bool). b && one_sign (keep d l)) a

length_kept : (due : Bool) (seen after : List (Option Sign)) (p : Position) → length seen ≡ places → after ≡ cond due (with_sign seen p) seen
    → length after ≡ places
length_kept true seen after p w e = ap length e ∙ length-set seen (place_of p) (Some (sign_of p)) ∙ w
length_kept false seen after p w e = ap length e ∙ w

module _ (d : Position → Bool) (l : List Position) (n i : ℕ) (seen : List (Option Sign)) (w : n ≤ length l) where
  abbrev left : List Position
  left = keep d (drop i (take n l))

  next : i < n → drop i (take n l) ≡ get_or l i no_position ∷ drop (i + 1) (take n l)
  next h =
      drop-cons (take n l) i no_position (omega (arith, length-take-le n l w))
      ∙ ap₂ (λ (p : Position) (j : ℕ). p ∷ drop j (take n l)) (get_or-take n l i no_position h) (sym (add-one i))

  pub seen_length : (after : List (Option Sign)) → length seen ≡ places
      → after ≡ cond (d (get_or l i no_position)) (with_sign seen (get_or l i no_position)) seen → length after ≡ places
  seen_length after v e = length_kept (d (get_or l i no_position)) seen after (get_or l i no_position) v e

  pub clash_more : (after : List (Option Sign)) → i < n → not (d (get_or l i no_position)) || fits_seen seen (get_or l i no_position) ≡ true
      → after ≡ cond (d (get_or l i no_position)) (with_sign seen (get_or l i no_position)) seen
      → no_clash after (keep d (drop (i + 1) (take n l))) ≡ no_clash seen left
  unfolding no_clash
  clash_more after h f e =
      let p = get_or l i no_position in
      by_test (d p)
      (λ y. let g : fits_seen seen p ≡ true = rw y at f in
      let k : left ≡ p ∷ keep d (drop (i + 1) (take n l)) = ap (keep d) (next h) ∙ keep_yes d p (drop (i + 1) (take n l)) y in
      rw (k, e ∙ cond_yes (with_sign seen p) seen y, g))
      (λ y. let k : left ≡ keep d (drop (i + 1) (take n l)) = ap (keep d) (next h) ∙ keep_no d p (drop (i + 1) (take n l)) y in
      rw (k, e ∙ cond_no (with_sign seen p) seen y))

  pub clash_found : i < n → not (d (get_or l i no_position)) || fits_seen seen (get_or l i no_position) ≡ false → false ≡ no_clash seen left
  unfolding no_clash
  clash_found h f =
      let p = get_or l i no_position in
      by_test (d p)
      (λ y. let g : fits_seen seen p ≡ false = rw y at f in
      let k : left ≡ p ∷ keep d (drop (i + 1) (take n l)) = ap (keep d) (next h) ∙ keep_yes d p (drop (i + 1) (take n l)) y in
      rw (k, g))
      (λ y. true_false (ap (λ (b : Bool). not b || fits_seen seen p) y) f)

  pub clash_done : i ≡ n → true ≡ no_clash seen left
  unfolding no_clash
  clash_done e =
      let k : left ≡ [] =
      ap (λ (j : ℕ). keep d (drop j (take n l))) (e ∙ sym (length-take-le n l w)) ∙ ap (keep d) (drop-length (take n l)) ∙ keep_none d in
      rw k
