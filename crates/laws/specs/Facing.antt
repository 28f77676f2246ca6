-- Records that face each other: what it says of them, that it goes both ways, that records lessened face no one new, and that of
-- records with shares left exactly those face each other that do not agree.
use Rattle.std.specs.Prelude.{◌≡◌, refl, Bool, true, false, not, ◌&&◌, List, [], ◌∷◌, ◌++◌, ◌<◌, eqb}
use Rattle.std.proofs.Common.{sym, ap, ◌∙◌, arith, eqb-true, eq-eqb}
use Rattle.std.specs.Bool.{beq}
use Rattle.std.proofs.lemmas.Bool.{not-true}
use Rattle.integers.specs.Signs.{is_negative}
use Rattle.rules.specs.Words.{all}
use Rattle.rules.specs.Book.{quantity_of, is_zero, due_of, account_of, security_of}
use Rattle.rules.specs.Sound.{same_pair, agree}
use Rattle.rules.specs.Roll.{opposite, faces}
use Rattle.rules.specs.declared.Position.{Position}
use Rattle.laws.specs.Cases.{by_test, true_false, both_hold, and_hold}
use Rattle.laws.specs.All.{all_by, all_so, all_and, all_both}
use Rattle.laws.specs.Numbers.{same_number}
use Rattle.laws.specs.Taking.{opposite_signs}
use Rattle.laws.specs.Lessened.{Less, less_some, less_account, less_security, Lessened, lessened_all}

-- ── who faces whom ──

pub record Facing (p o : Position) : Type 0 where
  pub account : account_of p ≡ account_of o
  pub security : security_of p ≡ security_of o
  pub newly : is_zero (quantity_of p) ≡ false
  pub older : is_zero (quantity_of o) ≡ false
  pub signs : is_negative (quantity_of o) ≡ not (is_negative (quantity_of p))

differ : (x : Bool) → not (beq x (not x)) ≡ true
differ true = refl
differ false = refl

not_back : (x y : Bool) → y ≡ not x → x ≡ not y
not_back true y e = sym (ap not e)
not_back false y e = sym (ap not e)

pub facing : (p o : Position) → faces p o ≡ true → Facing p o
unfolding faces same_pair opposite
facing p o e =
    let x = both_hold (same_pair p o) (opposite p o) e in
    let y = both_hold (eqb (account_of p) (account_of o)) (eqb (security_of p) (security_of o)) x.0 in
    let z = both_hold (not (is_zero (quantity_of p))) _ x.1 in
    let w = both_hold (not (is_zero (quantity_of o))) _ z.1 in
    record {
      account = eqb-true (account_of p) (account_of o) y.0;
      security = eqb-true (security_of p) (security_of o) y.1;
      newly = not-true (is_zero (quantity_of p)) z.0;
      older = not-true (is_zero (quantity_of o)) w.0;
      signs = opposite_signs p o x.1;
    }

pub facing_faces : (p o : Position) → Facing p o → faces p o ≡ true
unfolding faces same_pair opposite
facing_faces p o f =
    and_hold
    (and_hold (eq-eqb (account_of p) (account_of o) f.account) (eq-eqb (security_of p) (security_of o) f.security))
    (and_hold (ap not f.newly) (and_hold (ap not f.older) (rw f.signs (differ (is_negative (quantity_of p))))))

-- who does not face another is not faced by it
pub faces_back : (p o : Position) → faces p o ≡ false → faces o p ≡ false
faces_back p o e =
    by_test (faces o p)
    (λ g. let f = facing o p g in
    true_false
    (facing_faces p o
    record { account = sym f.account; security = sym f.security; newly = f.older; older = f.newly; signs = not_back _ _ f.signs }) e)
    (λ g. g)

-- records lessened face no one new
pub faces_less : (p q o r : Position) → Less p q → Less o r → faces p o ≡ false → faces q r ≡ false
faces_less p q o r h k e =
    by_test (faces q r)
    (λ g. let f = facing q r g in
    true_false
    (facing_faces p o
    record {
      account = sym (less_account p q h) ∙ f.account ∙ less_account o r k;
      security = sym (less_security p q h) ∙ f.security ∙ less_security o r k;
      newly = less_some p q h f.newly;
      older = less_some o r k f.older;
      signs = sym (k.sign f.older) ∙ f.signs ∙ ap not (h.sign f.newly);
    }) e)
    (λ g. g)

-- a record with no shares faces none, and none faces it
pub none_faces : (p o : Position) → is_zero (quantity_of p) ≡ true → faces p o ≡ false
none_faces p o z = by_test (faces p o) (λ g. true_false z (facing p o g).newly) (λ g. g)

pub none_faced : (p o : Position) → is_zero (quantity_of o) ≡ true → faces p o ≡ false
none_faced p o z = by_test (faces p o) (λ g. true_false z (facing p o g).older) (λ g. g)

-- two records due on one day of different numbers are not of one pair
pub numbers_apart : (p o : Position) → due_of p ≡ due_of o → p.number < o.number → faces p o ≡ false
numbers_apart p o d h =
    by_test (faces p o)
    (λ g. let f = facing p o g in let e = same_number p o d f.account f.security in absurd (omega arith))
    (λ g. g)

pub not_itself : (p : Position) → faces p p ≡ false
not_itself p = by_test (faces p p) (λ g. absurd (never (is_negative (quantity_of p)) (facing p p g).signs)) (λ g. g)
  where
    never : (x : Bool) → x ≡ not x → ⊥
    never true e = true_false refl e
    never false e = true_false e refl

-- ── who agrees does not face, and the other way ──

pub agree_apart : (p q : Position) → agree p q ≡ true → faces p q ≡ false
unfolding agree same_pair
agree_apart p q a = by_test (faces p q) (λ g. clash (facing p q g)) (λ g. g)
  where
    same_beq : (x : Bool) → beq x (not x) ≡ false
    same_beq true = refl
    same_beq false = refl

    clash : Facing p q → faces p q ≡ false
    clash f =
        let pair = and_hold (eq-eqb (account_of p) (account_of q) f.account) (eq-eqb (security_of p) (security_of q) f.security) in
        true_false (rw (pair, f.signs) at a) (same_beq (is_negative (quantity_of p)))

pub apart_agree : (p q : Position) → is_zero (quantity_of p) ≡ false → is_zero (quantity_of q) ≡ false → faces p q ≡ false → agree p q ≡ true
unfolding agree faces opposite
apart_agree p q x y e =
    by_test (same_pair p q)
    (λ s. by_test (beq (is_negative (quantity_of p)) (is_negative (quantity_of q)))
    (λ b. rw (s, b))
    (λ b. true_false (and_hold s (and_hold (ap not x) (and_hold (ap not y) (ap not b)))) e))
    (λ s. rw s)

-- ── lists of records that face none of each other ──

abbrev pub apart : Position → Position → Bool
apart p o = not (faces p o)

unfoldable pub peace : List Position → List Position → Bool
peace ps os = all (λ p. all (apart p) os) ps

pub peace_less : {ps qs os rs : List Position} → Lessened ps qs → Lessened os rs → peace ps os ≡ true → peace qs rs ≡ true
unfolding peace
peace_less {ps} {qs} {os} {rs} l m a =
    lessened_all (λ p. all (apart p) os) (λ p. all (apart p) rs)
    (λ p q h b. lessened_all (apart p) (apart q) (λ o r k c. ap not (faces_less p q o r h k (not-true (faces p o) c))) m b) l a

pub peace_back : (ps os : List Position) → peace ps os ≡ true → peace os ps ≡ true
unfolding peace all
peace_back [] os a = all_by (λ o. true) os (λ o. refl)
peace_back (p ∷ ps) os a =
    let b = both_hold (all (apart p) os) (all (λ p. all (apart p) os) ps) a in
    all_and (λ o. apart o p) (λ o. all (apart o) ps) os
    (all_so (apart p) (λ o. apart o p) os (λ o e. ap not (faces_back p o (not-true (faces p o) e))) b.0)
    (peace_back ps os b.1)

pub peace_both : (ps os rs : List Position) → peace ps os ≡ true → peace ps rs ≡ true → peace ps (os ++ rs) ≡ true
unfolding peace
peace_both ps os rs a b =
    all_so (λ p. all (apart p) os && all (apart p) rs) (λ p. all (apart p) (os ++ rs)) ps
    (λ p e. let x = both_hold (all (apart p) os) (all (apart p) rs) e in all_both (apart p) os rs x.0 x.1)
    (all_and (λ p. all (apart p) os) (λ p. all (apart p) rs) ps a b)

-- two lists with peace within each and between them
pub peace_joined : (ps os : List Position) → peace ps ps ≡ true → peace os os ≡ true → peace os ps ≡ true → peace (ps ++ os) (ps ++ os) ≡ true
unfolding peace
peace_joined ps os a b c =
    all_both (λ p. all (apart p) (ps ++ os)) ps os (peace_both ps ps os a (peace_back os ps c)) (peace_both os ps os c b)
