-- How clauses of a sound book are shown: balance by sums, one sign by records that do not face each other, money at stake account by
-- account; and that the records of a sound book have currencies.
use Rattle.std.specs.Prelude.{◌≡◌, Bool, true, not, ◌&&◌, List, ℕ, ◌+◌, ◌<◌, ◌≤◌, eqb, length, get_or, ℤ, pos, nat_abs, ◌+ℤ◌}
use Rattle.std.proofs.Common.{sym, ap, ◌∙◌, arith, lt-ltb}
use Rattle.std.proofs.lemmas.Bool.{not-true}
use Rattle.integers.specs.Sums.{sum_by}
use Rattle.rules.specs.Words.{all, keep, total}
use Rattle.rules.specs.Bounds.{accounts, securities, currencies, no_currency, every_security, most_at_stake}
use Rattle.rules.specs.Book.{quantity_of, money_of, is_zero, security_of, open_of, currency_of, unlisted}
use Rattle.rules.specs.Sound.{is_code, codes_fit, agree, one_sign, balanced, money_fits}
use Rattle.rules.specs.declared.Position.{Position}
use Rattle.rules.specs.declared.Book.{Book}
use Rattle.laws.specs.Cases.{both_hold, is_zero_lem, zero_is}
use Rattle.laws.specs.Walks.{all_at}
use Rattle.laws.specs.All.{all_so, all_and}
use Rattle.laws.specs.Keeping.{keep_all}
use Rattle.laws.specs.Adding.{sum_by_keep, total_keep}
use Rattle.laws.specs.Numbers.{security_below}
use Rattle.laws.specs.Charging.{is_of, charge_in, open_money_lem}
use Rattle.laws.specs.SoundParts.{code_below}
use Rattle.laws.specs.Stakes.{within_stake}
use Rattle.laws.specs.Facing.{apart, peace, agree_apart, apart_agree}
use Rattle.laws.specs.Against.{shares_in, size_in, in_currency}
use Rattle.laws.specs.Offsets.{live}

-- ── balance ──

abbrev shares_of : ℕ → List Position → ℤ
shares_of s ps = sum_by quantity_of (keep (λ p. eqb (security_of p) s) ps)

-- records whose shares come to those of two balanced lists
pub balanced_sum : (ps qs rs : List Position) → ((s : ℕ) → sum_by (shares_in s) rs ≡ sum_by (shares_in s) ps +ℤ sum_by (shares_in s) qs)
    → balanced ps ≡ true → balanced qs ≡ true → balanced rs ≡ true
unfolding balanced
balanced_sum ps qs rs f a b =
    all_so (λ s. is_zero (shares_of s ps) && is_zero (shares_of s qs)) (λ s. is_zero (shares_of s rs)) every_security
    (λ s e. zero_is (shares_of s rs) (zero s e))
    (all_and (λ s. is_zero (shares_of s ps)) (λ s. is_zero (shares_of s qs)) every_security a b)
  where
    plain : (s : ℕ) (l : List Position) → shares_of s l ≡ sum_by (shares_in s) l
    plain s l = sum_by_keep quantity_of (λ p. eqb (security_of p) s) l

    zero : (s : ℕ) → is_zero (shares_of s ps) && is_zero (shares_of s qs) ≡ true → shares_of s rs ≡ pos 0
    zero s e =
        let x = both_hold (is_zero (shares_of s ps)) (is_zero (shares_of s qs)) e in
        let y : sum_by (shares_in s) ps ≡ pos 0 = sym (plain s ps) ∙ is_zero_lem (shares_of s ps) x.0 in
        let z : sum_by (shares_in s) qs ≡ pos 0 = sym (plain s qs) ∙ is_zero_lem (shares_of s qs) x.1 in
        plain s rs ∙ f s ∙ rw (y, z)

-- ── one sign ──

pub sign_peace : (ps : List Position) → one_sign ps ≡ true → peace ps ps ≡ true
unfolding one_sign peace
sign_peace ps a =
    all_so (λ p. all (agree p) ps) (λ p. all (apart p) ps) ps
    (λ p b. all_so (agree p) (apart p) ps (λ q e. ap not (agree_apart p q e)) b) a

pub peace_sign : (ps : List Position) → peace ps ps ≡ true → all live ps ≡ true → one_sign ps ≡ true
unfolding one_sign peace
peace_sign ps a l =
    all_so (λ p. all (apart p) ps && live p) (λ p. all (agree p) ps) ps
    (λ p b. let x = both_hold (all (apart p) ps) (live p) b in
    all_so (λ q. apart p q && live q) (agree p) ps
    (λ q e. let y = both_hold (apart p q) (live q) e in
    apart_agree p q (not-true _ x.1) (not-true _ y.1) (not-true _ y.0))
    (all_and (apart p) live ps x.0 l))
    (all_and (λ p. all (apart p) ps) live ps a l)

pub keep_peace : (t : Position → Bool) (ps : List Position) → peace ps ps ≡ true → peace (keep t ps) (keep t ps) ≡ true
unfolding peace
keep_peace t ps a =
    all_so (λ p. all (apart p) ps) (λ p. all (apart p) (keep t ps)) (keep t ps) (λ p b. keep_all t (apart p) ps b)
    (keep_all t (λ p. all (apart p) ps) ps a)

-- ── money ──

-- account by account, currency by currency: the sizes of its charge and of its records' money
pub money_by : (k : Book)
    → ((a c : ℕ) → a < accounts → c < currencies → nat_abs (charge_in k.charges a c) + total (size_in k a c) (open_of k) ≤ most_at_stake)
    → money_fits k ≡ true
money_by k f =
    within_stake k
    (λ a c h l. rw (open_money_lem k (open_of k) a c, total_keep (λ p. nat_abs (money_of p)) (is_of k a c) (open_of k)) (f a c h l))

-- ── currencies ──

-- a listed security has a currency
pub has_currency_lem : (k : Book) (p : Position) → codes_fit k ≡ true → length k.currency ≡ securities → not (unlisted k (security_of p)) ≡ true
    → in_currency k p ≡ true
unfolding codes_fit is_code unlisted currency_of
has_currency_lem k p a long u =
    let s = security_of p in
    let c = get_or k.currency s 0 in
    let code : is_code c ≡ true = all_at is_code k.currency s 0 a (omega (arith, security_below p)) in
    lt-ltb c currencies (code_below c code (not-true (eqb c no_currency) u))
