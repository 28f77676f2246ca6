-- What remains of a day's records, older and newly due and later ones: those that are due and have shares, and all later ones. So the
-- shares of those due stay in sum, and each is a position.
use Rattle.std.specs.Prelude.{◌≡◌, refl, Bool, true, false, cond, not, ◌&&◌, List, [], ◌∷◌, ◌++◌, ℕ, ◌+◌, ◌≤◌, eqb, ℤ, pos}
use Rattle.std.proofs.Common.{sym, ap, ◌∙◌, append-nil, arith}
use borrow.Author.Tests.{leb-true, lt-leb, eqb-true, ne_eqb, not-true, not-false}
use Rattle.integers.specs.Linear.{zlin}
use Rattle.integers.specs.Sums.{sum_by}
use Rattle.rules.specs.Words.{all, keep, total}
use Rattle.rules.specs.Book.{quantity_of, is_zero, due_of, security_of}
use Rattle.rules.specs.Sound.{is_position, is_due, due_nonzero}
use Rattle.rules.specs.Roll.{remains}
use Rattle.rules.specs.declared.Position.{Position}
use Rattle.laws.specs.Cases.{by_test, both_hold, is_zero_lem}
use Rattle.laws.specs.All.{all_so, all_and, all_both}
use Rattle.laws.specs.Keeping.{keep_none, keep_yes, keep_no, keep_append, keep_all, keep_passes, keep_whole, keep_nothing, keep_swap}
use Rattle.laws.specs.Adding.{sum_by_kept, total_append, total_keep_le}
use Rattle.laws.specs.DueDays.{is_newly}
use Rattle.laws.specs.Against.{shares_in}
use Rattle.laws.specs.Offsets.{live}

-- ── one record ──

module _ (d : ℕ) (p : Position) where
  -- of those due, the ones with shares
  pub due_remains : is_due d p ≡ true → remains d p ≡ live p
  unfolding remains due_nonzero
  due_remains e = rw e

  -- what goes has no shares
  pub goes_zero : remains d p ≡ false → quantity_of p ≡ pos 0
  unfolding remains due_nonzero
  goes_zero e =
      is_zero_lem (quantity_of p) (both_hold (is_due d p) (is_zero (quantity_of p)) (not-false (is_due d p && is_zero (quantity_of p)) e)).1

  later_stays : is_newly (d + 1) p ≡ true → is_due d p ≡ false
  unfolding is_due
  later_stays e = lt-leb (due_of p) d (omega (arith, eqb-true (due_of p) (d + 1) e))

  due_before : is_due d p ≡ true → is_newly (d + 1) p ≡ false
  unfolding is_due
  due_before e = ne_eqb (due_of p) (d + 1) (λ z. omega (arith, leb-true (due_of p) d e))

pub live_position : (p : Position) → live p ≡ true → is_position p ≡ true
unfolding is_position
live_position p e = rw (not-true (is_zero (quantity_of p)) e)

-- ── lists ──

-- the shares that go are none
pub remains_shares : (d s : ℕ) (ps : List Position) → sum_by (shares_in s) (keep (remains d) ps) ≡ sum_by (shares_in s) ps
remains_shares d s ps = sum_by_kept (shares_in s) (remains d) ps (λ p e. nothing (eqb (security_of p) s) (quantity_of p) (goes_zero d p e))
  where
    nothing : (t : Bool) (q : ℤ) → q ≡ pos 0 → cond t q (pos 0) ≡ pos 0
    nothing true q e = e
    nothing false q e = refl

-- those due that remain have shares
pub remains_live : (d : ℕ) (ps : List Position) → all (is_due d) ps ≡ true → all live (keep (remains d) ps) ≡ true
remains_live d ps a =
    all_so (λ p. remains d p && is_due d p) live (keep (remains d) ps)
    (λ p e. let x = both_hold (remains d p) (is_due d p) e in sym (due_remains d p x.1) ∙ x.0)
    (all_and (remains d) (is_due d) (keep (remains d) ps) (keep_passes (remains d) ps) (keep_all (remains d) (is_due d) ps a))

-- f of those due, counted where they have shares
pub live_total : (d : ℕ) (f : Position → ℕ) (ps : List Position) → all (is_due d) ps ≡ true
    → total f (keep (remains d) ps) ≡ total (λ p. cond (live p) (f p) 0) ps
unfolding all total
live_total d f [] a = rw keep_none
live_total d f (p ∷ ps) a =
    let x = both_hold (is_due d p) (all (is_due d) ps) a in
    let same = due_remains d p x.0 in
    let ih = live_total d f ps x.1 in
    by_test (live p)
    (λ e. rw (keep_yes (remains d) p ps (same ∙ e), e, ih))
    (λ e. rw (keep_no (remains d) p ps (same ∙ e), e, ih) (omega arith))

pub live_sum : (d : ℕ) (f : Position → ℤ) (ps : List Position) → all (is_due d) ps ≡ true
    → sum_by f (keep (remains d) ps) ≡ sum_by (λ p. cond (live p) (f p) (pos 0)) ps
unfolding all
live_sum d f [] a = rw keep_none
live_sum d f (p ∷ ps) a =
    let x = both_hold (is_due d p) (all (is_due d) ps) a in
    let same = due_remains d p x.0 in
    let ih = live_sum d f ps x.1 in
    by_test (live p)
    (λ e. rw (keep_yes (remains d) p ps (same ∙ e), e, ih))
    (λ e. rw (keep_no (remains d) p ps (same ∙ e), e, ih) (simp zlin (omega arith)))

-- ── older and newly due ones, and those due on the day after ──

module _ (d : ℕ) (os ns ls : List Position) (ho : all (is_due d) os ≡ true) (hn : all (is_due d) ns ≡ true)
    (hl : all (is_newly (d + 1)) ls ≡ true) where
  none_due : keep (is_due d) ls ≡ []
  none_due = keep_nothing (is_due d) ls (all_so (is_newly (d + 1)) (λ p. not (is_due d p)) ls (λ p e. ap not (later_stays d p e)) hl)

  none_next : (ps : List Position) → all (is_due d) ps ≡ true → keep (is_newly (d + 1)) ps ≡ []
  none_next ps a =
      keep_nothing (is_newly (d + 1)) ps (all_so (is_due d) (λ p. not (is_newly (d + 1) p)) ps (λ p e. ap not (due_before d p e)) a)

  -- all later ones remain
  pub later_remain : keep (remains d) ls ≡ ls
  unfolding remains due_nonzero
  later_remain = keep_whole (remains d) ls (all_so (is_newly (d + 1)) (remains d) ls (λ p e. rw (later_stays d p e)) hl)

  pub left_due : keep (is_due d) (keep (remains d) (os ++ (ns ++ ls))) ≡ keep (remains d) (os ++ ns)
  left_due =
      keep_swap (is_due d) (remains d) (os ++ (ns ++ ls))
      ∙ ap (keep (remains d))
      (keep_append (is_due d) os (ns ++ ls) ∙ rw (keep_append (is_due d) ns ls, keep_whole (is_due d) os ho, keep_whole (is_due d) ns hn, none_due, append-nil ns))

  pub left_next : keep (is_newly (d + 1)) (keep (remains d) (os ++ (ns ++ ls))) ≡ ls
  left_next =
      keep_swap (is_newly (d + 1)) (remains d) (os ++ (ns ++ ls))
      ∙ ap (keep (remains d))
      (keep_append (is_newly (d + 1)) os (ns ++ ls)
      ∙ rw (keep_append (is_newly (d + 1)) ns ls, none_next os ho, none_next ns hn, keep_whole (is_newly (d + 1)) ls hl))
      ∙ later_remain

  pub left_parts : keep (remains d) (os ++ (ns ++ ls)) ≡ keep (remains d) os ++ (keep (remains d) ns ++ ls)
  left_parts =
      keep_append (remains d) os (ns ++ ls)
      ∙ ap (λ (l : List Position). keep (remains d) os ++ l)
      (keep_append (remains d) ns ls ∙ ap (λ (l : List Position). keep (remains d) ns ++ l) later_remain)

  -- each is a position where the later ones are
  pub left_positions : all is_position ls ≡ true → all is_position (keep (remains d) (os ++ (ns ++ ls))) ≡ true
  left_positions a =
      rw left_parts
      (all_both is_position (keep (remains d) os) (keep (remains d) ns ++ ls) (positions os ho)
      (all_both is_position (keep (remains d) ns) ls (positions ns hn) a))
    where
      positions : (ps : List Position) → all (is_due d) ps ≡ true → all is_position (keep (remains d) ps) ≡ true
      positions ps h = all_so live is_position (keep (remains d) ps) live_position (remains_live d ps h)

  -- f of all, the newly due ones counted where they have shares
  pub left_total : (f : Position → ℕ)
      → total f (keep (remains d) (os ++ (ns ++ ls))) ≤ total f os + (total (λ p. cond (live p) (f p) 0) ns + total f ls)
  left_total f =
      rw left_parts
      (omega (
        arith,
        total_append f (keep (remains d) os) (keep (remains d) ns ++ ls),
        total_append f (keep (remains d) ns) ls,
        total_keep_le f (remains d) os,
        live_total d f ns hn,
      ))
