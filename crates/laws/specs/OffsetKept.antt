-- Offsetting leaves a sound table: of a book whose records are ready for it, every clause on records and money holds afterwards.
use Rattle.std.specs.Prelude.{◌≡◌, Bool, true, not, ◌&&◌, List, ◌++◌, ℕ, ◌+◌, ◌*◌, ◌-◌, ◌≤◌, leb, drop, replicate, pos, nat_abs, ◌+ℤ◌}
use Rattle.std.proofs.Math.Path.{refl, ap}
use Rattle.std.proofs.Common.{◌∙◌, subst, arith}
use Rattle.std.proofs.Math.ListN.{length}
use Rattle.std.proofs.lemmas.List.{length-replicate}
use Rattle.std.proofs.Math.Seq.{take_at, drop_at}
use borrow.Author.Tests.{ltb-true, leb-true, le-leb, eqb-true, eq-eqb}
use Rattle.integers.specs.Linear.{zlin}
use Rattle.integers.specs.Sums.{sum_by, sum_by_append}
use Rattle.units.specs.Units.{mils, most_shares, most_mils}
use Rattle.rules.specs.Words.{all, keep}
use Rattle.rules.specs.Bounds.{accounts, currencies, most_records}
use Rattle.rules.specs.Book.{quantity_of, money_of, is_zero, due_of, security_of, no_position, open_of, with_open, with_charges, unlisted}
use Rattle.rules.specs.Sound.{ascends, is_blank, records_fit, is_position, sizes_fit, due_fits, is_due, due_nonzero, one_sign, balanced}
use Rattle.rules.specs.Roll.{Offset, offset_all, remains, offset}
use Rattle.rules.specs.declared.Position.{Position}
use Rattle.rules.specs.declared.Book.{Book}
use Rattle.laws.specs.Cases.{both_hold, and_hold}
use Rattle.laws.specs.Tables.{all_same}
use Rattle.laws.specs.All.{all_so, all_and, all_both}
use Rattle.laws.specs.Keeping.{keep_all, keep_passes, keep_length}
use Rattle.laws.specs.Order.{keep_ascends}
use Rattle.laws.specs.Lessened.{Less, less_due, less_security, Lessened, lessened_same, lessened_append, lessened_ascends, lessened_length, lessened_all}
use Rattle.laws.specs.Facing.{peace, peace_less, peace_joined}
use Rattle.laws.specs.Against.{shares_in, in_currency}
use Rattle.laws.specs.Offsets.{AllDone, all_keeps}
use Rattle.laws.specs.DueDays.{is_older, is_newly, is_later, parts_whole, day_peace}
use Rattle.laws.specs.Showing.{balanced_sum, sign_peace, peace_sign, keep_peace}
use Rattle.laws.specs.Remaining.{remains_shares, remains_live, left_due, left_next, left_positions}

-- ── ready for it ──

abbrev pub older_of : Book → List Position
older_of b = keep (is_older b.day) (open_of b)

abbrev pub newly_of : Book → List Position
newly_of b = keep (is_newly b.day) (open_of b)

abbrev pub later_of : Book → List Position
later_of b = keep (is_later b.day) (open_of b)

pub record Ready (b : Book) : Type 0 where
  pub order : ascends (open_of b) ≡ true
  pub few : length (open_of b) ≤ most_records
  pub sizes : all sizes_fit (open_of b) ≡ true
  pub due_days : all (due_fits b.day) (open_of b) ≡ true
  pub signs : one_sign (older_of b) ≡ true
  pub older_balance : balanced (older_of b) ≡ true
  pub newly_balance : balanced (newly_of b) ≡ true
  pub later_balance : balanced (later_of b) ≡ true
  pub listed : all (λ p. not (unlisted b (security_of p))) (open_of b) ≡ true
  pub valued : all (in_currency b) (open_of b) ≡ true
  pub uncharged : b.charges ≡ replicate (accounts * currencies) (mils (pos 0))

-- ── what is left ──

unfoldable pub met_of : Book → Offset
met_of b = offset_all b (newly_of b) (older_of b) b.charges

unfoldable pub left_of : Book → List Position
left_of b = keep (remains b.day) ((met_of b).older ++ ((met_of b).newly ++ later_of b))

module _ (b : Book) where
  pub offset_open : open_of (offset b) ≡ left_of b
  unfolding offset open_of with_charges with_open met_of left_of
  offset_open = take_at (left_of b) (replicate (most_records - length (left_of b)) no_position) (length (left_of b)) refl

  offset_behind : drop (offset b).records (offset b).positions ≡ replicate (most_records - length (left_of b)) no_position
  unfolding offset with_charges with_open met_of left_of
  offset_behind = drop_at (left_of b) (replicate (most_records - length (left_of b)) no_position) (length (left_of b)) refl

  offset_records : (offset b).records ≡ length (left_of b)
  unfolding offset with_charges with_open met_of left_of
  offset_records = refl

  pub offset_charges : (offset b).charges ≡ (met_of b).charges
  unfolding offset with_charges met_of
  offset_charges = refl

module _ (b : Book) (r : Ready b) where
  abbrev d : ℕ
  d = b.day

  abbrev os : List Position
  os = (met_of b).older

  abbrev ns : List Position
  ns = (met_of b).newly

  abbrev ls : List Position
  ls = later_of b

  pub charges_long : length b.charges ≡ accounts * currencies
  charges_long = ap length r.uncharged ∙ length-replicate (accounts * currencies) (mils (pos 0))

  pub done : AllDone b (newly_of b) (older_of b) b.charges (met_of b)
  unfolding met_of
  done =
      all_keeps b (newly_of b) (older_of b) b.charges charges_long (keep_all (is_newly d) (in_currency b) (open_of b) r.valued)
      (keep_all (is_older d) (in_currency b) (open_of b) r.valued)

  -- the table with each record lessened
  whole : Lessened (open_of b) (os ++ (ns ++ ls))
  whole =
      subst (λ (l : List Position). Lessened l (os ++ (ns ++ ls))) (parts_whole d (open_of b) r.order)
      (lessened_append done.older (lessened_append done.newly (lessened_same ls)))

  -- a test that a record lessened passes where the record passed another
  left_all : (t u : Position → Bool) → ((p q : Position) → Less p q → t p ≡ true → u q ≡ true) → all t (open_of b) ≡ true → all u (left_of b) ≡ true
  unfolding left_of
  left_all t u f a = keep_all (remains d) u (os ++ (ns ++ ls)) (lessened_all t u f whole a)

  -- ── due days ──

  pub older_due : all (is_due d) os ≡ true
  unfolding is_due
  older_due =
      lessened_all (is_older d) (is_due d)
      (λ p q h e. le-leb (due_of q) d (omega (arith, less_due p q h, ltb-true (due_of p) d e))) done.older (keep_passes (is_older d) (open_of b))

  pub newly_due : all (is_due d) ns ≡ true
  unfolding is_due
  newly_due =
      lessened_all (is_newly d) (is_due d)
      (λ p q h e. le-leb (due_of q) d (omega (arith, less_due p q h, eqb-true (due_of p) d e))) done.newly (keep_passes (is_newly d) (open_of b))

  pub later_next : all (is_newly (d + 1)) ls ≡ true
  unfolding due_fits
  later_next =
      all_so (λ p. is_later d p && due_fits d p) (is_newly (d + 1)) ls
      (λ p e. let x = both_hold (is_later d p) (due_fits d p) e in
      eq-eqb (due_of p) (d + 1) (omega (arith, ltb-true d (due_of p) x.0, leb-true (due_of p) (d + 1) x.1)))
      (all_and (is_later d) (due_fits d) ls (keep_passes (is_later d) (open_of b)) (keep_all (is_later d) (due_fits d) (open_of b) r.due_days))

  -- ── the clauses ──

  pub left_few : length (left_of b) ≤ most_records
  unfolding left_of
  left_few = omega (arith, keep_length (remains d) (os ++ (ns ++ ls)), lessened_length whole, r.few)

  pub kept_records : records_fit (offset b) ≡ true
  unfolding records_fit is_blank is_zero left_of
  kept_records =
      rw (offset_behind b, offset_open b, offset_records b)
      (and_hold (le-leb (length (left_of b)) most_records left_few)
      (and_hold (keep_ascends (remains d) (os ++ (ns ++ ls)) (lessened_ascends (open_of b) (os ++ (ns ++ ls)) whole ∙ r.order))
      (all_same is_blank (most_records - length (left_of b)) no_position refl)))

  pub kept_due_days : all (due_fits d) (open_of (offset b)) ≡ true
  unfolding due_fits
  kept_due_days = rw (offset_open b) (left_all (due_fits d) (due_fits d) (λ p q h e. rw (less_due p q h) e) r.due_days)

  pub kept_nonzero : all (due_nonzero d) (open_of (offset b)) ≡ true
  unfolding remains left_of
  kept_nonzero = rw (offset_open b) (keep_passes (due_nonzero d) (os ++ (ns ++ ls)))

  pub kept_listed : all (λ p. not (unlisted b (security_of p))) (open_of (offset b)) ≡ true
  kept_listed =
      rw (offset_open b)
      (left_all (λ p. not (unlisted b (security_of p))) (λ p. not (unlisted b (security_of p))) (λ p q h e. rw (less_security p q h) e) r.listed)

  -- ── sizes ──

  abbrev within : Position → Bool
  within p = leb (nat_abs (quantity_of p)) most_shares && leb (nat_abs (money_of p)) most_mils

  fits_within : (p q : Position) → Less p q → sizes_fit p ≡ true → within q ≡ true
  unfolding sizes_fit
  fits_within p q h e =
      let x = both_hold (leb (nat_abs (quantity_of p)) most_shares) _ e in
      let y = both_hold (leb (nat_abs (money_of p)) most_mils) (is_position p) x.1 in
      and_hold (le-leb (nat_abs (quantity_of q)) most_shares (omega (arith, h.shares, leb-true (nat_abs (quantity_of p)) most_shares x.0)))
      (le-leb (nat_abs (money_of q)) most_mils (omega (arith, h.money, leb-true (nat_abs (money_of p)) most_mils y.0)))

  later_positions : all is_position ls ≡ true
  unfolding sizes_fit
  later_positions =
      all_so sizes_fit is_position ls
      (λ p e. (both_hold (leb (nat_abs (money_of p)) most_mils) (is_position p) (both_hold (leb (nat_abs (quantity_of p)) most_shares) _ e).1).1)
      (keep_all (is_later d) sizes_fit (open_of b) r.sizes)

  pub kept_sizes : all sizes_fit (open_of (offset b)) ≡ true
  unfolding sizes_fit left_of
  kept_sizes =
      rw (offset_open b)
      (all_so (λ p. within p && is_position p) sizes_fit (left_of b)
      (λ p e. let x = both_hold (within p) (is_position p) e in
      let y = both_hold (leb (nat_abs (quantity_of p)) most_shares) (leb (nat_abs (money_of p)) most_mils) x.0 in
      and_hold y.0 (and_hold y.1 x.1))
      (all_and within is_position (left_of b) (left_all sizes_fit within fits_within r.sizes)
      (left_positions d os ns ls older_due newly_due later_next later_positions)))

  -- ── signs and balances ──

  due_are : keep (is_due d) (open_of (offset b)) ≡ keep (remains d) (os ++ ns)
  unfolding left_of
  due_are = ap (keep (is_due d)) (offset_open b) ∙ left_due d os ns ls older_due newly_due later_next

  next_are : keep (is_newly (d + 1)) (open_of (offset b)) ≡ ls
  unfolding left_of
  next_are = ap (keep (is_newly (d + 1))) (offset_open b) ∙ left_next d os ns ls older_due newly_due later_next

  newly_peace : peace (newly_of b) (newly_of b) ≡ true
  newly_peace = day_peace d (newly_of b) (keep_ascends (is_newly d) (open_of b) r.order) (keep_passes (is_newly d) (open_of b))

  due_peace : peace (os ++ ns) (os ++ ns) ≡ true
  due_peace =
      peace_joined os ns (peace_less done.older done.older (sign_peace (older_of b) r.signs))
      (peace_less done.newly done.newly newly_peace) done.peaceful

  pub kept_signs : one_sign (keep (is_due d) (open_of (offset b))) ≡ true
  kept_signs =
      rw due_are
      (peace_sign (keep (remains d) (os ++ ns)) (keep_peace (remains d) (os ++ ns) due_peace)
      (remains_live d (os ++ ns) (all_both (is_due d) os ns older_due newly_due)))

  due_shares : (s : ℕ) → sum_by (shares_in s) (keep (remains d) (os ++ ns)) ≡ sum_by (shares_in s) (newly_of b) +ℤ sum_by (shares_in s) (older_of b)
  due_shares s =
      let e = remains_shares d s (os ++ ns) in
      let f = sum_by_append (shares_in s) os ns in
      let g = done.shares s in
      e ∙ simp zlin (omega (arith, simp zlin at f, simp zlin at g))

  pub kept_balances : balanced (keep (is_due d) (open_of (offset b))) && balanced (keep (is_newly (d + 1)) (open_of (offset b))) ≡ true
  kept_balances =
      rw (due_are, next_are)
      (and_hold (balanced_sum (newly_of b) (older_of b) (keep (remains d) (os ++ ns)) due_shares r.newly_balance r.older_balance) r.later_balance)
