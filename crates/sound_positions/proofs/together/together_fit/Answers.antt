-- `sound_positions::together::together_fit` meets its contract. What is left decides, with the signs seen so far; the sums are those of the records before i. Assumes nothing.
use Rattle.std.proofs.Common.{◌≡◌, sym, ap, ◌∙◌, Bool, true, not, cond, ◌&&◌, List, ℕ, ◌<◌, ◌≤◌, length, get_or, take, drop, get_or-take, length-take-le, arith}
use Rattle.std.specs.Prelude.{Option, None}
use Rattle.std.proofs.lemmas.List.{length-replicate}
use Rattle.units.specs.declared.Shares.{Shares}
use Rattle.rules.specs.Words.{all, keep}
use Rattle.rules.specs.Bounds.{every_security, most_records}
use Rattle.rules.specs.Book.{security_of, no_position, open_of}
use Rattle.rules.specs.Layout.{book_of}
use Rattle.rules.specs.Sound.{sizes_fit, due_fits, due_nonzero, is_due, one_sign, due_balanced}
use Rattle.rules.specs.declared.Position.{Position}
use Rattle.rules.specs.declared.Book.{Book}
use Rattle.laws.specs.Cases.{both_hold, cond_yes, cond_no}
use Rattle.laws.specs.Walks.{all_at}
use Rattle.book.specs.Views.{positions_long}
use Rattle.sound_positions.specs.Each.{each_fits}
use Rattle.sound_positions.specs.OneSign.{places, no_clash, with_sign, seen_length, clash_none, clash_more, clash_found, clash_done}
use Rattle.sound_positions.specs.Summing.{sum_in, with_quantity, with_sum, Summed, Room, room_read, summed_none, summed_step, room_for}
use Rattle.sound_positions.specs.Balance.{zero_at, is_later, balanced_sums, due_by}
use Rattle.sound_positions.specs.declared.signs.Sign.{Sign}
use Rattle.sound_positions.proofs.together.together_fit.Goals as goal
use Rattle.sound_positions.proofs.together.together_fit.Goals.{then-is_due, else-is_due}

-- ── what the tests before have shown of the records ──

module _ (bs : List ℕ) (few : (book_of bs).records ≤ most_records) (fit : each_fits (book_of bs) ≡ true) where
  abbrev k : Book
  k = book_of bs

  room : k.records ≤ length k.positions
  room = omega (arith, positions_long bs)

  sizes : all sizes_fit (open_of k) ≡ true
  sizes = (both_hold (all sizes_fit (open_of k)) _ fit).0

  dues : (all (due_fits k.day) (open_of k) ≡ true) × (all (due_nonzero k.day) (open_of k) ≡ true)
  dues = both_hold (all (due_fits k.day) (open_of k)) _ (both_hold (all sizes_fit (open_of k)) _ fit).1

  -- a due record has shares
  nonzero : (i day : ℕ) (p : Position) → i < k.records → day ≡ k.day → p ≡ get_or k.positions i no_position → due_nonzero day p ≡ true
  unfolding open_of
  nonzero i day p h d e =
      rw (d, e, ← get_or-take k.records k.positions i no_position h)
      (all_at (due_nonzero k.day) (take k.records k.positions) i no_position dues.1 (omega (arith, length-take-le k.records k.positions room)))

  -- and there is room for it in the sum of its security
  sum_room : (d : Position → Bool) (sums : List Shares) (i s : ℕ) (p : Position) → i < k.records → s ≡ security_of p → p ≡ get_or k.positions i no_position
      → Summed (keep d (take i k.positions)) sums → Room (sum_in sums s) p
  unfolding open_of
  sum_room d sums i s p h t e a = room_read sums s p _ t e (room_for k.positions k.records i sizes h room few d sums a)

  -- behind the walk the sums decide
  ended : (i : ℕ) (seen : List (Option Sign)) (today later : List Shares) → i ≡ k.records
      → no_clash seen (keep (is_due k.day) (drop i (open_of k))) ≡ one_sign (keep (is_due k.day) (open_of k))
      → Summed (keep (is_due k.day) (take i k.positions)) today → Summed (keep (is_later k.day) (take i k.positions)) later
      → one_sign (keep (is_due k.day) (open_of k)) && due_balanced k ≡ all (zero_at today) every_security && all (zero_at later) every_security
  unfolding open_of
  ended i seen today later e c t l =
      rw (
        sym (clash_done (is_due k.day) k.positions k.records i seen room e ∙ c),
        sym (due_by k dues.0),
        balanced_sums _ today (rw e at t),
        balanced_sums _ later (rw e at l),
      )

-- ── the walk ──

pub loop-i-init : goal.loop-i-init
loop-i-init c =
    let k = book_of c.args.b.now in
    record {
      room = length-replicate {A = Option Sign} places None;
      clash = clash_none (is_due k.day) (open_of k);
      today = summed_none (is_due k.day) k.positions;
      later = summed_none (is_later k.day) k.positions;
    }

pub sign_fits-requires : goal.sign_fits-requires
sign_fits-requires c = nonzero c.args.b.now c.requires.0 c.requires.1 c.loop-i.i _ _ (omega arith) c.day_at-day.ensures c.position_at-p.ensures

pub returns-then-not-sign_fits : goal.returns-then-not-sign_fits
unfolding open_of
returns-then-not-sign_fits c =
    let bs = c.args.b.now in
    let k = book_of bs in
    let l = c.loop-i in
    ap (λ (t : Bool). t && due_balanced k)
    (clash_found (is_due k.day) k.positions k.records l.i l.seen (room bs c.requires.0 c.requires.1) (omega arith)
    (rw (← c.day_at-day.ensures, ← c.position_at-p.ensures) (sym c.sign_fits.ensures ∙ c.if-not-sign_fits.true))
    ∙ l.invariant.clash)

pub note_sign-requires : goal.note_sign-requires
note_sign-requires c = nonzero c.args.b.now c.requires.0 c.requires.1 c.loop-i.i _ _ (omega arith) c.day_at-day.ensures c.position_at-p.ensures

pub with_quantity-requires : goal.with_quantity-requires
with_quantity-requires c =
    let bs = c.args.b.now in
    sum_room bs c.requires.0 c.requires.1 (is_due (book_of bs).day) c.loop-i.today c.loop-i.i _ _ (omega arith)
    c.security_of-s.ensures.0 c.position_at-p.ensures c.loop-i.invariant.today

pub with_quantity-requires-else-is_due : goal.with_quantity-requires-else-is_due
with_quantity-requires-else-is_due c =
    let bs = c.args.b.now in
    sum_room bs c.requires.0 c.requires.1 (is_later (book_of bs).day) c.loop-i.later c.loop-i.i _ _ (omega arith)
    c.security_of-s.ensures.0 c.position_at-p.ensures c.loop-i.invariant.later

pub loop-i-preserved : goal.loop-i-preserved
unfolding open_of
loop-i-preserved c =
    let bs = c.args.b.now in
    let k = book_of bs in
    let l = c.loop-i in
    let day = c.day_at-day.ensures in
    let here = c.position_at-p.ensures in
    let due = c.is_due.ensures in
    let p : Position = get_or k.positions l.i no_position in
    let wide = room bs c.requires.0 c.requires.1 in
    let at : l.i < length k.positions = omega (arith, wide) in
    let noted : c.note_sign.new.seen ≡ cond (is_due k.day p) (with_sign l.seen p) l.seen = rw (← day, ← here) c.note_sign.ensures in
    let today : c.if-is_due.today ≡ cond (is_due k.day p) (with_quantity l.today p) l.today =
    rw (← day, ← here)
    (elim c.if-is_due.branch [
      | then-is_due w ↦ w.today-is ∙ with_sum _ _ _ _ c.security_of-s.ensures.0 w.with_quantity.ensures ∙ sym (cond_yes _ _ (sym due ∙ w.if-is_due.true))
      | else-is_due w ↦ w.today-is ∙ sym (cond_no _ _ (sym due ∙ w.if-is_due.false))
    ]) in
    let later : c.if-is_due.later ≡ cond (is_later k.day p) (with_quantity l.later p) l.later =
    rw (← day, ← here)
    (elim c.if-is_due.branch [
      | then-is_due w ↦ w.later-is ∙ sym (cond_no _ _ (ap not (sym due ∙ w.if-is_due.true)))
      | else-is_due w ↦ w.later-is ∙ with_sum _ _ _ _ c.security_of-s.ensures.0 w.with_quantity-else-is_due.ensures ∙ sym (cond_yes _ _ (ap not (sym due ∙ w.if-is_due.false)))
    ]) in
    record {
      room = seen_length (is_due k.day) k.positions k.records l.i l.seen wide _ l.invariant.room noted;
      clash = clash_more (is_due k.day) k.positions k.records l.i l.seen wide _ (omega arith)
          (rw (← day, ← here) (sym c.sign_fits.ensures ∙ c.if-not-sign_fits.false)) noted
          ∙ l.invariant.clash;
      today = summed_step (is_due k.day) k.positions l.i l.today _ at l.invariant.today today;
      later = summed_step (is_later k.day) k.positions l.i l.later _ at l.invariant.later later;
    }

pub returns-then-sums_zero : goal.returns-then-sums_zero
returns-then-sums_zero c =
    let l = c.loop-i in
    rw (ended c.args.b.now c.requires.0 c.requires.1 l.i l.seen l.today l.later (omega arith) l.invariant.clash l.invariant.today l.invariant.later, ← c.sums_zero.ensures, c.if-sums_zero.true)
    c.sums_zero-then-sums_zero.ensures

pub returns-else-sums_zero : goal.returns-else-sums_zero
returns-else-sums_zero c =
    let l = c.loop-i in
    rw (ended c.args.b.now c.requires.0 c.requires.1 l.i l.seen l.today l.later (omega arith) l.invariant.clash l.invariant.today l.invariant.later, ← c.sums_zero.ensures, c.if-sums_zero.false)
