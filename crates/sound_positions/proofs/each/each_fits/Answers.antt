-- `sound_positions::each::each_fits` meets its contract. The records before i ascend and pass the test. Assumes nothing.
use Rattle.std.proofs.Common.{◌≡◌, sym, ap, ◌∙◌, Bool, true, ◌&&◌, ◌≤◌, length, arith}
use Rattle.std.proofs.Math.Bool.{and-false}
use Rattle.rules.specs.Book.{no_position, open_of}
use Rattle.rules.specs.Layout.{book_of}
use Rattle.rules.specs.Sound.{ascends}
use Rattle.rules.specs.declared.Position.{Position}
use Rattle.laws.specs.Walks.{all_none, all_more}
use Rattle.book.specs.Views.{positions_long}
use Rattle.sound_positions.specs.Table.{take_fails, take_done}
use Rattle.sound_positions.specs.Ascent.{number_at, least_first, least_next, ascends_few, ascends_more, ascends_fails}
use Rattle.sound_positions.specs.Each.{record_fits, each_fits, each_fits_lem}
use Rattle.sound_positions.proofs.each.each_fits.Goals as goal
use Rattle.sound_positions.proofs.each.each_fits.Goals.{then-number-least-via-then-number-least, then-number-least-via-else-number-least+then-not-record_fits}

pub loop-i-init : goal.loop-i-init
loop-i-init c =
    let l = (book_of c.args.b.now).positions in
    record { least = least_first l; ascend = ascends_few 0 l (omega arith); fit = all_none _ l }

pub returns-then-number-least : goal.returns-then-number-least
unfolding open_of
returns-then-number-least c =
    let bs = c.args.b.now in
    let k = book_of bs in
    let i = c.loop-i.i in
    let room : k.records ≤ length k.positions = omega (arith, positions_long bs) in
    let number : c.position_at-p.result.number ≡ number_at k.positions i = ap (λ (p : Position). p.number) c.position_at-p.ensures in
    elim c.then-number-least.branch [
      | then-number-least-via-then-number-least w ↦
          ap (λ (t : Bool). t && each_fits k) (ascends_fails k.positions k.records i room (omega arith) (omega (arith, c.loop-i.invariant.least)))
      | then-number-least-via-else-number-least+then-not-record_fits w ↦
          sym (and-false (ascends (open_of k)))
          ∙ ap (λ (t : Bool). ascends (open_of k) && t)
          (take_fails (record_fits k.day) k.positions k.records i no_position room (omega arith)
          (rw (← c.day_at-day.ensures, ← c.position_at-p.ensures) (sym w.record_fits.ensures ∙ w.if-not-record_fits.true))
          ∙ each_fits_lem k)
    ]

pub loop-i-preserved : goal.loop-i-preserved
loop-i-preserved c =
    let bs = c.args.b.now in
    let k = book_of bs in
    let l = c.loop-i in
    let number : c.position_at-p.result.number ≡ number_at k.positions l.i = ap (λ (p : Position). p.number) c.position_at-p.ensures in
    record {
      least = omega (arith, least_next k.positions l.i);
      ascend = ascends_more k.positions l.i (omega (arith, positions_long bs)) l.invariant.ascend (omega (arith, l.invariant.least));
      fit = all_more (record_fits k.day) k.positions l.i no_position (omega (arith, positions_long bs)) l.invariant.fit
          (rw (← c.day_at-day.ensures, ← c.position_at-p.ensures) (sym c.record_fits.ensures ∙ c.if-not-record_fits.false));
    }

pub returns : goal.returns
unfolding open_of
returns c =
    let k = book_of c.args.b.now in
    let l = c.loop-i in
    let e : l.i ≡ k.records = omega arith in
    let a : ascends (open_of k) ≡ true = rw e at l.invariant.ascend in
    rw a (take_done (record_fits k.day) k.positions k.records l.i e l.invariant.fit ∙ each_fits_lem k)
