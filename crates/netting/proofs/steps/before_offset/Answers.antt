-- `netting::steps::before_offset` meets its contract. Assumes nothing.
use Rattle.std.proofs.Common.{arith, ap, ◌∙◌, ℕ, ◌+◌}
use Rattle.rules.specs.Book.{with_day}
use Rattle.rules.specs.Layout.{book_of}
use Rattle.rules.specs.Roll.{uncharged, emptied}
use Rattle.rules.specs.declared.Book.{Book}
use Rattle.laws.specs.SoundParts.{day_small}
use Rattle.book.specs.Replacing.{with_rows}
use Rattle.book.specs.Views.{positions_long}
use Rattle.netting.specs.Before.{roll_extends, before_is}
use Rattle.netting.proofs.steps.before_offset.Goals as goal

-- the charges are zero; open positions and their count are what they were
pub put_nets-requires : goal.put_nets-requires
put_nets-requires c =
    let w = c.requires.1 in
    roll_extends (book_of c.args.b.now) c.requires.0 (positions_long c.args.b.now) _ _ w.0 w.1 w.2 _ c.clear_charges.ensures.1

pub overflow_add-day : goal.overflow_add-day
overflow_add-day c = omega (arith, day_small (book_of c.args.b.now) c.requires.0, c.day_at-day.ensures)

pub returns : goal.returns
returns c =
    let k = book_of c.args.b.now in
    let n = c.args.t.count in
    let rows = c.args.t.positions in
    let w = c.requires.1 in
    c.put_day.ensures.1
    ∙ ap (λ (b : Book). with_day b (c.day_at-day.result + 1)) (c.clear_list.ensures.1 ∙ ap emptied (c.put_nets.ensures ∙ ap (λ (b : Book). with_rows b n rows) c.clear_charges.ensures.1))
    ∙ ap (λ (d : ℕ). with_day (emptied (with_rows (uncharged k) n rows)) (d + 1)) c.day_at-day.ensures
    ∙ before_is k c.requires.0 (positions_long c.args.b.now) n rows w.0 w.1 w.2
