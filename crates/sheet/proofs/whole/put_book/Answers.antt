-- `sheet::whole::put_book` meets its contract: DAY, then P, then C. Assumes nothing.
use mathlib.Core.Path.{refl, ◌∙◌}
use mathlib.Core.List.{map}
use lib.ListN.{take}
use Rattle.rules.specs.Sheet.{open_line}
use Rattle.sheet.specs.Written.{ready_first, ready_second, ready_third, wrote_three}
use Rattle.sheet.specs.BookLines.{entry_lines}
use Rattle.sheet.specs.Whole.{book_lines_lem}
use Rattle.sheet.proofs.whole.put_book.Goals as goal

pub put_one-day-requires : goal.put_one-day-requires
put_one-day-requires c =
    let k = c.args.k.now in
    ready_first _ _ c.args.buffer.now _ _ _ (map open_line (take k.records k.positions)) (entry_lines k.charges) c.requires.1 (book_lines_lem k) _ refl

pub put_open-open-requires : goal.put_open-open-requires
put_open-open-requires c =
    let day = c.put_one-day in
    ready_second _ _ _ _ _ _ _ _ c.requires.1 (book_lines_lem c.args.k.now) _ _ day.ensures _ day.auto.buffer

pub put_charges-requires : goal.put_charges-requires
put_charges-requires c =
    let day = c.put_one-day in
    let open' = c.put_open-open in
    ready_third _ _ _ _ _ _ _ _ c.requires.1 (book_lines_lem c.args.k.now) _ _ day.ensures _ _ open'.ensures _ (open'.auto.buffer ∙ day.auto.buffer)

pub returns : goal.returns
returns c =
    let day = c.put_one-day in
    let open' = c.put_open-open in
    let charges = c.put_charges in
    wrote_three _ _ _ _ _ _ _ _ c.requires.1 (book_lines_lem c.args.k.now) _ _ day.ensures _ _ open'.ensures _ _ charges.ensures
