-- `wickdamson::sheet_lines::write` meets its contract: the tally's bytes were moved on by those of the part. Assumes nothing.
use Rattle.std.proofs.Common.{rules, ◌≡◌, arith, ap, ◌∙◌, length}
use Rattle.lines.specs.Counting.{tally_part}
use Rattle.rules.specs.Sheet.{line_tally}
use Rattle.rules.specs.declared.Tally.{Tally}
use Rattle.wickdamson.specs.Lines.{tally_of}
use Rattle.wickdamson.proofs.sheet_lines.write.Goals as goal
use Rattle.wickdamson.proofs.sheet_lines.write.Goals.{After-unwrap_or-after}

-- the tally after the line
next_tally : (c : After-unwrap_or-after) → c.unwrap_or-after.result ≡ line_tally (length c.args.buffer.now) c.args.l (tally_of c.args.lines.now c.args.bytes.now)
next_tally c = search rules

pub overflow_sub-size : goal.overflow_sub-size
overflow_sub-size c =
    let a = c.args in
    let moved_on = ap (λ (t : Tally). t.bytes) (next_tally (goal.at.overflow_sub-size c).After-unwrap_or-after) ∙ tally_part a.buffer.now a.l (tally_of a.lines.now a.bytes.now) in
    omega (arith, moved_on)

pub returns : goal.returns
returns c =
    let a = c.args in
    let e = c.put_counted-counted.ensures in
    let t = next_tally (goal.at.returns c).After-unwrap_or-after in
    let moved_on = ap (λ (t : Tally). t.bytes) t ∙ tally_part a.buffer.now a.l (tally_of a.lines.now a.bytes.now) in
    record { answers = c.number_of.ensures ∙ e.0; leaves = e.2; tallies = t; sized = omega (arith, moved_on) }
