-- `lines::calls::line_part` meets its contract: the tally's bytes were moved on by those of the part. Assumes nothing.
use Rattle.std.proofs.Common.{rules, ◌≡◌, refl, sym, ap, ◌∙◌, List, ℕ, ◌+◌, ◌-◌, length, arith}
use Rattle.std.proofs.Math.Seq.{length-take-le}
use Rattle.rules.specs.Sheet.{line_part, line_tally, line_spot}
use Rattle.rules.specs.declared.Line.{Line}
use Rattle.rules.specs.declared.Tally.{Tally}
use Rattle.lines.specs.Counting.{tally_part, part_front, part_within}
use Rattle.lines.proofs.calls.line_part.Goals as goal
use Rattle.lines.proofs.calls.line_part.Goals.{After-unwrap_or-next}

-- the tally after the line
next_tally : (c : After-unwrap_or-next) → c.unwrap_or-next.result ≡ line_tally (length c.args.buffer.now) c.args.l c.args.tally
next_tally c = search rules

-- it moved on by the part
moved_on : (c : After-unwrap_or-next) → c.unwrap_or-next.result.bytes ≡ c.args.tally.bytes + length (line_part c.args.buffer.now c.args.l c.args.tally)
moved_on c = ap (λ (s : Tally). s.bytes) (next_tally c) ∙ tally_part c.args.buffer.now c.args.l c.args.tally

pub overflow_sub-size : goal.overflow_sub-size
overflow_sub-size c = omega (arith, moved_on (goal.at.overflow_sub-size c).After-unwrap_or-next)

pub slice_bounds-result-end : goal.slice_bounds-result-end
slice_bounds-result-end c =
    let a = c.args in
    sym (length-take-le _ _ (part_within a.buffer.now a.l a.tally _ _ c.put_counted-counted.ensures.2 (omega (arith, moved_on (goal.at.slice_bounds-result-end c).After-unwrap_or-next))))

pub returns : goal.returns
unfolding line_spot
returns c =
    let a = c.args in
    let size = c.unwrap_or-next.result.bytes - a.tally.bytes in
    let e = c.put_counted-counted.ensures in
    (part_front a.buffer.now a.l a.tally _ size e.2 (omega (arith, moved_on (goal.at.returns c).After-unwrap_or-next)), refl, c.number_of.ensures ∙ e.0)
