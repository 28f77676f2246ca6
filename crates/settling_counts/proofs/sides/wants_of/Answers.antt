-- `settling_counts::sides::wants_of` meets its contract. Assumes nothing.
use Rattle.std.proofs.Common.{sym, ◌∙◌}
use Rattle.settling_counts.specs.Amounts.{wants_not, wants_short, wants_long}
use Rattle.settling_counts.proofs.sides.wants_of.Goals as goal
use Rattle.settling_counts.proofs.sides.wants_of.Goals.{else-is_due_in-via-then-is_due_in+else-not-is_negative, else-is_due_in-via-else-is_due_in}

pub returns-then-not-is_negative : goal.returns-then-not-is_negative
returns-then-not-is_negative c = c.size.ensures ∙ wants_long _ _ _ (sym c.is_due_in.ensures ∙ c.if-is_due_in.true) (sym c.is_negative.ensures ∙ c.if-not-is_negative.true)

pub returns : goal.returns
returns c =
    elim c.else-is_due_in.branch [
      | else-is_due_in-via-then-is_due_in+else-not-is_negative w ↦ wants_short _ _ _ (sym c.is_due_in.ensures ∙ w.if-is_due_in.true) (sym w.is_negative.ensures ∙ w.if-not-is_negative.false)
      | else-is_due_in-via-else-is_due_in w ↦ wants_not _ _ _ (sym c.is_due_in.ensures ∙ w.if-is_due_in.false)
    ]
