-- `settling_counts::sides::owes_of` meets its contract. Assumes nothing.
use Rattle.std.proofs.Common.{sym, ◌∙◌}
use Rattle.settling_counts.specs.Amounts.{owes_not, owes_short, owes_long}
use Rattle.settling_counts.proofs.sides.owes_of.Goals as goal
use Rattle.settling_counts.proofs.sides.owes_of.Goals.{else-is_due_in-via-then-is_due_in+else-is_negative, else-is_due_in-via-else-is_due_in}

pub returns-then-is_negative : goal.returns-then-is_negative
returns-then-is_negative c = c.size.ensures ∙ owes_short _ _ _ (sym c.is_due_in.ensures ∙ c.if-is_due_in.true) (sym c.is_negative.ensures ∙ c.if-is_negative.true)

pub returns : goal.returns
returns c =
    elim c.else-is_due_in.branch [
      | else-is_due_in-via-then-is_due_in+else-is_negative w ↦ owes_long _ _ _ (sym c.is_due_in.ensures ∙ w.if-is_due_in.true) (sym w.is_negative.ensures ∙ w.if-is_negative.false)
      | else-is_due_in-via-else-is_due_in w ↦ owes_not _ _ _ (sym c.is_due_in.ensures ∙ w.if-is_due_in.false)
    ]
