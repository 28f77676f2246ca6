-- `callfile_format::reading::kind_at` meets its contract: what each test rules out. Assumes nothing.
use Rattle.std.proofs.Common.{sym, ap, ◌∙◌, arith, Some}
use Rattle.callfile_format.specs.Kinds.{short_at, cut_at, none_at, other_at, found_at}
use Rattle.callfile_format.proofs.reading.kind_at.Goals as goal
use Rattle.callfile_format.proofs.reading.kind_at.Goals.{then-n-lt2-via-then-n-lt2, then-n-lt2-via-else-n-lt2+then-n-place}

pub returns-then-n-lt2 : goal.returns-then-n-lt2
returns-then-n-lt2 c =
    elim c.then-n-lt2.branch [
      | then-n-lt2-via-then-n-lt2 w ↦ short_at c.args.place c.args.file.now (omega arith)
      | then-n-lt2-via-else-n-lt2+then-n-place w ↦ short_at c.args.place c.args.file.now (omega arith)
    ]

pub returns-then-n-place-2 : goal.returns-then-n-place-2
returns-then-n-place-2 c = cut_at _ _ _ c.get-long.ensures.0 (omega arith) (omega arith)

pub returns-then-long-eq0 : goal.returns-then-long-eq0
returns-then-long-eq0 c = none_at _ _ _ c.get-long.ensures.0 c.if-long-eq0.true

pub returns-in_err-long_of : goal.returns-in_err-long_of
returns-in_err-long_of c = rw c.from_residual.ensures (other_at _ _ _ c.get-long.ensures.0 _ c.get-kind.ensures.0 (λ e. let h = c.in_err-long_of.ensures in cc))

pub returns-then-branch-long : goal.returns-then-branch-long
returns-then-branch-long c =
    other_at _ _ _ c.get-long.ensures.0 _ c.get-kind.ensures.0
    (λ e. c.if-branch-long.true (let h = c.in_ok-long_of.ensures in cc))

pub returns : goal.returns
returns c =
    found_at _ _ _ c.get-long.ensures.0 _ c.get-kind.ensures.0
    (omega arith) (sym c.in_ok-long_of.ensures ∙ ap Some c.if-branch-long.false)
