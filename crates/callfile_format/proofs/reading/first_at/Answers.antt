-- `callfile_format::reading::first_at` meets its contract: another kind, good codes, bad codes. Assumes nothing.
use Rattle.std.proofs.Common.{refl, sym}
use Rattle.callfile_format.specs.Kinds.{long_of, room_at}
use Rattle.callfile_format.specs.Reading.{is_none, is_early, is_create_lem, bad_create}
use Rattle.callfile_format.proofs.reading.first_at.Goals as goal
use Rattle.callfile_format.proofs.reading.first_at.Goals.{else-branch-eq0-via-then-branch-eq0+else-codes_fit_at, else-branch-eq0-via-else-branch-eq0}

pub returns-in_err-kind_at : goal.returns-in_err-kind_at
returns-in_err-kind_at c = rw c.from_residual.ensures (is_none 1 c.args.file.now c.in_err-kind_at.ensures)

pub codes_fit_at-requires : goal.codes_fit_at-requires
unfolding long_of
codes_fit_at-requires c = room_at 1 c.args.file.now _ 0 33 c.in_ok-kind_at.ensures c.if-branch-eq0.true refl

pub returns-then-codes_fit_at : goal.returns-then-codes_fit_at
returns-then-codes_fit_at c = is_create_lem 1 c.args.file.now _ c.in_ok-kind_at.ensures refl c.if-branch-eq0.true (sym c.if-codes_fit_at.ensures)

pub returns : goal.returns
returns c =
    elim c.else-branch-eq0.branch [
      | else-branch-eq0-via-then-branch-eq0+else-codes_fit_at w ↦ bad_create 1 c.args.file.now _ c.in_ok-kind_at.ensures w.if-branch-eq0.true (sym w.if-codes_fit_at.ensures)
      | else-branch-eq0-via-else-branch-eq0 w ↦ is_early 1 c.args.file.now _ c.in_ok-kind_at.ensures refl w.if-branch-eq0.false
    ]
