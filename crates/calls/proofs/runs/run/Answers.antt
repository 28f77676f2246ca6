-- `calls::runs::run` meets its contract: an unlisted security, nothing to give, a refusal, acceptance. Assumes nothing.
use Rattle.std.proofs.Common.{sym, ◌∙◌}
use Rattle.rules.specs.Layout.{book_of}
use Rattle.settling.specs.Ends.{security_below}
use Rattle.laws.specs.SoundBytes.{is_sound}
use Rattle.calls.specs.Runs.{run_unlisted, run_idle, run_accepted}
use Rattle.calls.proofs.Refused.{run_is_refused}
use Rattle.calls.proofs.runs.run.Goals as goal

pub returns-then-bad_security : goal.returns-then-bad_security
returns-then-bad_security c = run_unlisted _ c.requires _ (sym (c.bad_security.ensures _ (sym c.codes_of-codes.ensures)) ∙ c.if-bad_security.true)

pub deliverable_of-gives-requires : goal.deliverable_of-gives-requires
deliverable_of-gives-requires c =
    (is_sound _ c.requires, security_below _ _ (sym (c.bad_security.ensures (book_of c.args.book.now) (sym c.codes_of-codes.ensures)) ∙ c.if-bad_security.false))

-- nothing can be given

pub returns-then-gives-eq0 : goal.returns-then-gives-eq0
returns-then-gives-eq0 c =
    run_idle _ c.requires _ _ (record { byte = c.fits-book }) (sym (c.bad_security.ensures _ (sym c.codes_of-codes.ensures)) ∙ c.if-bad_security.false)
    (sym c.deliverable_of-gives.ensures.0 ∙ c.if-gives-eq0.true) c.of.ensures.0

-- something can

pub may_run-requires : goal.may_run-requires
may_run-requires c =
    (is_sound _ c.requires, sym (c.bad_security.ensures _ (sym c.codes_of-codes.ensures)) ∙ c.if-bad_security.false, c.deliverable_of-gives.ensures.0)

pub returns-in_err-may_run : goal.returns-in_err-may_run
returns-in_err-may_run c = run_is_refused _ c.requires _ _ _ c.from_residual.ensures.1 c.in_err-may_run.ensures

pub with_run-requires : goal.with_run-requires
with_run-requires c = (is_sound _ c.requires, sym c.in_ok-may_run.ensures, c.deliverable_of-gives.ensures.0, c.deliverable_of-gives.ensures.1)

pub returns : goal.returns
returns c = run_accepted _ c.requires _ _ _ c.in_ok-may_run.ensures c.with_run.ensures.1 c.with_run.ensures.0
