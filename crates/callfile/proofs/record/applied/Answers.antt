-- `callfile::record::applied` meets its contract: record by record. Assumes nothing.
use Rattle.std.proofs.Common.{ℕ, ◌+◌, ◌-◌, ◌≡◌, take, drop, refl, ap, arith, rules}
use Rattle.rules.specs.Calls.{figure}
use Rattle.callfile_format.specs.Kinds.{short_at}
use Rattle.callfile_format.specs.Reading.{says, is_none}
use Rattle.callfile.specs.Answering.{place_small}
use Rattle.callfile.specs.Applying.{none_done, call_done, run_done, codes_there, create_answered}
use Rattle.callfile.proofs.record.applied.Goals as goal

pub returns-in_default : goal.returns-in_default
unfolding says
returns-in_default c = none_done _ _ _ c.requires.0 (rw c.in_default.is at c.requires.1)

pub next_of-requires : goal.next_of-requires
next_of-requires c = place_small _ _ _ c.requires.0

pub returns-in_default-next_of : goal.returns-in_default-next_of
unfolding says
returns-in_default-next_of c =
    let a = c.args in
    none_done _ _ _ c.requires.0 (is_none a.place a.file.now (short_at a.place a.file.now c.in_default-next_of.ensures))

pub slice_bounds-codes-end : goal.slice_bounds-codes-end
unfolding says
slice_bounds-codes-end c = let h = codes_there _ _ _ c.requires.0 (rw (c.in-Some.is, c.in-Create.is) at c.requires.1) in search rules

pub returns-in-Create : goal.returns-in-Create
unfolding says
returns-in-Create c =
    let a = c.args in
    let n : a.place + 35 - (a.place + 3) ≡ 32 = omega arith in
    create_answered _ _ _ c.requires.0 (rw (c.in-Some.is, c.in-Create.is) at c.requires.1) _ (ap (λ (n : ℕ). take n (drop (a.place + 3) a.file.now)) n) _ _ _ _
    c.create.ensures (λ _. c.in-Some-next_of.ensures.1) c.answer_of.ensures

pub returns-in-Enter : goal.returns-in-Enter
unfolding says figure
returns-in-Enter c =
    call_done _ _ _ c.requires.0 _ _ _ _ _ (rw (c.in-Some.is, c.in-Enter.is) at c.requires.1) refl
    c.enter.ensures (λ _. c.in-Some-next_of.ensures.1) c.answer_of-in-Enter.ensures

pub returns-in-Amend : goal.returns-in-Amend
unfolding says figure
returns-in-Amend c =
    call_done _ _ _ c.requires.0 _ _ _ _ _ (rw (c.in-Some.is, c.in-Amend.is) at c.requires.1) refl
    c.amend.ensures (λ _. c.in-Some-next_of.ensures.1) c.answer_of-in-Amend.ensures

pub returns-in-Exclude : goal.returns-in-Exclude
unfolding says figure
returns-in-Exclude c =
    call_done _ _ _ c.requires.0 _ _ _ _ _ (rw (c.in-Some.is, c.in-Exclude.is) at c.requires.1) refl
    c.exclude.ensures (λ _. c.in-Some-next_of.ensures.1) c.answer_of-in-Exclude.ensures

pub returns-in-Roll : goal.returns-in-Roll
unfolding says figure
returns-in-Roll c =
    call_done _ _ _ c.requires.0 _ _ _ _ _ (rw (c.in-Some.is, c.in-Roll.is) at c.requires.1) refl
    c.roll.ensures (λ _. c.in-Some-next_of.ensures.1) c.answer_of-in-Roll.ensures

pub returns-in-Deposit : goal.returns-in-Deposit
unfolding says figure
returns-in-Deposit c =
    call_done _ _ _ c.requires.0 _ _ _ _ _ (rw (c.in-Some.is, c.in-Deposit.is) at c.requires.1) refl
    c.deposit.ensures (λ _. c.in-Some-next_of.ensures.1) c.answer_of-in-Deposit.ensures

pub returns-in-Withdraw : goal.returns-in-Withdraw
unfolding says figure
returns-in-Withdraw c =
    call_done _ _ _ c.requires.0 _ _ _ _ _ (rw (c.in-Some.is, c.in-Withdraw.is) at c.requires.1) refl
    c.withdraw.ensures (λ _. c.in-Some-next_of.ensures.1) c.answer_of-in-Withdraw.ensures

pub returns-in-Run : goal.returns-in-Run
unfolding says
returns-in-Run c =
    run_done _ _ _ c.requires.0 _ _ _ _ _ (rw (c.in-Some.is, c.in-Run.is) at c.requires.1)
    c.run.ensures.0 c.run.ensures.1 (λ _. c.in-Some-next_of.ensures.1) c.ran.ensures
