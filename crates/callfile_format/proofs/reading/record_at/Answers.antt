-- `callfile_format::reading::record_at` meets its contract: the first record, then kind by kind. Assumes nothing.
use Rattle.std.proofs.Common.{refl, arith, rules}
use Rattle.callfile_format.specs.Kinds.{long_of, few_kinds, room_at}
use Rattle.callfile_format.specs.Reading.{first_is, is_none, late_create, is_enter, is_amend, is_exclude, is_roll_lem, is_deposit, is_withdrawal, is_run_lem}
use Rattle.callfile_format.proofs.reading.record_at.Goals as goal

pub returns-then-place-eq1 : goal.returns-then-place-eq1
returns-then-place-eq1 c = first_is c.args.place c.args.file.now _ (omega arith) c.first_at.ensures

pub returns-in_err-kind_at : goal.returns-in_err-kind_at
returns-in_err-kind_at c = rw c.from_residual.ensures (is_none c.args.place c.args.file.now c.in_err-kind_at.ensures)

pub trade_at-requires : goal.trade_at-requires
unfolding long_of
trade_at-requires c = room_at c.args.place c.args.file.now _ 1 14 c.in_ok-kind_at.ensures c.in-1.is refl

pub returns-in-1 : goal.returns-in-1
returns-in-1 c = is_enter c.args.place c.args.file.now _ c.in_ok-kind_at.ensures c.if-place-eq1.false _ c.in-1.is c.trade_at.ensures

pub trade_at-requires-in-2 : goal.trade_at-requires-in-2
unfolding long_of
trade_at-requires-in-2 c = room_at c.args.place c.args.file.now _ 2 14 c.in_ok-kind_at.ensures c.in-2.is refl

pub returns-in-2 : goal.returns-in-2
returns-in-2 c = is_amend c.args.place c.args.file.now _ c.in_ok-kind_at.ensures c.if-place-eq1.false _ c.in-2.is c.trade_at-in-2.ensures

pub overflow_add-place : goal.overflow_add-place
unfolding long_of
overflow_add-place c = let h = room_at c.args.place c.args.file.now _ 3 3 c.in_ok-kind_at.ensures c.in-3.is refl in search rules

pub get-requires : goal.get-requires
unfolding long_of
get-requires c = omega (arith, room_at c.args.place c.args.file.now _ 3 3 c.in_ok-kind_at.ensures c.in-3.is refl)

pub returns-in-3 : goal.returns-in-3
returns-in-3 c = is_exclude c.args.place c.args.file.now _ c.in_ok-kind_at.ensures c.if-place-eq1.false _ c.in-3.is c.get.ensures.0

pub returns-in-4 : goal.returns-in-4
returns-in-4 c = is_roll_lem c.args.place c.args.file.now _ c.in_ok-kind_at.ensures c.if-place-eq1.false c.in-4.is

pub moved_at-account-requires : goal.moved_at-account-requires
unfolding long_of
moved_at-account-requires c = room_at c.args.place c.args.file.now _ 5 11 c.in_ok-kind_at.ensures c.in-5.is refl

pub returns-in-5 : goal.returns-in-5
returns-in-5 c = let m = c.moved_at-account.ensures in is_deposit c.args.place c.args.file.now _ c.in_ok-kind_at.ensures c.if-place-eq1.false _ _ _ m.0 m.1 m.2 c.in-5.is

pub moved_at-account-requires-in-6 : goal.moved_at-account-requires-in-6
unfolding long_of
moved_at-account-requires-in-6 c = room_at c.args.place c.args.file.now _ 6 11 c.in_ok-kind_at.ensures c.in-6.is refl

pub returns-in-6 : goal.returns-in-6
returns-in-6 c = let m = c.moved_at-account-in-6.ensures in is_withdrawal c.args.place c.args.file.now _ c.in_ok-kind_at.ensures c.if-place-eq1.false _ _ _ m.0 m.1 m.2 c.in-6.is

pub overflow_add-place-in-7 : goal.overflow_add-place-in-7
unfolding long_of
overflow_add-place-in-7 c = let h = room_at c.args.place c.args.file.now _ 7 2 c.in_ok-kind_at.ensures c.in-7.is refl in search rules

pub get-requires-in-7 : goal.get-requires-in-7
unfolding long_of
get-requires-in-7 c = omega (arith, room_at c.args.place c.args.file.now _ 7 2 c.in_ok-kind_at.ensures c.in-7.is refl)

pub returns-in-7 : goal.returns-in-7
returns-in-7 c = is_run_lem c.args.place c.args.file.now _ c.in_ok-kind_at.ensures c.if-place-eq1.false _ c.in-7.is c.get-in-7.ensures.0

pub returns-in_default : goal.returns-in_default
returns-in_default c = late_create c.args.place c.args.file.now _ c.in_ok-kind_at.ensures c.if-place-eq1.false (omega (arith, few_kinds _ _ c.in_ok-kind_at.ensures))
