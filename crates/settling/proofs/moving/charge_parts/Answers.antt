-- `settling::moving::charge_parts` meets its contract: the receiver's charge is read when the giver's is set. Assumes nothing.
use Rattle.std.proofs.Common.{ap}
use Rattle.rules.specs.Book.{with_charges}
use Rattle.rules.specs.Layout.{book_of}
use Rattle.settling.specs.Charges.{second_fits, both_charged}
use Rattle.settling.proofs.moving.charge_parts.Goals as goal

pub with_part-received-requires : goal.with_part-received-requires
unfolding with_charges
with_part-received-requires c =
    let small = rw c.charge_at.ensures at c.with_part-given.ensures.1 in (
      c.requires.receiver,
      rw (c.charge_at-2.ensures, c.put_charge.ensures.1)
          (second_fits _ _ _ _ _ c.requires _ c.place_of-giver_charge.ensures.1 _ small _ c.place_of-receiver_charge.ensures.1),
    )

pub returns : goal.returns
unfolding with_charges
returns c =
    rw (c.put_charge-2.ensures.1, c.put_charge.ensures.1)
    (ap (with_charges (book_of c.args.b.now))
    (both_charged _ _ _ _ _ _ _ _ _ (rw c.codes_of-codes.ensures at c.place_of-giver_charge.ensures.0) (rw c.charge_at.ensures at c.with_part-given.ensures.0)
    (rw c.codes_of-codes.ensures at c.place_of-receiver_charge.ensures.0) (rw (c.charge_at-2.ensures, c.put_charge.ensures.1) at c.with_part-received.ensures.0)))
