-- `offsetting_meetings::meetings::meeting` meets its contract. Assumes nothing.
use Rattle.std.proofs.Common.{◌≡◌, true, ℕ, ℤ, nat_abs, ◌+ℤ◌, sym, ap, ◌∙◌, arith}
use Rattle.units.specs.Units.{shares_of}
use Rattle.units.specs.declared.Mils.{Mils}
use Rattle.units_rounded.specs.PartLaws.{PartAsks}
use Rattle.rules.specs.Book.{quantity_of, money_of}
use Rattle.rules.specs.Parts.{part_money}
use Rattle.rules.specs.Roll.{faces, smaller}
use Rattle.rules.specs.declared.Position.{Position}
use Rattle.laws.specs.Lessened.{some_left}
use Rattle.laws.specs.Facing.{facing}
use Rattle.laws.specs.Taking.{smaller_newly, smaller_older}
use Rattle.offsetting_meetings.specs.Meeting.{MeetAsks, passed_of, meeting_passed, met_is}
use Rattle.offsetting_meetings.proofs.meetings.meeting.Goals as goal

pub returns-then-not-is_facing : goal.returns-then-not-is_facing
unfolding passed_of
returns-then-not-is_facing c = sym (meeting_passed c.args.charge c.args.p c.args.o (sym c.is_facing.ensures ∙ c.if-not-is_facing.true))

-- records that face each other both have shares, and no fewer than the smaller of the two

module _ (charge : Mils) (p o : Position) (asks : MeetAsks charge p o) (k : ℕ) (f : faces p o ≡ true) (e : k ≡ smaller p o) where
  asks-older : PartAsks (money_of o) (quantity_of o) k
  asks-older =
      record {
        money = asks.older.money;
        some = some_left (quantity_of o) (facing p o f).older;
        shares = asks.older.shares;
        within = rw e (smaller_older p o);
      }

  asks-newly : PartAsks (money_of p) (quantity_of p) k
  asks-newly =
      record {
        money = asks.newly.money;
        some = some_left (quantity_of p) (facing p o f).newly;
        shares = asks.newly.shares;
        within = rw e (smaller_newly p o);
      }

pub with_part-once-requires : goal.with_part-once-requires
with_part-once-requires c =
    (asks-older _ _ _ c.requires _ (sym c.is_facing.ensures ∙ c.if-not-is_facing.false) c.smaller_of-k.ensures, omega (arith, c.requires.room, c.requires.older.money))

pub with_part-both-requires : goal.with_part-both-requires
with_part-both-requires c = (
  asks-newly _ _ _ c.requires _ (sym c.is_facing.ensures ∙ c.if-not-is_facing.false) c.smaller_of-k.ensures,
  omega (arith, c.with_part-once.ensures.1, c.requires.room, c.requires.older.money, c.requires.newly.money),
)

pub rest_of-requires : goal.rest_of-requires
rest_of-requires c = asks-older _ _ _ c.requires _ (sym c.is_facing.ensures ∙ c.if-not-is_facing.false) c.smaller_of-k.ensures

pub rest_of-requires-2 : goal.rest_of-requires-2
rest_of-requires-2 c = asks-newly _ _ _ c.requires _ (sym c.is_facing.ensures ∙ c.if-not-is_facing.false) c.smaller_of-k.ensures

pub returns : goal.returns
returns c =
    let s = c.args in
    met_is s.charge s.p s.o _ _ _ _ (sym c.is_facing.ensures ∙ c.if-not-is_facing.false) c.smaller_of-k.ensures
    c.rest_of.ensures c.rest_of-2.ensures
    (c.with_part-both.ensures.0 ∙ ap (λ (z : ℤ). z +ℤ part_money s.p (nat_abs (shares_of c.smaller_of-k.result))) c.with_part-once.ensures.0)
