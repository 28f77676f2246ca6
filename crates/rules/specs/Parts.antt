-- Taking a part off a record, and charging it (document 01, "From trades to positions"): roll and run both do it this way.
use Rattle.std.specs.Prelude.{List, ℕ, ℤ, ◌-ℤ◌}
use Rattle.integers.specs.Signs.{toward_zero}
use Rattle.units_rounded.specs.Part.{part_of}
use Rattle.units.specs.Units.{shares, mils}
use Rattle.units.specs.declared.Mils.{Mils}
use Rattle.rules.specs.Book.{quantity_of, money_of, account_of, security_of, currency_of, charge_at, charged}
use Rattle.rules.specs.declared.Position.{Position}
use Rattle.rules.specs.declared.Book.{Book}

-- A part of k shares from a position of q shares and money m carries m*k/|q| truncated towards zero (units/specs/Part);
unfoldable pub part_money : Position → ℕ → ℤ
part_money p k = part_of (money_of p) (quantity_of p) k

-- the rest stays on the record.
unfoldable pub without : Position → ℕ → Position
without p k =
    record { number = p.number; quantity = shares (toward_zero (quantity_of p) k); money = mils (money_of p -ℤ part_money p k) }

-- an amount of a record is charged to its account, in the currency of its security
unfoldable pub charged_to : Book → List Mils → Position → ℤ → List Mils
charged_to b cs p m = charged cs (charge_at (account_of p) (currency_of b (security_of p))) m

-- a part of k shares taken from each of two records: each part's money is charged
unfoldable pub charged_both : Book → List Mils → Position → Position → ℕ → List Mils
charged_both b cs p q k = charged_to b (charged_to b cs p (part_money p k)) q (part_money q k)
