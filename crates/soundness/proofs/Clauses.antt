-- The groups of sentences of "A sound book" that the code tests make the whole.
use Rattle.std.specs.Prelude.{◌≡◌, refl, Bool, true, false, ◌&&◌, ◌≤◌, leb, drop}
use Rattle.std.proofs.Common.{sym}
use Rattle.std.proofs.Math.Bool.{and_assoc}
use Rattle.rules.specs.Words.{all, keep}
use Rattle.rules.specs.Bounds.{accounts, securities, most_records}
use Rattle.rules.specs.Book.{open_of}
use Rattle.rules.specs.Sound.{day_fits, codes_fit, ascends, is_blank, records_fit, sizes_fit, is_due, one_sign, due_balanced, by_account, holdings_fit, holds_listed, unlisted_empty, money_fits, trades_fit, sound}
use Rattle.rules.specs.declared.Book.{Book}
use Rattle.laws.specs.Cases.{both_hold, and_hold}
use Rattle.sound_positions.specs.Each.{each_fits, room_fits, room_within}
use Rattle.sound_tables.specs.Held.{held_fits}
use Rattle.sound_tables.specs.Stakes.{MoneyAsks}
use Rattle.soundness.specs.Clauses.{positions_fit, records_listed}

-- ── the groups make the whole ──

-- the order of the records is tested behind the room
regroup_positions : (count ascent blank each together rest : Bool)
    → ((count && blank) && ((ascent && each) && together)) && rest ≡ (count && (ascent && blank)) && (each && (together && rest))
regroup_positions false ascent blank each together rest = refl
regroup_positions true false false each together rest = refl
regroup_positions true false true each together rest = refl
regroup_positions true true false each together rest = refl
regroup_positions true true true each together rest = and_assoc each together rest

-- the holdings of unlisted securities are tested with the other holdings
regroup_holdings : (held heldListed records_listed rest : Bool)
    → (held && heldListed) && (records_listed && rest) ≡ held && ((records_listed && heldListed) && rest)
regroup_holdings false heldListed records_listed rest = refl
regroup_holdings true false false rest = refl
regroup_holdings true false true rest = refl
regroup_holdings true true false rest = refl
regroup_holdings true true true rest = refl

pub sound_parts : (k : Book)
    → sound k ≡ day_fits k && (codes_fit k && (positions_fit k && (held_fits k && (records_listed k && (money_fits k && trades_fit k)))))
unfolding sound records_fit unlisted_empty
sound_parts k =
    sym (rw (
      regroup_holdings (holdings_fit k) (all (holds_listed k.currency) (by_account securities accounts k.holdings)) (records_listed k) (money_fits k && trades_fit k),
      regroup_positions (leb k.records most_records) (ascends (open_of k)) (all is_blank (drop k.records k.positions)) (each_fits k)
          (one_sign (keep (is_due k.day) (open_of k)) && due_balanced k) _,
    )
    (simp and_assoc))

-- ── what the tests after the first ones count on ──

pub positions_records : (k : Book) → positions_fit k ≡ true → k.records ≤ most_records
positions_records k e = room_within k (both_hold (room_fits k) _ e).0

positions_sizes : (k : Book) → positions_fit k ≡ true → all sizes_fit (open_of k) ≡ true
positions_sizes k e =
    let each = (both_hold (ascends (open_of k) && each_fits k) _ (both_hold (room_fits k) _ e).1).0 in
    (both_hold (all sizes_fit (open_of k)) _ (both_hold (ascends (open_of k)) (each_fits k) each).1).0

pub money_asks : (k : Book) → codes_fit k ≡ true → positions_fit k ≡ true → held_fits k ≡ true → records_listed k ≡ true → MoneyAsks k
unfolding unlisted_empty
money_asks k c p h u =
    record {
      records = positions_records k p;
      sizes = positions_sizes k p;
      codes = c;
      listed = and_hold u (both_hold (holdings_fit k) _ h).1;
    }
