-- The settlement run as the code walks it: each record that owes shares, by ascending number, meets all records, by ascending number.
-- A meeting is of the smallest of what the one owes, what its account holds, and what the other wants, each as it is at that moment.
use Rattle.std.specs.Prelude.{Bool, cond, ◌&&◌, List, ℕ, zero, suc, ◌+◌, min, eqb, ltb, get_or}
use Rattle.units.specs.declared.Mils.{Mils}
use Rattle.rules.specs.Book.{quantity_of, account_of, security_of, open_of, holding_at}
use Rattle.rules.specs.Sound.{is_due}
use Rattle.rules.specs.Parts.{charged_both}
use Rattle.rules.specs.Run.{short_of, long_of, moved}
use Rattle.rules.specs.declared.Position.{Position}
use Rattle.rules.specs.declared.Book.{Book}
use Rattle.laws.specs.Rows.{row, without_both}

-- what a record owes, and wants, of security s, if it is due on the day
unfoldable pub is_due_in : ℕ → ℕ → Position → Bool
is_due_in day s p = eqb (security_of p) s && is_due day p

unfoldable pub owes : ℕ → ℕ → Position → ℕ
owes day s p = cond (is_due_in day s p) (short_of (quantity_of p)) 0

unfoldable pub wants : ℕ → ℕ → Position → ℕ
wants day s p = cond (is_due_in day s p) (long_of (quantity_of p)) 0

-- a walk so far: records, holdings, charges, and the shares moved
pub record Walking : Type 0 where
  pub records : List Position
  pub holdings : List ℕ
  pub charges : List Mils
  pub shares : ℕ

-- what the record in row g can give now: its shares, or what its account holds if that is less
unfoldable pub left_to_give : ℕ → ℕ → Walking → ℕ → ℕ
left_to_give day s x g = min (owes day s (row x.records g)) (get_or x.holdings (holding_at (account_of (row x.records g)) s) 0)

-- the shares of a meeting of rows g and r
unfoldable pub size_of : ℕ → ℕ → Walking → ℕ → ℕ → ℕ
size_of day s x g r = min (left_to_give day s x g) (wants day s (row x.records r))

-- one meeting of rows g and r, of k shares
unfoldable pub met_at : Book → ℕ → Walking → ℕ → ℕ → ℕ → Walking
met_at b s x g r k =
    let giver = row x.records g in
    let receiver = row x.records r in
    record {
      records = without_both x.records g r k;
      holdings = moved x.holdings (holding_at (account_of giver) s) (holding_at (account_of receiver) s) k;
      charges = charged_both b x.charges giver receiver k;
      shares = x.shares + k;
    }

-- who wants nothing or has nothing to give does not meet
unfoldable pub meet : Book → ℕ → ℕ → ℕ → Walking → Walking
meet b s g r x =
    let k = size_of b.day s x g r in
    let some = cond (ltb 0 k) (met_at b s x g r k) x in
    cond (ltb 0 (wants b.day s (row x.records r))) some x

-- row g meets the n rows from r on
unfoldable pub serve : Book → ℕ → ℕ → ℕ → ℕ → Walking → Walking
serve b s g zero r x = x
serve b s g (suc n) r x = serve b s g n (suc r) (meet b s g r x)

-- each of the n rows from g on, if it owes, meets all rows
unfoldable pub search : Book → ℕ → ℕ → ℕ → Walking → Walking
search b s zero g x = x
search b s (suc n) g x =
    search b s n (suc g) (cond (ltb 0 (owes b.day s (row x.records g))) (serve b s g b.records 0 x) x)

unfoldable pub walked : Book → ℕ → Walking
walked b s = search b s b.records 0 (record { records = open_of b; holdings = b.holdings; charges = b.charges; shares = 0 })
