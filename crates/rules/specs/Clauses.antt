-- Each sentence of "A sound book": books at its edge that are sound, and books that break this sentence alone.
use Rattle.std.specs.Prelude.{◌≡◌, refl, true, false, List, [], ◌∷◌, ◌++◌, map, ℕ, replicate, set, ℤ, pos, neg_ℤ}
use Rattle.units.specs.Units.{mils}
use Rattle.rules.specs.Book.{with_open, with_day, with_list, with_holdings, with_charges, holding_at, charge_at, no_position, no_trade}
use Rattle.rules.specs.Sound.{records_fit, trades_fit, sound}
use Rattle.rules.specs.Opened.{everything}
use Rattle.rules.specs.Written.{at, deal, book_with}
use Rattle.rules.specs.declared.Position.{Position}
use Rattle.rules.specs.declared.Trade.{Trade}
use Rattle.rules.specs.declared.Book.{Book}

-- security 0 in the base, 1 in currency 3, the others unlisted
unfoldable base : Book
base = book_with (0 ∷ 3 ∷ [])

unfoldable opened : List Position → Book
opened ps = with_open base ps

-- so many shares at one place, and at two
unfoldable held : ℕ → ℕ → ℕ → Book
held a s n = with_holdings base (set base.holdings (holding_at a s) n)

unfoldable held_twice : ℕ → ℕ → Book
held_twice n m = with_holdings base (set (set base.holdings (holding_at 0 0) n) (holding_at 63 0) m)

-- a charge of account a in currency c, on some book
unfoldable charge : ℕ → ℕ → ℤ → Book → Book
charge a c m k = with_charges k (set k.charges (charge_at a c) (mils m))

unfoldable traded : List Trade → Book
traded ts = with_list base ts

-- tables as they stand, with counts of their own
unfoldable tables : ℕ → List Position → ℕ → List Trade → Book
tables n ps m ts =
    record { day = 0; currency = base.currency; records = n; positions = ps; holdings = base.holdings; charges = base.charges; entries = m; trades = ts }

unfoldable position_table : ℕ → List Position → Book
position_table n ps = tables n ps 0 base.trades

unfoldable trade_table : ℕ → List Trade → Book
trade_table m ts = tables 0 base.positions m ts

sounds : List Book
sounds =
    base ∷
    with_day base 60_000 ∷
    book_with (0 ∷ 1 ∷ 2 ∷ 3 ∷ []) ∷
    opened (at 0 0 0 (pos 256_000_000) (pos 2_560_000_000_000_000) ∷ at 0 1 0 (neg_ℤ (pos 256_000_000)) (neg_ℤ (pos 2_560_000_000_000_000)) ∷ []) ∷
    -- 0 shares with money, due on day + 1
    opened (at 1 0 0 (pos 0) (pos 1) ∷ []) ∷
    -- the record due on day + 1 may have the other sign
    opened (at 0 1 0 (pos 1) (pos 0) ∷ at 0 2 0 (neg_ℤ (pos 1)) (pos 0) ∷ at 1 1 0 (neg_ℤ (pos 1)) (pos 0) ∷ at 1 2 0 (pos 1) (pos 0) ∷ []) ∷
    held 1 1 1_000_000_000_000 ∷
    held_twice 400_000_000_000 600_000_000_000 ∷
    charge 63 3 (neg_ℤ (pos 2_621_440_000_000_000_000)) base ∷
    charge 0 0 (pos 2_621_439_999_999_999_999) (opened (at 1 0 0 (pos 0) (neg_ℤ (pos 1)) ∷ [])) ∷
    -- for each account and currency: money of the account in another currency, and of another account in this one
    charge 0 0 (pos 2_621_440_000_000_000_000) (opened (at 1 0 1 (pos 0) (pos 1) ∷ at 1 1 0 (pos 0) (pos 1) ∷ [])) ∷
    traded (deal 65_535 0 63 1 1_000_000 9_999_999 ∷ deal 2 0 0 0 0 0 ∷ deal 1 63 0 0 1 1 ∷ []) ∷
    []

sounds_are : map sound sounds ≡ replicate 12 true
unfolding everything base opened held held_twice charge traded sounds
sounds_are = refl

unsounds : List Book
unsounds =
    -- Day 0 to 60,000.
    with_day base 60_001 ∷
    -- Each security has a currency, or 255 for unlisted.
    book_with (4 ∷ []) ∷
    book_with (254 ∷ []) ∷
    -- Records ascend strictly,
    position_table 2 (at 1 0 0 (pos 0) (pos 1) ∷ at 1 0 0 (pos 0) (pos 1) ∷ replicate 1_022 no_position) ∷
    position_table 2 (at 1 1 0 (pos 0) (pos 1) ∷ at 1 0 0 (pos 0) (pos 1) ∷ replicate 1_022 no_position) ∷
    -- unused room is zero.
    position_table 0 (at 1 0 0 (pos 0) (pos 1) ∷ replicate 1_023 no_position) ∷
    position_table 0 (replicate 1_023 no_position ++ (at 0 0 0 (pos 0) (pos 1) ∷ [])) ∷
    -- Quantity within 256,000,000 and money within 2,560,000,000,000,000 either side of zero, not both zero.
    opened (at 0 0 0 (pos 256_000_001) (pos 0) ∷ at 0 1 0 (neg_ℤ (pos 256_000_000)) (pos 0) ∷ at 0 2 0 (neg_ℤ (pos 1)) (pos 0) ∷ []) ∷
    opened (at 0 0 0 (pos 256_000_000) (pos 0) ∷ at 0 1 0 (pos 1) (pos 0) ∷ at 0 2 0 (neg_ℤ (pos 256_000_001)) (pos 0) ∷ []) ∷
    opened (at 1 0 0 (pos 0) (pos 2_560_000_000_000_001) ∷ []) ∷
    opened (at 1 0 0 (pos 0) (neg_ℤ (pos 2_560_000_000_000_001)) ∷ []) ∷
    opened (at 1 0 0 (pos 0) (pos 0) ∷ []) ∷
    -- No due day beyond day + 1.
    opened (at 2 0 0 (pos 0) (pos 1) ∷ []) ∷
    -- A record due by the book's day has nonzero quantity,
    opened (at 0 0 0 (pos 0) (pos 1) ∷ []) ∷
    -- and an account's due records in one security have one sign.
    with_day (opened (at 0 1 0 (pos 1) (pos 0) ∷ at 0 2 0 (neg_ℤ (pos 1)) (pos 0) ∷ at 1 1 0 (neg_ℤ (pos 1)) (pos 0) ∷ at 1 3 0 (pos 1) (pos 0) ∷ [])) 1 ∷
    -- Per security, quantities due by the day total zero, as do those due on day + 1.
    opened (at 0 1 0 (pos 1) (pos 0) ∷ []) ∷
    opened (at 1 1 0 (pos 1) (pos 0) ∷ []) ∷
    opened (at 0 1 0 (pos 1) (pos 0) ∷ at 1 2 0 (neg_ℤ (pos 1)) (pos 0) ∷ []) ∷
    opened (at 0 1 0 (pos 1) (pos 0) ∷ at 0 2 1 (neg_ℤ (pos 1)) (pos 0) ∷ []) ∷
    -- Holdings 0 to 10^12, each security's total too.
    held 1 1 1_000_000_000_001 ∷
    held_twice 400_000_000_000 600_000_000_001 ∷
    -- An unlisted security has no records and no holdings.
    opened (at 1 0 2 (pos 0) (pos 1) ∷ []) ∷
    held 0 2 1 ∷
    -- The size of the day's charge plus the sizes of open money is at most 2,621,440,000,000,000,000.
    charge 63 3 (neg_ℤ (pos 2_621_440_000_000_000_001)) base ∷
    charge 0 0 (pos 2_621_440_000_000_000_001) base ∷
    charge 0 0 (pos 2_621_440_000_000_000_000) (opened (at 1 0 0 (pos 0) (neg_ℤ (pos 1)) ∷ [])) ∷
    -- Trades: at most 256, numbers distinct and nonzero,
    traded (deal 1 1 2 0 1 1 ∷ deal 1 0 0 0 0 0 ∷ []) ∷
    traded (deal 0 1 2 0 1 1 ∷ []) ∷
    -- fields valid;
    traded (deal 1 64 2 0 1 1 ∷ []) ∷
    traded (deal 1 1 64 0 1 1 ∷ []) ∷
    traded (deal 1 1 2 2 1 1 ∷ []) ∷
    traded (deal 1 1 2 32 1 1 ∷ []) ∷
    traded (deal 1 1 2 0 1_000_001 1 ∷ []) ∷
    traded (deal 1 1 2 0 1 0 ∷ []) ∷
    traded (deal 1 1 2 0 1 10_000_000 ∷ []) ∷
    traded (deal 1 1 1 0 1 1 ∷ []) ∷
    -- an excluded one keeps its number and order, other fields zero.
    traded (deal 1 1 0 0 0 0 ∷ []) ∷
    traded (deal 1 0 0 0 0 1 ∷ []) ∷
    -- unused room of the list
    trade_table 0 (deal 1 1 2 0 1 1 ∷ replicate 255 no_trade) ∷
    []

unsounds_are_not : map sound unsounds ≡ replicate 39 false
unfolding everything base opened held held_twice charge traded tables position_table trade_table unsounds
unsounds_are_not = refl

-- ── counts: 1,025 records or 257 trades break their sentence in every book. (1,024 and 256 are sound, one more of either is not: the crate sheet_examples.) ──

too_many_records : (k : Book) → k.records ≡ 1_025 → records_fit k ≡ false
unfolding records_fit
too_many_records k h = rw (records_fit, h)

too_many_trades : (k : Book) → k.entries ≡ 257 → trades_fit k ≡ false
unfolding trades_fit
too_many_trades k h = rw (trades_fit, h)
