-- The book: its records, their numbers, what it holds, the empty book (document 01, "What the book covers", "A sound book").
use Rattle.std.specs.Prelude.{Bool, List, ◌++◌, ℕ, ◌+◌, ◌*◌, ◌-◌, ◌/◌, ◌%◌, length, get_or, take, set, replicate, eqb, ℤ, pos, nat_abs, ◌+ℤ◌}
use Rattle.units.specs.Units.{shares_of, mils_of, shares, mils}
use Rattle.units.specs.declared.Mils.{Mils}
use Rattle.rules.specs.Bounds.{securities, currencies, accounts, no_currency, most_records, most_trades}
use Rattle.rules.specs.declared.Position.{Position}
use Rattle.rules.specs.declared.Trade.{Trade}
use Rattle.rules.specs.declared.Book.{Book}

-- ── records ──

-- Positive quantity: the account receives shares. Positive money: the account pays.
abbrev pub quantity_of : Position → ℤ
quantity_of p = shares_of p.quantity

abbrev pub money_of : Position → ℤ
money_of p = mils_of p.money

unfoldable pub is_zero : ℤ → Bool
is_zero z = eqb (nat_abs z) 0

-- Position number = due day * 2,048 + account * 32 + security.
unfoldable pub number_of : ℕ → ℕ → ℕ → ℕ
number_of due account security = due * 2_048 + account * 32 + security

unfoldable pub due_of : Position → ℕ
due_of p = p.number / 2_048

unfoldable pub account_of : Position → ℕ
account_of p = p.number / 32 % 64

unfoldable pub security_of : Position → ℕ
security_of p = p.number % 32

-- ── tables: what is in use, and zeros behind it ──

abbrev pub no_position : Position
no_position = record { number = 0; quantity = shares (pos 0); money = mils (pos 0) }

abbrev pub no_trade : Trade
no_trade = record { number = 0; buyer = 0; seller = 0; security = 0; quantity = 0; price = record { 0 = 0 } }

-- the open positions, and today's list
unfoldable pub open_of : Book → List Position
open_of k = take k.records k.positions

unfoldable pub list_of : Book → List Trade
list_of k = take k.entries k.trades

-- the book with other open positions, another list, other holdings, other charges, another day
unfoldable pub with_open : Book → List Position → Book
with_open k ps =
    record {
      day = k.day;
      currency = k.currency;
      records = length ps;
      positions = ps ++ replicate (most_records - length ps) no_position;
      holdings = k.holdings;
      charges = k.charges;
      entries = k.entries;
      trades = k.trades;
    }

unfoldable pub with_list : Book → List Trade → Book
with_list k ts =
    record {
      day = k.day;
      currency = k.currency;
      records = k.records;
      positions = k.positions;
      holdings = k.holdings;
      charges = k.charges;
      entries = length ts;
      trades = ts ++ replicate (most_trades - length ts) no_trade;
    }

unfoldable pub with_holdings : Book → List ℕ → Book
with_holdings k hs =
    record {
      day = k.day;
      currency = k.currency;
      records = k.records;
      positions = k.positions;
      holdings = hs;
      charges = k.charges;
      entries = k.entries;
      trades = k.trades;
    }

unfoldable pub with_charges : Book → List Mils → Book
with_charges k cs =
    record {
      day = k.day;
      currency = k.currency;
      records = k.records;
      positions = k.positions;
      holdings = k.holdings;
      charges = cs;
      entries = k.entries;
      trades = k.trades;
    }

unfoldable pub with_day : Book → ℕ → Book
with_day k d =
    record {
      day = d;
      currency = k.currency;
      records = k.records;
      positions = k.positions;
      holdings = k.holdings;
      charges = k.charges;
      entries = k.entries;
      trades = k.trades;
    }

-- ── securities, holdings, charges ──

-- the currency of a security, 255 for unlisted (asked of securities 0 to 31 only)
unfoldable pub currency_of : Book → ℕ → ℕ
currency_of k s = get_or k.currency s 0

unfoldable pub unlisted : Book → ℕ → Bool
unlisted k s = eqb (currency_of k s) no_currency

-- holdings are kept account by account, 32 entries each
unfoldable pub holding_at : ℕ → ℕ → ℕ
holding_at account security = account * 32 + security

unfoldable pub held_by : Book → ℕ → ℕ → ℕ
held_by k account security = get_or k.holdings (holding_at account security) 0

-- charges are kept account by account, 4 entries each
unfoldable pub charge_at : ℕ → ℕ → ℕ
charge_at account currency = account * 4 + currency

unfoldable pub charge_of : Book → ℕ → ℕ → ℤ
charge_of k account currency = mils_of (get_or k.charges (charge_at account currency) (mils (pos 0)))

-- the charges with an amount more at one place
unfoldable pub charged : List Mils → ℕ → ℤ → List Mils
charged cs i m = set cs i (mils (mils_of (get_or cs i (mils (pos 0))) +ℤ m))

-- An empty book has day 0 and nothing but its currency table.
unfoldable pub empty_book : List ℕ → Book
empty_book codes =
    record {
      day = 0;
      currency = codes;
      records = 0;
      positions = replicate most_records no_position;
      holdings = replicate (accounts * securities) 0;
      charges = replicate (accounts * currencies) (mils (pos 0));
      entries = 0;
      trades = replicate most_trades no_trade;
    }
