-- The counts and bounds of document 01. (Those of shares, money, prices, rates and haircuts are in units/specs/Units; formats spell out their
-- own numbers.)
use Rattle.std.specs.Prelude.{List, ℕ}
use Rattle.exact.specs.MulDiv.{limit}
use Rattle.rules.specs.Words.{from}

-- 64 accounts (0 to 63), 32 securities (0 to 31), 4 currencies (0 to 3, 0 is the base); 255 for unlisted
abbrev pub accounts : ℕ
accounts = 64

abbrev pub last_account : ℕ
last_account = 63

abbrev pub securities : ℕ
securities = 32

abbrev pub last_security : ℕ
last_security = 31

abbrev pub currencies : ℕ
currencies = 4

abbrev pub last_currency : ℕ
last_currency = 3

abbrev pub no_currency : ℕ
no_currency = 255

unfoldable pub every_account : List ℕ
every_account = from 0 accounts

unfoldable pub every_security : List ℕ
every_security = from 0 securities

unfoldable pub every_currency : List ℕ
every_currency = from 0 currencies

-- the book: last day, records, trades, shares held of a security, size of charge plus open money
abbrev pub last_day : ℕ
last_day = 60_000

abbrev pub most_records : ℕ
most_records = 1_024

abbrev pub most_trades : ℕ
most_trades = 256

abbrev pub most_held : ℕ
most_held = 1_000_000_000_000

abbrev pub most_at_stake : ℕ
most_at_stake = 2_621_440_000_000_000_000

-- shares of a trade; of a deposit or withdrawal
abbrev pub most_traded : ℕ
most_traded = 1_000_000

abbrev pub most_deposited : ℕ
most_deposited = 1_000_000_000_000

-- marks: the base's rate, and the most that either converted total may be
abbrev pub base_rate : ℕ
base_rate = 1_000_000

abbrev pub most_converted : ℕ
most_converted = limit

-- the call file and the sheet
abbrev pub most_file : ℕ
most_file = 65_535

abbrev pub most_tally : ℕ
most_tally = 1_000_000
