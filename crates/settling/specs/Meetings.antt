-- A meeting where the bytes stand: what it asks of the book, the book that it leaves, and what the walk leaves beside its tables.
use Rattle.std.specs.Prelude.{◌≡◌, ℕ, ◌+◌, ◌<◌, ◌≤◌, ◌^◌, get_or, set, drop}
use Rattle.std.proofs.Math.Path.{refl}
use Rattle.std.proofs.Common.{◌∙◌, drop-set-lt}
use Rattle.rules.specs.Bounds.{securities, most_records}
use Rattle.rules.specs.Book.{account_of, holding_at}
use Rattle.rules.specs.Parts.{without}
use Rattle.rules.specs.Run.{moved}
use Rattle.rules.specs.declared.Book.{Book}
use Rattle.laws.specs.Rows.{row}
use Rattle.settling.specs.Charges.{ChargeAsks, charged_parts}

-- ── one meeting ──

-- rows g and r are there, each has k shares and its charge has room; the giver's account holds them, and the receiver's has room
pub record MeetAsks (k : Book) (s g r size : ℕ) : Type 0 where
  pub security : s < securities
  pub giver : g < most_records
  pub receiver : r < most_records
  pub charges : ChargeAsks k.charges k.currency (row k.positions g) (row k.positions r) size
  pub held : size ≤ get_or k.holdings (holding_at (account_of (row k.positions g)) s) 0
  pub room : get_or k.holdings (holding_at (account_of (row k.positions r)) s) 0 + size < 2 ^ 64

-- the part is taken from both records, holdings move, each part's money is charged
unfoldable pub met_in : Book → ℕ → ℕ → ℕ → ℕ → Book
met_in k s g r size =
    let giver = row k.positions g in
    let receiver = row k.positions r in
    record {
      day = k.day;
      currency = k.currency;
      records = k.records;
      positions = set (set k.positions g (without giver size)) r (without receiver size);
      holdings = moved k.holdings (holding_at (account_of giver) s) (holding_at (account_of receiver) s) size;
      charges = charged_parts k.charges k.currency giver receiver size;
      entries = k.entries;
      trades = k.trades;
    }

-- ── what stands beside the tables ──

-- all but the tables is as it was, and so are the rows that are not in use
pub record Beside (b k : Book) : Type 0 where
  pub day : k.day ≡ b.day
  pub currency : k.currency ≡ b.currency
  pub records : k.records ≡ b.records
  pub entries : k.entries ≡ b.entries
  pub trades : k.trades ≡ b.trades
  pub unused : drop b.records k.positions ≡ drop b.records b.positions

pub beside_start : (b : Book) → Beside b b
beside_start b = record { day = refl; currency = refl; records = refl; entries = refl; trades = refl; unused = refl }

pub beside_met : (b k : Book) (s g r size : ℕ) → g < b.records → r < b.records → Beside b k → Beside b (met_in k s g r size)
unfolding met_in
beside_met b k s g r size hg hr e =
    let giver = without (row k.positions g) size in
    record {
      day = e.day;
      currency = e.currency;
      records = e.records;
      entries = e.entries;
      trades = e.trades;
      unused =
          drop-set-lt b.records (set k.positions g giver) r (without (row k.positions r) size) hr
          ∙ drop-set-lt b.records k.positions g giver hg ∙ e.unused;
    }
