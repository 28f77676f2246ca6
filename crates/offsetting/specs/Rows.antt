-- A meeting where the bytes stand: what it asks of the book, the book that it leaves, and what the walk leaves beside rows and charges.
use Rattle.std.specs.Prelude.{◌≡◌, refl, ℕ, ◌*◌, ◌<◌, set, drop}
use Rattle.std.proofs.Common.{sym, ap, ◌∙◌, subst, drop-set-lt}
use Rattle.units.specs.declared.Mils.{Mils}
use Rattle.rules.specs.Bounds.{accounts, currencies, most_records}
use Rattle.rules.specs.Book.{with_charges}
use Rattle.rules.specs.declared.Book.{Book}
use Rattle.laws.specs.Rows.{row}
use Rattle.book.specs.Replacing.{with_rows}
use Rattle.offsetting_meetings.specs.Meeting.{MeetAsks, meeting_of}
use Rattle.offsetting.specs.Walk.{in_use, all_met}
use Rattle.offsetting.specs.Turns.{charge_of}
use Rattle.offsetting_meetings.specs.declared.meetings.Met.{Met}

-- ── one meeting ──

-- rows i and j and the charge are there; both records are within their bounds, and the charge has room
pub record RowsAsk (k : Book) (i j at : ℕ) : Type 0 where
  pub newly : i < most_records
  pub older : j < most_records
  pub charge : at < accounts * currencies
  pub meeting : MeetAsks (charge_of k.charges at) (row k.positions i) (row k.positions j)

abbrev pub meeting_in : Book → ℕ → ℕ → ℕ → Met
meeting_in k i j at = meeting_of (charge_of k.charges at) (row k.positions i) (row k.positions j)

-- the book with what comes of the two rows and the charge
abbrev pub with_met : Book → ℕ → ℕ → ℕ → Met → Book
with_met k i j at m =
    record {
      day = k.day;
      currency = k.currency;
      records = k.records;
      positions = set (set k.positions j m.older) i m.newly;
      holdings = k.holdings;
      charges = set k.charges at m.charge;
      entries = k.entries;
      trades = k.trades;
    }

unfoldable pub met_in : Book → ℕ → ℕ → ℕ → Book
met_in k i j at = with_met k i j at (meeting_in k i j at)

-- as the code makes it, one store after another
pub met_in_lem : (k k₁ k₂ k₃ : Book) (i j at : ℕ) (m : Met) → m ≡ meeting_in k i j at → k₁ ≡ with_rows k k.records (set k.positions j m.older)
    → k₂ ≡ with_rows k₁ k₁.records (set k₁.positions i m.newly) → k₃ ≡ with_charges k₂ (set k₂.charges at m.charge) → k₃ ≡ met_in k i j at
unfolding with_rows with_charges met_in
met_in_lem k k₁ k₂ k₃ i j at m e e₁ e₂ e₃ =
    e₃
    ∙ ap (λ (h : Book). with_charges h (set h.charges at m.charge)) (e₂ ∙ ap (λ (h : Book). with_rows h h.records (set h.positions i m.newly)) e₁)
    ∙ ap (with_met k i j at) e

-- ── what stands beside rows and charges ──

-- all but the rows in use and the charges is as it was
pub record Beside (b k : Book) : Type 0 where
  pub day : k.day ≡ b.day
  pub currency : k.currency ≡ b.currency
  pub records : k.records ≡ b.records
  pub unused : drop b.records k.positions ≡ drop b.records b.positions
  pub holdings : k.holdings ≡ b.holdings
  pub entries : k.entries ≡ b.entries
  pub trades : k.trades ≡ b.trades

pub beside_start : (b : Book) → Beside b b
beside_start b = record { day = refl; currency = refl; records = refl; unused = refl; holdings = refl; entries = refl; trades = refl }

pub beside_met : (b k : Book) (i j at : ℕ) → i < b.records → j < b.records → Beside b k → Beside b (met_in k i j at)
unfolding met_in
beside_met b k i j at hi hj e =
    let m = meeting_in k i j at in
    record {
      day = e.day;
      currency = e.currency;
      records = e.records;
      unused = drop-set-lt b.records (set k.positions j m.older) i m.newly hi ∙ drop-set-lt b.records k.positions j m.older hj ∙ e.unused;
      holdings = e.holdings;
      entries = e.entries;
      trades = e.trades;
    }

pub beside_charged : (b k k₁ : Book) (at : ℕ) (c : Mils) → k₁ ≡ with_charges k (set k.charges at c) → Beside b k → Beside b k₁
unfolding with_charges
beside_charged b k k₁ at c f e = subst (Beside b) (sym f) record { day = e.day; currency = e.currency; records = e.records; unused = e.unused; holdings = e.holdings; entries = e.entries; trades = e.trades }

-- ── what the walk promises ──

-- rows in use and charges are those of the rule, before the records at 0 shares go
pub record Walked (b k : Book) : Type 0 where
  pub met : in_use b.records k ≡ all_met b
  pub beside : Beside b k
