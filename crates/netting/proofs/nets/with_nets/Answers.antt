-- `netting::nets::with_nets` meets its contract. The invariant of the loop over accounts: behind the open positions stand the nets of the
-- accounts before; of the loop over an account's nets: and those of its securities before. Assumes nothing.
use Rattle.std.proofs.Common.{arith, ℕ, ◌+◌, ◌*◌, ◌≡◌, ◌≤◌, true, refl, sym, ap, ap₂, ◌∙◌, List, get_or, take, length-take}
use Rattle.rules.specs.Bounds.{most_trades}
use Rattle.rules.specs.Book.{no_position, list_of}
use Rattle.rules.specs.Layout.{book_of}
use Rattle.rules.specs.Nets.{net_of}
use Rattle.rules.specs.Sound.{sound}
use Rattle.rules.specs.declared.Book.{Book}
use Rattle.rules.specs.declared.Trade.{Trade}
use Rattle.laws.specs.SoundParts.{sound_parts, day_small}
use Rattle.laws.specs.Listed.{listed_accounts, listed_securities, listed_limits}
use Rattle.laws.specs.Blanks.{entries_few}
use Rattle.book.specs.Views.{positions_long}
use Rattle.netting.specs.Filling.{filled_none, filled_same, filled_full, filled_more, filled_account, filled_all, filled_past}
use Rattle.netting.proofs.nets.with_nets.Goals as goal
use Rattle.netting.proofs.nets.with_nets.Goals.{After-day_at, In-loop-net}

-- a sound book's list has room in its table
few : (k : Book) → sound k ≡ true → k.entries ≤ most_trades
few k ok = entries_few k (sound_parts k ok).trades

-- the book's list
list : (c : After-day_at) → take c.entries_at-n.result c.trades_of-trades.result ≡ list_of (book_of c.args.b.now)
unfolding list_of
list c = ap₂ (λ (n : ℕ) (ts : List Trade). take n ts) c.entries_at-n.ensures c.trades_of-trades.ensures

-- the net that was read
net : (c : In-loop-net) → get_or c.account_nets-net-items.result c.loop-net.net-index no_position
    ≡ net_of ((book_of c.args.b.now).day + 2) (list_of (book_of c.args.b.now)) c.loop-account.account c.loop-net.net-index
unfolding list_of
net c =
    c.account_nets-net-items.ensures c.loop-net.net-index (omega arith)
    ∙ ap₂ (λ (n : ℕ) (ts : List Trade). net_of n ts c.loop-account.account c.loop-net.net-index) (ap (λ (d : ℕ). d + 2) c.day_at.ensures)
    (ap₂ (λ (n : ℕ) (ts : List Trade). take n ts) c.entries_at-n.ensures c.trades_of-trades.ensures)

-- ── before the walk ──

pub slice_bounds-trades-end : goal.slice_bounds-trades-end
slice_bounds-trades-end c = omega (arith, few (book_of c.args.b.now) c.requires, c.entries_at-n.ensures)

pub slice_bounds-list-end : goal.slice_bounds-list-end
slice_bounds-list-end c = omega (arith, length-take c.entries_at-n.result c.trades_of-trades.result, few (book_of c.args.b.now) c.requires, c.entries_at-n.ensures)

pub named_accounts-named-requires : goal.named_accounts-named-requires
named_accounts-named-requires c =
    let fit = (sound_parts (book_of c.args.b.now) c.requires).trades in
    rw (list (goal.at.named_accounts-named-requires c).After-day_at) (listed_accounts (book_of c.args.b.now) fit)

pub loop-account-init : goal.loop-account-init
loop-account-init c =
    rw (c.records_at-count.ensures, c.positions_of-positions.ensures) (filled_none (book_of c.args.b.now) c.requires (positions_long c.args.b.now))

-- ── an account ──

pub loop-account-preserved-then-not-named-account : goal.loop-account-preserved-then-not-named-account
loop-account-preserved-then-not-named-account c =
    let l = c.loop-account in
    filled_account _ _ _ l.account l.count l.positions c.loop-account-test.true
    (rw (list (goal.at.loop-account-preserved-then-not-named-account c).After-day_at) at (c.named_accounts-named.ensures l.account c.loop-account-test.true c.if-not-named-account.true)) l.invariant

pub account_nets-net-items-requires : goal.account_nets-net-items-requires
account_nets-net-items-requires c =
    let k = book_of c.args.b.now in
    let fit = (sound_parts k c.requires).trades in
    let l = list (goal.at.account_nets-net-items-requires c).After-day_at in (
      omega (arith, length-take c.entries_at-n.result c.trades_of-trades.result, few k c.requires, c.entries_at-n.ensures),
      omega (arith, day_small k c.requires, c.day_at.ensures),
      rw l (listed_securities k fit),
      rw l (listed_limits k fit),
    )

-- ── a net of it: none, no room, or one record more ──

pub loop-net-preserved-then-not-is_position : goal.loop-net-preserved-then-not-is_position
loop-net-preserved-then-not-is_position c =
    let l = c.loop-net in
    filled_same _ _ _ c.loop-account.account l.net-index l.count l.positions c.loop-account-test.true (omega arith) l.invariant _
    (net (goal.at.loop-net-preserved-then-not-is_position c).In-loop-net) (sym c.is_position.ensures ∙ c.if-not-is_position.true)

pub returns-then-count-eq1024 : goal.returns-then-count-eq1024
returns-then-count-eq1024 c =
    let l = c.loop-net in
    filled_past (book_of c.args.b.now) c.requires (positions_long c.args.b.now) 10 refl
    (filled_full _ _ _ c.loop-account.account l.net-index l.count l.positions c.loop-account-test.true (omega arith) l.invariant _
    (net (goal.at.returns-then-count-eq1024 c).In-loop-net) (sym c.is_position.ensures ∙ c.if-not-is_position.false) c.if-count-eq1024.true)

pub loop-net-preserved : goal.loop-net-preserved
loop-net-preserved c =
    let l = c.loop-net in
    filled_more _ _ _ c.loop-account.account l.net-index l.count l.positions c.loop-account-test.true (omega arith) l.invariant _
    (net (goal.at.loop-net-preserved c).In-loop-net) (sym c.is_position.ensures ∙ c.if-not-is_position.false) (omega (arith, l.invariant.few, c.if-count-eq1024.false))

-- ── all are ──

pub returns : goal.returns
returns c =
    let l = c.loop-account in
    filled_all (book_of c.args.b.now) c.requires (positions_long c.args.b.now) (l.account * 32) l.count l.positions (omega arith) l.invariant
