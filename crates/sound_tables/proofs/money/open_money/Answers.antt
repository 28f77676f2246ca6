-- `sound_tables::money::open_money` meets its contract. The loop's invariant: with the records from `i` on, the sums make the whole. Assumes nothing.
use Rattle.std.proofs.Common.{◌≡◌, sym, ap, ◌∙◌, List, ℕ, ◌+◌, ◌*◌, ◌<◌, ◌≤◌, length, get_or, get_or-take, length-take-le, arith}
use Rattle.units.specs.Units.{most_mils}
use Rattle.rules.specs.Book.{no_position, security_of, open_of, currency_of}
use Rattle.rules.specs.Layout.{book_of}
use Rattle.rules.specs.declared.Position.{Position}
use Rattle.rules.specs.declared.Book.{Book}
use Rattle.book.specs.Views.{codes_long, positions_long}
use Rattle.sound_tables.specs.Placed.{as_amount, sum_at, gathered_none, gathered_more, gathered_done}
use Rattle.sound_tables.specs.Stakes.{MoneyAsks, place_of, place_at, size_of, currency_below, size_small, open_money_lem}
use Rattle.sound_tables.proofs.money.open_money.Goals as goal

-- ── the records in use, and the one at i ──

module _ (bs : List ℕ) (asks : MoneyAsks (book_of bs)) where
  abbrev k : Book
  k = book_of bs

  many : length (open_of k) ≡ k.records
  unfolding open_of
  many = length-take-le k.records k.positions (omega (arith, positions_long bs, asks.records))

  module _ (i : ℕ) (p : Position) (h : i < k.records) (e : p ≡ get_or k.positions i no_position) where
    here : get_or (open_of k) i no_position ≡ p
    unfolding open_of
    here = get_or-take k.records k.positions i no_position h ∙ sym e

    currency : currency_of k (security_of p) < 4
    currency = rw here at (currency_below k (codes_long bs) asks i no_position (omega (arith, many)))

    size : size_of p ≤ most_mils
    size = rw here at (size_small k i no_position asks (omega (arith, many)))

-- ── the needs ──

pub loop-i-init : goal.loop-i-init
loop-i-init c =
    let k = book_of c.args.b.now in
    gathered_none (place_at k) size_of 256 most_mils (open_of k)

pub place_of-at-requires : goal.place_of-at-requires
place_of-at-requires c = currency c.args.b.now c.requires c.loop-i.i _ (omega arith) c.position_at-p.ensures

pub loop-i-preserved : goal.loop-i-preserved
loop-i-preserved c =
    let bs = c.args.b.now in
    let k = book_of bs in
    let l = c.loop-i in
    let at = c.place_of-at in
    let p = c.position_at-p.result in
    let e = here bs c.requires l.i p (omega arith) c.position_at-p.ensures in
    let sum : c.with_money.result ≡ as_amount (sum_at l.sums at.result + size_of p) = ap as_amount c.with_money.ensures in
    rw sum
    (gathered_more (place_at k) size_of 256 most_mils l.sums (open_of k) l.i no_position at.result (size_of p)
    (omega (arith, many bs c.requires)) (ap (place_of k) e ∙ sym at.ensures.0) (ap size_of e) at.ensures.1
    (size bs c.requires l.i p (omega arith) c.position_at-p.ensures) l.invariant)

pub returns : goal.returns
returns c =
    let bs = c.args.b.now in
    let k = book_of bs in
    let l = c.loop-i in
    let asks = c.requires in
    let done = gathered_done (place_at k) size_of 256 most_mils l.sums (open_of k) l.i (omega (arith, many bs asks)) l.invariant in
    (λ a b ha hb. done (a * 4 + b) (omega arith) ∙ open_money_lem k a b (codes_long bs) asks hb, λ x h. omega (arith, l.invariant.small x h, asks.records))
