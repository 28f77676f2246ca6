-- The lines of a book: DAY, at most 1,024 P, at most 256 C; and where the book is sound at most 10, 47 and 28 bytes of each.
use Rattle.std.specs.Prelude.{◌≡◌, refl, Bool, true, false, cond, ◌&&◌, ℕ, ◌+◌, ◌*◌, ◌≤◌, ◌<◌, leb, nat_abs, Some}
use Rattle.std.proofs.Math.Path.{ap}
use mathlib.Core.List.{List, [], ◌∷◌, ◌++◌, map}
use native.Mathlib.Omega.{arith}
use Rattle.std.proofs.Math.Dec.{ltb}
use Rattle.std.proofs.Math.ListN.{length}
use Rattle.std.proofs.Common.{length-append, length-take, le-leb, leb-true, ltb-true}
use Rattle.std.proofs.lemmas.List.{length-map}
use Rattle.units.specs.Units.{mils, most_shares, most_mils}
use Rattle.rules.specs.Words.{all, each, from}
use Rattle.rules.specs.Bounds.{accounts, currencies, every_account, every_currency, last_day, most_records}
use Rattle.rules.specs.Book.{quantity_of, money_of, is_zero, due_of, account_of, security_of, open_of, charge_at, charge_of}
use Rattle.rules.specs.Sound.{is_position, sizes_fit, due_fits, sound}
use Rattle.rules.specs.Sheet.{text_of, open_line, charge_line, charge_lines, book_lines}
use Rattle.rules.specs.declared.Position.{Position}
use Rattle.rules.specs.declared.Book.{Book}
use Rattle.rules.specs.declared.Line.{Line}
use Rattle.rules.specs.declared.Line.TheVariants.{Day, Charge}
use Rattle.laws.specs.Cases.{by_test, both_hold, and_hold}
use Rattle.laws.specs.All.{all_by, all_and, each_all_in, map_all_in, accounts_below, currencies_below}
use Rattle.laws.specs.Numbers.{due_before, account_below, security_below}
use Rattle.laws.specs.SoundParts.{sound_parts, day_small}
use Rattle.laws.specs.SoundRun.{sound_runnable}
use Rattle.laws.specs.Stakes.{stake_within}
use Rattle.sheet_laws.specs.Widths.{each_one, length_both, length_each, day_short, open_short, charge_short}

-- ── how many ──

few_open : (k : Book) → k.records ≤ most_records → length (map open_line (open_of k)) ≤ most_records
unfolding open_of
few_open k h = omega (arith, length-map (open_of k) open_line, length-take k.records k.positions)

one_charge : (k : Book) (a c : ℕ) → length (charge_line k a c) ≤ 1
unfolding charge_line
one_charge k a c = go (is_zero (charge_of k a c))
  where
    go : (b : Bool) → length (cond b [] (Charge a c (mils (charge_of k a c)) ∷ [])) ≤ 1
    go true = omega arith
    go false = omega arith

few_charges : (k : Book) → length (charge_lines k) ≤ accounts * currencies
unfolding charge_lines every_account every_currency from
few_charges k =
    let of : ℕ → List Line = λ a. each (charge_line k a) every_currency in
    let four : (a : ℕ) → length (of a) ≤ currencies =
    λ a. length_each (charge_line k a) 1 every_currency (all_by (λ c. leb (length (charge_line k a c)) 1) every_currency (λ c. le-leb (length (charge_line k a c)) 1 (one_charge k a c))) in
    omega (arith, length_each of currencies every_account (all_by (λ a. leb (length (of a)) currencies) every_account (λ a. le-leb (length (of a)) currencies (four a))))

pub few_book_lines : (k : Book) → k.records ≤ most_records → length (book_lines (Some k)) ≤ 1_281
unfolding book_lines
few_book_lines k h = omega (arith, length-append (map open_line (open_of k)) (charge_lines k), few_open k h, few_charges k)

-- ── how long ──

-- at most so many bytes
abbrev narrow : ℕ → Line → Bool
narrow n l = leb (length (text_of l)) n

position_narrow : (day : ℕ) (p : Position) → day ≤ last_day → sizes_fit p && due_fits day p ≡ true → narrow 47 (open_line p) ≡ true
unfolding sizes_fit due_fits open_line
position_narrow day p d e =
    let x = both_hold (sizes_fit p) (due_fits day p) e in
    let q = both_hold (leb (nat_abs (quantity_of p)) most_shares) (leb (nat_abs (money_of p)) most_mils && is_position p) x.0 in
    let m = both_hold (leb (nat_abs (money_of p)) most_mils) (is_position p) q.1 in
    let n = due_before p (last_day + 2) (omega (arith, leb-true (due_of p) (day + 1) x.1)) in
    le-leb (length (text_of (open_line p))) 47
    (open_short p.number (account_of p) (security_of p) p.quantity p.money (omega arith) (omega (arith, account_below p))
    (omega (arith, security_below p)) (leb-true (nat_abs (quantity_of p)) most_shares q.0) (leb-true (nat_abs (money_of p)) most_mils m.0))

module _ (k : Book) (ok : sound k ≡ true) where
  open_narrow : all (narrow 47) (map open_line (open_of k)) ≡ true
  open_narrow =
      let c = sound_parts k ok in
      map_all_in (λ p. sizes_fit p && due_fits k.day p) (narrow 47) open_line (open_of k)
      (all_and sizes_fit (due_fits k.day) (open_of k) c.sizes c.due_days)
      (λ p e. position_narrow k.day p (day_small k ok) e)

  charge_narrow : (a c : ℕ) → a < accounts → c < currencies → all (narrow 28) (charge_line k a c) ≡ true
  unfolding charge_line all charge_of charge_at
  charge_narrow a c ha hc =
      let s = stake_within k (sound_parts k ok).money a c ha hc in
      let line = Charge a c (mils (charge_of k a c)) in
      by_test (is_zero (charge_of k a c))
      (λ z. rw z)
      (λ z. rw z (and_hold (le-leb (length (text_of line)) 28 (charge_short a c (mils (charge_of k a c)) (omega arith) (omega arith) (omega arith))) refl))

  charges_narrow : all (narrow 28) (charge_lines k) ≡ true
  unfolding charge_lines
  charges_narrow =
      each_all_in (λ a. ltb a accounts) (narrow 28) (λ a. each (charge_line k a) every_currency) every_account accounts_below
      (λ a h. each_all_in (λ c. ltb c currencies) (narrow 28) (charge_line k a) every_currency currencies_below
      (λ c l. charge_narrow a c (ltb-true a accounts h) (ltb-true c currencies l)))

  pub book_short : length (each text_of (book_lines (Some k))) ≤ 10 + 47 * most_records + 28 * (accounts * currencies)
  unfolding book_lines
  book_short =
      let ps = map open_line (open_of k) in
      let cs = charge_lines k in
      omega (
        arith,
        length_both text_of (Day k.day ∷ []) (ps ++ cs),
        ap length (each_one text_of (Day k.day)),
        length_both text_of ps cs,
        day_short k.day (omega (arith, day_small k ok)),
        length_each text_of 47 ps open_narrow,
        length_each text_of 28 cs charges_narrow,
        few_open k (sound_runnable k ok).few,
        few_charges k,
      )
