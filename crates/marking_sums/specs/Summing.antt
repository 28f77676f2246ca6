-- Marks summed per currency in one pass over the records: what a record counts for, the sums so far, and that none passes 64 bits.
use Rattle.std.specs.Prelude.{◌≡◌, refl, true, cond, List, [], ℕ, zero, suc, ◌+◌, ◌*◌, ◌<◌, ◌≤◌, eqb, leb, length, get_or, set, take, replicate, ℤ, pos, nat_abs, ◌+ℤ◌, ◌*ℤ◌}
use Rattle.std.proofs.Common.{sym, ap, ap₂, ◌∙◌, mul-le-mul, arith, leb-true, eq-eqb, take_all}
use Rattle.std.proofs.Math.Seq.{get_or-take, length-take-le}
use Rattle.std.proofs.Math.IntN.{+ℤ_idr}
use Rattle.integers.specs.Sizes.{nat_abs_sum, nat_abs_diff, nat_abs_mul}
use Rattle.integers.specs.Sums.{sum_by, sum_by_take}
use Rattle.units.specs.Units.{mils_of, mils, most_shares, most_mils, most_amount}
use Rattle.units.specs.declared.Mils.{Mils}
use Rattle.rules.specs.Words.{any}
use Rattle.rules.specs.Bounds.{most_records, currencies}
use Rattle.rules.specs.Book.{quantity_of, money_of, account_of, security_of, open_of, currency_of, charged, no_position}
use Rattle.rules.specs.Sound.{sizes_fit, is_position, records_of, sound}
use Rattle.rules.specs.Prices.{price_of}
use Rattle.rules.specs.Marks.{Terms, terms, mark_of, mark_at, marked_of, lacks_price, sum_of}
use Rattle.rules.specs.declared.Position.{Position}
use Rattle.rules.specs.declared.Book.{Book}
use Rattle.laws.specs.Cases.{by_test, both_hold, cond_yes, cond_no}
use Rattle.laws.specs.Walks.{all_at}
use Rattle.laws.specs.Keeping.{keep_both}
use Rattle.laws.specs.Adding.{sum_by_keep}
use Rattle.laws.specs.Charging.{amount_at, charged_length, charged_at, is_of}
use Rattle.laws.specs.Numbers.{security_below}
use Rattle.laws.specs.SoundParts.{sound_parts}
use Rattle.laws.specs.Blanks.{records_few}
use Rattle.sound_tables.specs.Stakes.{MoneyAsks, currency_below}
use Rattle.marking_sums.specs.declared.marks.PerCurrency.{PerCurrency}
use Rattle.marking_prices.specs.Pricing.{Fair, price_within}

-- marks look at the price tables alone
abbrev pub priced : List ℕ → List ℕ → Terms
priced intraday closing = terms intraday closing [] []

pub sum_priced : (k : Book) (t : Terms) (ps : List Position) (c : ℕ) → sum_of k (priced t.intraday t.closing) ps c ≡ sum_of k t ps c
unfolding sum_of mark_at
sum_priced k t ps c = refl

pub lacks_priced : (t : Terms) (ps : List Position) → any (lacks_price (priced t.intraday t.closing)) ps ≡ any (lacks_price t) ps
unfolding lacks_price
lacks_priced t ps = refl

-- ── the size of a mark ──

abbrev pub most_mark : ℕ
most_mark = most_amount + most_mils

pub size_fits : (p : Position) → sizes_fit p ≡ true → (nat_abs (quantity_of p) ≤ most_shares) × (nat_abs (money_of p) ≤ most_mils)
unfolding sizes_fit
size_fits p e =
    let q = both_hold (leb (nat_abs (quantity_of p)) most_shares) _ e in
    (leb-true (nat_abs (quantity_of p)) most_shares q.0, leb-true (nat_abs (money_of p)) most_mils (both_hold (leb (nat_abs (money_of p)) most_mils) (is_position p) q.1).0)

-- ── what a record counts for an account in a currency ──

abbrev pub counted : Book → Terms → ℕ → ℕ → Position → ℤ
counted k t a c p = cond (is_of k a c p) (mark_at t p) (pos 0)

pub sum_counted : (k : Book) (t : Terms) (a c : ℕ) (ps : List Position) → sum_by (counted k t a c) ps ≡ sum_of k t (records_of a ps) c
unfolding sum_of records_of
sum_counted k t a c ps =
    sym (ap (sum_by (mark_at t)) (keep_both (λ p. eqb (currency_of k (security_of p)) c) (λ p. eqb (account_of p) a) ps)
    ∙ sum_by_keep (mark_at t) (is_of k a c) ps)

-- ── one record more ──

-- with the record's mark, in the currency of its security
abbrev pub with_mark : PerCurrency → List ℕ → Terms → Position → PerCurrency
with_mark s codes t p = record { sums = charged s.sums (get_or codes (security_of p) 0) (mark_at t p) }

pub record MarkAsks (s : PerCurrency) (codes intraday closing : List ℕ) (p : Position) : Type 0 where
  pub fair : Fair intraday closing
  pub fits : sizes_fit p ≡ true
  pub currency : get_or codes (security_of p) 0 < currencies
  pub room : nat_abs (amount_at s.sums (get_or codes (security_of p) 0)) ≤ most_records * most_mark

-- the sums are those of the first i records
pub record Summed (k : Book) (t : Terms) (a i : ℕ) (s : PerCurrency) : Type 0 where
  pub long : length s.sums ≡ currencies
  pub sum : (c : ℕ) → amount_at s.sums c ≡ sum_by (counted k t a c) (take i (open_of k))
  pub size : (c : ℕ) → nat_abs (amount_at s.sums c) ≤ i * most_mark

nothing_at : (n c : ℕ) → amount_at (replicate n (mils (pos 0))) c ≡ pos 0
nothing_at zero c = refl
nothing_at (suc n) zero = refl
nothing_at (suc n) (suc c) = nothing_at n c

pub summed_none : (k : Book) (t : Terms) (a : ℕ) (s : PerCurrency) → s.sums ≡ replicate currencies (mils (pos 0)) → Summed k t a 0 s
summed_none k t a s e =
    record {
      long = ap length e;
      sum = λ c. ap (λ (l : List Mils). amount_at l c) e ∙ nothing_at currencies c;
      size = λ c. omega (arith, ap (λ (l : List Mils). nat_abs (amount_at l c)) e, ap nat_abs (nothing_at currencies c));
    }

module _ (k : Book) (t : Terms) (a i : ℕ) (s next : PerCurrency) (p : Position) (here : get_or (open_of k) i no_position ≡ p)
    (within : i < length (open_of k)) (below : currency_of k (security_of p) < currencies) (small : nat_abs (mark_at t p) ≤ most_mark)
    (so_far : Summed k t a i s)
    (is : next ≡ cond (eqb (account_of p) a) (with_mark s k.currency t p) s) where
  -- each sum grows by what the record counts for it
  at_each : (c : ℕ) → amount_at next.sums c ≡ amount_at s.sums c +ℤ counted k t a c p
  unfolding currency_of
  at_each c =
      by_test (eqb (account_of p) a)
      (λ y. rw (is, y) (charged_at s.sums (get_or k.currency (security_of p) 0) c (mark_at t p) (omega (arith, so_far.long))))
      (λ n. rw (is, n) (sym (+ℤ_idr (amount_at s.sums c))))

  counted_small : (c : ℕ) → nat_abs (counted k t a c p) ≤ most_mark
  counted_small c =
      by_test (is_of k a c p) (λ y. omega (arith, ap nat_abs (cond_yes (mark_at t p) (pos 0) y))) (λ n. omega (arith, ap nat_abs (cond_no (mark_at t p) (pos 0) n)))

  next_long : length next.sums ≡ currencies
  next_long =
      by_test (eqb (account_of p) a)
      (λ y. rw (is, y) (charged_length s.sums (get_or k.currency (security_of p) 0) (mark_at t p) ∙ so_far.long))
      (λ n. rw (is, n) so_far.long)

  pub summed_more : Summed k t a (i + 1) next
  summed_more =
      record {
        long = next_long;
        sum = λ c.
            at_each c ∙ ap (λ (z : ℤ). z +ℤ counted k t a c p) (so_far.sum c)
            ∙ sym (sum_by_take (counted k t a c) (open_of k) i no_position within ∙ ap (λ (q : Position). sum_by (counted k t a c) (take i (open_of k)) +ℤ counted k t a c q) here);
        size = λ c. omega (arith, ap nat_abs (at_each c), nat_abs_sum (amount_at s.sums c) (counted k t a c p), counted_small c, so_far.size c);
      }

-- as the code has it: the amount r at the place c
pub with_mark_lem : (s : PerCurrency) (codes : List ℕ) (t : Terms) (p : Position) (a c : ℕ) (m r : Mils) → account_of p ≡ a → c ≡ get_or codes (security_of p) 0
    → mils_of m ≡ mark_at t p → mils_of r ≡ amount_at s.sums c +ℤ mils_of m
    → record { sums = set s.sums c r } ≡ cond (eqb (account_of p) a) (with_mark s codes t p) s
unfolding charged
with_mark_lem s codes t p a c m r own e f g =
    let v : r ≡ mils (amount_at s.sums (get_or codes (security_of p) 0) +ℤ mark_at t p) =
    ap mils (g ∙ ap₂ (λ (x : ℕ) (z : ℤ). amount_at s.sums x +ℤ z) e f) in
    (λ i. record { sums = set s.sums (e i) (v i) }) ∙ sym (cond_yes (with_mark s codes t p) s (eq-eqb (account_of p) a own))

-- ── a record of a sound book ──

-- a mark's size: that of its shares at the highest price, and that of its money
pub mark_small : (a b : List ℕ) (p : Position) → Fair a b → sizes_fit p ≡ true → nat_abs (mark_at (priced a b) p) ≤ most_mark
unfolding mark_at mark_of
mark_small a b p f e =
    let price = price_of a b (security_of p) in
    let s = size_fits p e in
    let product : nat_abs (quantity_of p) * price ≤ most_amount = mul-le-mul s.0 (price_within a b (security_of p) f (security_below p)) in
    omega (arith, nat_abs_diff (quantity_of p *ℤ pos price) (money_of p), nat_abs_mul (quantity_of p) (pos price), product, s.1)

module _ (k : Book) (ok : sound k ≡ true) (codes_long : length k.currency ≡ 32) (long : length k.positions ≡ 1024) where
  parts : MoneyAsks k
  parts =
      let p = sound_parts k ok in
      record { records = records_few k p.records; sizes = p.sizes; codes = p.codes; listed = p.listed }

  pub open_within : k.records ≤ most_records
  open_within = parts.records

  open_length : length (open_of k) ≡ k.records
  unfolding open_of
  open_length = length-take-le k.records k.positions (omega (arith, parts.records))

  module _ (i : ℕ) (h : i < k.records) where
    abbrev p : Position
    p = get_or k.positions i no_position

    open_at : get_or (open_of k) i no_position ≡ p
    unfolding open_of
    open_at = get_or-take k.records k.positions i no_position h

    open_fits : sizes_fit p ≡ true
    open_fits = rw open_at at (all_at sizes_fit (open_of k) i no_position parts.sizes (omega (arith, open_length)))

    open_currency : currency_of k (security_of p) < currencies
    open_currency = rw open_at at (currency_below k codes_long parts i no_position (omega (arith, open_length)))

    -- one turn of the pass: what the mark of the record asks, and the sums with it
    module _ (a b : List ℕ) (n : ℕ) (s : PerCurrency) (fair : Fair a b) (so_far : Summed k (priced a b) n i s) where
      pub open_asks : MarkAsks s k.currency a b p
      unfolding currency_of
      open_asks =
          record {
            fair = fair;
            fits = open_fits;
            currency = open_currency;
            room = omega (arith, so_far.size (currency_of k (security_of p)), parts.records);
          }

      pub open_more : (next : PerCurrency) → next ≡ cond (eqb (account_of p) n) (with_mark s k.currency (priced a b) p) s → Summed k (priced a b) n (i + 1) next
      open_more next is =
          summed_more k (priced a b) n i s next p open_at (omega (arith, open_length)) open_currency (mark_small a b p fair open_fits) so_far is

  pub summed_all : (t : Terms) (n i : ℕ) (s : PerCurrency) → Summed k t n i s → k.records ≤ i → (c : ℕ) → amount_at s.sums c ≡ sum_of k t (marked_of k n) c
  unfolding marked_of
  summed_all t n i s so_far h c =
      so_far.sum c ∙ ap (sum_by (counted k t n c)) (take_all i (open_of k) (omega (arith, open_length))) ∙ sum_counted k t n c (open_of k)
