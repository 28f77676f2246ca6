-- A sound book (document 01, the section of that name): its sentences in their order, and their conjunction.
-- The lengths of the five tables come with the type of the book: 32, 1,024, 2,048, 256 and 256.
use Rattle.std.specs.Prelude.{Bool, true, not, ◌&&◌, ◌||◌, List, [], ◌∷◌, map, ℕ, zero, suc, ◌+◌, eqb, leb, ltb, length, get_or, take, drop, replicate, pos, nat_abs}
use Rattle.std.specs.Bool.{beq}
use Rattle.integers.specs.Signs.{is_negative}
use Rattle.integers.specs.Sums.{sum_by}
use Rattle.units.specs.Units.{mils_of, mils, most_shares, most_mils}
use Rattle.units.specs.declared.Mils.{Mils}
use Rattle.rules.specs.Words.{all, keep, total}
use Rattle.rules.specs.Bounds.{accounts, securities, currencies, last_currency, no_currency, every_security, every_currency, last_day, most_records, most_trades, most_held, most_at_stake}
use Rattle.rules.specs.Book.{quantity_of, money_of, is_zero, due_of, account_of, security_of, open_of, list_of, currency_of, unlisted}
use Rattle.rules.specs.Layout.{book_length, book_of}
use Rattle.rules.specs.Trades.{bad_accounts, bad_security, bad_quantity, bad_price, same_account}
use Rattle.rules.specs.declared.Position.{Position}
use Rattle.rules.specs.declared.Trade.{Trade}
use Rattle.rules.specs.declared.Book.{Book}

-- Day 0 to 60,000.
unfoldable pub day_fits : Book → Bool
day_fits k = leb k.day last_day

-- Each security has a currency, or 255 for unlisted.
unfoldable pub is_code : ℕ → Bool
is_code c = leb c last_currency || eqb c no_currency

unfoldable pub codes_fit : Book → Bool
codes_fit k = all is_code k.currency

-- Records ascend strictly, unused room is zero.
unfoldable pub ascends_from : ℕ → List Position → Bool
ascends_from n [] = true
ascends_from n (p ∷ ps) = ltb n p.number && ascends_from p.number ps

unfoldable pub ascends : List Position → Bool
ascends [] = true
ascends (p ∷ ps) = ascends_from p.number ps

unfoldable pub is_blank : Position → Bool
is_blank p = eqb p.number 0 && (is_zero (quantity_of p) && is_zero (money_of p))

unfoldable pub records_fit : Book → Bool
records_fit k = leb k.records most_records && (ascends (open_of k) && all is_blank (drop k.records k.positions))

-- Quantity within 256,000,000 and money within 2,560,000,000,000,000 either side of zero, not both zero.
unfoldable pub is_position : Position → Bool
is_position p = not (is_zero (quantity_of p) && is_zero (money_of p))

unfoldable pub sizes_fit : Position → Bool
sizes_fit p = leb (nat_abs (quantity_of p)) most_shares && (leb (nat_abs (money_of p)) most_mils && is_position p)

-- No due day beyond day + 1.
unfoldable pub due_fits : ℕ → Position → Bool
due_fits day p = leb (due_of p) (day + 1)

-- A record due by the book's day has nonzero quantity,
unfoldable pub is_due : ℕ → Position → Bool
is_due day p = leb (due_of p) day

unfoldable pub due_nonzero : ℕ → Position → Bool
due_nonzero day p = not (is_due day p && is_zero (quantity_of p))

-- and an account's due records in one security have one sign.
unfoldable pub same_pair : Position → Position → Bool
same_pair p q = eqb (account_of p) (account_of q) && eqb (security_of p) (security_of q)

unfoldable pub agree : Position → Position → Bool
agree p q = not (same_pair p q) || beq (is_negative (quantity_of p)) (is_negative (quantity_of q))

unfoldable pub one_sign : List Position → Bool
one_sign due = all (λ p. all (agree p) due) due

-- Per security, quantities due by the day total zero, as do those due on day + 1.
unfoldable pub balanced : List Position → Bool
balanced ps = all (λ s. is_zero (sum_by quantity_of (keep (λ p. eqb (security_of p) s) ps))) every_security

unfoldable pub due_balanced : Book → Bool
due_balanced k =
    balanced (keep (is_due k.day) (open_of k)) && balanced (keep (λ p. eqb (due_of p) (k.day + 1)) (open_of k))

-- Holdings 0 to 10^12, each security's total too, kept account by account, 32 entries each.
unfoldable pub by_account : {A : Type 0} → ℕ → ℕ → List A → List (List A)
by_account entries zero l = []
by_account entries (suc n) l = take entries l ∷ by_account entries n (drop entries l)

-- entry by entry
unfoldable pub added : List ℕ → List ℕ → List ℕ
added [] ts = ts
added (h ∷ hs) [] = []
added (h ∷ hs) (t ∷ ts) = (h + t) ∷ added hs ts

-- the totals of the securities over some accounts
unfoldable pub totals : List (List ℕ) → List ℕ
totals [] = replicate securities 0
totals (a ∷ rest) = added a (totals rest)

unfoldable pub totals_held : List ℕ → List ℕ
totals_held hs = totals (by_account securities accounts hs)

unfoldable pub total_held : List ℕ → ℕ → ℕ
total_held hs s = get_or (totals_held hs) s 0

unfoldable pub holdings_fit : Book → Bool
holdings_fit k = all (λ h. leb h most_held) k.holdings && all (λ t. leb t most_held) (totals_held k.holdings)

-- An unlisted security has no records and no holdings.
unfoldable pub holds_listed : List ℕ → List ℕ → Bool
holds_listed [] hs = true
holds_listed (c ∷ cs) [] = true
holds_listed (c ∷ cs) (h ∷ hs) = (not (eqb c no_currency) || eqb h 0) && holds_listed cs hs

unfoldable pub unlisted_empty : Book → Bool
unlisted_empty k =
    all (λ p. not (unlisted k (security_of p))) (open_of k)
    && all (holds_listed k.currency) (by_account securities accounts k.holdings)

-- For each account and currency, the size of the day's charge plus the sizes of open money is at most 2,621,440,000,000,000,000.
unfoldable pub records_of : ℕ → List Position → List Position
records_of a ps = keep (λ p. eqb (account_of p) a) ps

unfoldable pub open_money : Book → List Position → ℕ → ℕ
open_money k ps c = total (λ p. nat_abs (money_of p)) (keep (λ p. eqb (currency_of k (security_of p)) c) ps)

-- an account's records and charges
unfoldable pub money_fits_of : Book → List Position → List Mils → Bool
money_fits_of k ps cs = all (λ c. leb (nat_abs (mils_of (get_or cs c (mils (pos 0)))) + open_money k ps c) most_at_stake) every_currency

-- account by account from a on
unfoldable pub money_fits_from : Book → ℕ → List (List Mils) → Bool
money_fits_from k a [] = true
money_fits_from k a (cs ∷ rest) = money_fits_of k (records_of a (open_of k)) cs && money_fits_from k (suc a) rest

unfoldable pub money_fits : Book → Bool
money_fits k = money_fits_from k 0 (by_account currencies accounts k.charges)

-- Trades: at most 256, numbers distinct and nonzero, fields valid; an excluded one keeps its number and order, other fields zero.
unfoldable pub distinct : List ℕ → Bool
distinct [] = true
distinct (n ∷ ns) = all (λ m. not (eqb n m)) ns && distinct ns

unfoldable pub valid_trade : Book → Trade → Bool
valid_trade k t = not (bad_accounts t || (bad_security k t.security || (bad_quantity t || (bad_price t || same_account t))))

unfoldable pub zero_fields : Trade → Bool
zero_fields t = eqb t.buyer 0 && (eqb t.seller 0 && (eqb t.security 0 && (eqb t.quantity 0 && eqb t.price.0 0)))

unfoldable pub trades_fit : Book → Bool
trades_fit k =
    leb k.entries most_trades
    && (distinct (map (λ t. t.number) (list_of k))
    && (all (λ t. not (eqb t.number 0) && (valid_trade k t || zero_fields t)) (list_of k)
    && all (λ t. eqb t.number 0 && zero_fields t) (drop k.entries k.trades)))

-- All of it.
unfoldable pub sound : Book → Bool
sound k =
    day_fits k
    && (codes_fit k
    && (records_fit k
    && (all sizes_fit (open_of k)
    && (all (due_fits k.day) (open_of k)
    && (all (due_nonzero k.day) (open_of k)
    && (one_sign (keep (is_due k.day) (open_of k))
    && (due_balanced k
    && (holdings_fit k
    && (unlisted_empty k
    && (money_fits k
    && trades_fit k))))))))))

-- 1: the book is not sound; a book of wrong length is none
unfoldable pub not_sound : List ℕ → Bool
not_sound bs = not (eqb (length bs) book_length && sound (book_of bs))
