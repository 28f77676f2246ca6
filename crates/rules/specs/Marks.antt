-- Marks (document 01, the section of that name).
use Rattle.std.specs.Prelude.{Bool, cond, not, ◌&&◌, ◌||◌, List, [], ◌∷◌, ℕ, ◌-◌, eqb, length, map, get_or, ℤ, pos, ◌-ℤ◌, ◌*ℤ◌, Result, Ok, Err}
use Rattle.integers.specs.Sums.{sum_by}
use Rattle.units.specs.Units.{mils_of, mils, top_rate, whole_haircut}
use Rattle.units_rounded.specs.Conversion.{favourable_of, unfavourable_of}
use Rattle.rules.specs.Words.{any, keep, total, above, outside, Test, first}
use Rattle.rules.specs.Bounds.{currencies, every_currency, base_rate, most_converted}
use Rattle.rules.specs.Book.{quantity_of, money_of, is_zero, security_of, open_of, currency_of}
use Rattle.rules.specs.Layout.{book_of}
use Rattle.rules.specs.Trades.{no_account}
use Rattle.rules.specs.Sound.{records_of, not_sound}
use Rattle.rules.specs.Prices.{wrong_table, entry_above, price_of, no_price}
use Rattle.rules.specs.declared.Position.{Position}
use Rattle.rules.specs.declared.Book.{Book}
use Rattle.rules.specs.declared.Marks.{Marks}

-- what marks are asked with: two price tables, a rate in millionths of the base and a haircut in basis points for each currency
pub record Terms : Type 0 where
  pub intraday : List ℕ
  pub closing : List ℕ
  pub rates : List ℕ
  pub haircuts : List ℕ

-- as they are lent: the two tables, rates and haircuts by currency
abbrev pub terms : List ℕ → List ℕ → List ℕ → List ℕ → Terms
terms intraday closing rates haircuts = record { intraday = intraday; closing = closing; rates = rates; haircuts = haircuts }

unfoldable pub rate_of : Terms → ℕ → ℕ
rate_of t c = get_or t.rates c 0

unfoldable pub haircut_of : Terms → ℕ → ℕ
haircut_of t c = get_or t.haircuts c 0

-- ── a record's mark ──

-- Only records in the position table are marked, due or not.
unfoldable pub marked_of : Book → ℕ → List Position
marked_of k a = records_of a (open_of k)

-- A record's mark is quantity * price less its money.
unfoldable pub mark_of : ℤ → ℕ → ℤ → ℤ
mark_of quantity price money = quantity *ℤ pos price -ℤ money

unfoldable pub mark_at : Terms → Position → ℤ
mark_at t p = mark_of (quantity_of p) (price_of t.intraday t.closing (security_of p)) (money_of p)

-- 17, where a record of 0 shares wants no price
unfoldable pub lacks_price : Terms → Position → Bool
lacks_price t p = not (is_zero (quantity_of p)) && no_price t.intraday t.closing (security_of p)

-- ── sums and totals, over any list of records ──

-- Marks are summed per currency.
unfoldable pub sum_of : Book → Terms → List Position → ℕ → ℤ
sum_of k t ps c = sum_by (mark_at t) (keep (λ p. eqb (currency_of k (security_of p)) c) ps)

-- A favourable sum counts ..., an unfavourable one ... (units/specs/Conversion), each currency once.
unfoldable pub favourable_total : Book → Terms → List Position → ℕ
favourable_total k t ps = total (λ c. favourable_of (sum_of k t ps c) (rate_of t c) (haircut_of t c)) every_currency

unfoldable pub unfavourable_total : Book → Terms → List Position → ℕ
unfavourable_total k t ps = total (λ c. unfavourable_of (sum_of k t ps c) (rate_of t c) (haircut_of t c)) every_currency

-- Due: unfavourable total less favourable total, or 0 (subtraction in ℕ stops there). The answer has the due and four signed sums.
unfoldable pub due_and_sums : Book → Terms → List Position → Marks
due_and_sums k t ps =
    record {
      due = mils (pos (unfavourable_total k t ps - favourable_total k t ps));
      sums = mils (sum_of k t ps 0) ∷ mils (sum_of k t ps 1) ∷ mils (sum_of k t ps 2) ∷ mils (sum_of k t ps 3) ∷ [];
    }

-- ── the call ──

-- 18: a table has the wrong length
unfoldable pub wrong_terms : Terms → Bool
wrong_terms t =
    wrong_table t.intraday
    || (wrong_table t.closing
    || (not (eqb (length t.rates) currencies)
    || not (eqb (length t.haircuts) currencies)))

-- 15: rate outside 1 to 100,000,000; haircut above 10,000; base not rate 1,000,000 with haircut 0
unfoldable pub bad_rates : Terms → Bool
bad_rates t =
    any (outside 1 top_rate) t.rates
    || (any (above whole_haircut) t.haircuts
    || not (eqb (rate_of t 0) base_rate && eqb (haircut_of t 0) 0))

-- 16: either converted mark total passes 9*10^18
unfoldable pub passes_limit : Book → Terms → List Position → Bool
passes_limit k t ps = above most_converted (favourable_total k t ps) || above most_converted (unfavourable_total k t ps)

-- Marks: 1, 2, 18, 5, 15, 17, 16. The book is only read.
unfoldable pub marks_tests : List ℕ → ℕ → Terms → List Test
marks_tests bs a t =
    (not_sound bs, 1) ∷
    (no_account a, 2) ∷
    (wrong_terms t, 18) ∷
    (entry_above t.intraday || entry_above t.closing, 5) ∷
    (bad_rates t, 15) ∷
    (any (lacks_price t) (marked_of (book_of bs) a), 17) ∷
    (passes_limit (book_of bs) t (marked_of (book_of bs) a), 16) ∷
    []

unfoldable pub marks_number : List ℕ → ℕ → Terms → ℕ
marks_number bs a t = first (marks_tests bs a t)

unfoldable pub marks : List ℕ → ℕ → Terms → Result Marks ℕ
marks bs a t =
    cond (eqb (marks_number bs a t) 0) (Ok (due_and_sums (book_of bs) t (marked_of (book_of bs) a))) (Err (marks_number bs a t))

-- the five figures: the due and the four sums, zero in each when refused
unfoldable pub marks_figures : List ℕ → ℕ → Terms → List ℤ
marks_figures bs a t =
    let k = book_of bs in
    let ps = marked_of k a in
    cond (eqb (marks_number bs a t) 0)
    (pos (unfavourable_total k t ps - favourable_total k t ps) ∷ sum_of k t ps 0 ∷ sum_of k t ps 1 ∷ sum_of k t ps 2 ∷ sum_of k t ps 3 ∷ [])
    (pos 0 ∷ pos 0 ∷ pos 0 ∷ pos 0 ∷ pos 0 ∷ [])

-- the paper's number of an answer, and its five figures
unfoldable pub number_of_marks : Result Marks ℕ → ℕ
number_of_marks (Ok m) = 0
number_of_marks (Err n) = n

unfoldable pub figures_of_marks : Result Marks ℕ → List ℤ
figures_of_marks (Ok m) = mils_of m.due ∷ map mils_of m.sums
figures_of_marks (Err n) = pos 0 ∷ pos 0 ∷ pos 0 ∷ pos 0 ∷ pos 0 ∷ []
