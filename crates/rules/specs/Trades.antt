-- Today's list: entry, amendment and exclusion of trades (document 01, "From trades to positions"; refusals 2 to 8).
use Rattle.std.specs.Prelude.{Bool, cond, not, ◌&&◌, ◌||◌, List, [], ◌∷◌, ◌++◌, map, ℕ, ◌*◌, eqb}
use Rattle.units.specs.Units.{top_price}
use Rattle.rules.specs.Words.{any, above, outside}
use Rattle.rules.specs.Bounds.{last_account, last_security, most_traded}
use Rattle.rules.specs.Book.{unlisted}
use Rattle.rules.specs.declared.Trade.{Trade}
use Rattle.rules.specs.declared.Book.{Book}

-- A trade's amount is quantity * price.
unfoldable pub amount_of : Trade → ℕ
amount_of t = t.quantity * t.price.0

-- ── the list ──

-- an excluded trade keeps its number; its other fields are zero
abbrev pub excluded_trade : ℕ → Trade
excluded_trade n = record { number = n; buyer = 0; seller = 0; security = 0; quantity = 0; price = record { 0 = 0 } }

-- no trade that is not excluded has 0 shares
unfoldable pub is_excluded : Trade → Bool
is_excluded t = eqb t.quantity 0

-- the number is used today, excluded ones too; it is in the list and not excluded
unfoldable pub used : ℕ → List Trade → Bool
used n ts = any (λ t. eqb t.number n) ts

unfoldable pub stands : ℕ → List Trade → Bool
stands n ts = any (λ t. eqb t.number n && not (is_excluded t)) ts

-- entry: the trade stands last in the list
unfoldable pub entered : List Trade → Trade → List Trade
entered ts t = ts ++ (t ∷ [])

-- the trade of number n replaced by t, in its place
unfoldable pub replaced : List Trade → ℕ → Trade → List Trade
replaced ts n t = map (λ u. cond (eqb u.number n) t u) ts

-- An amendment replaces every field but the number; the trade keeps its place.
unfoldable pub amended : List Trade → Trade → List Trade
amended ts t = replaced ts t.number t

-- An excluded one keeps its number and order, other fields zero.
unfoldable pub excluded : List Trade → ℕ → List Trade
excluded ts n = replaced ts n (excluded_trade n)

-- ── faults of a trade's fields, each by its refusal number ──

-- 2: account above 63
unfoldable pub no_account : ℕ → Bool
no_account a = above last_account a

unfoldable pub bad_accounts : Trade → Bool
bad_accounts t = no_account t.buyer || no_account t.seller

-- 3: security above 31 or unlisted
unfoldable pub no_security : ℕ → Bool
no_security s = above last_security s

unfoldable pub bad_security : Book → ℕ → Bool
bad_security k s = no_security s || unlisted k s

-- 4: trade quantity outside 1 to 1,000,000
unfoldable pub bad_quantity : Trade → Bool
bad_quantity t = outside 1 most_traded t.quantity

-- 5: price outside 1 to 9,999,999
unfoldable pub bad_price : Trade → Bool
bad_price t = outside 1 top_price t.price.0

-- 6: buyer and seller the same account
unfoldable pub same_account : Trade → Bool
same_account t = eqb t.buyer t.seller
