-- Who has a part in a call: the words that the statements are written in. Entry, amendment and exclusion of trades, deposits and withdrawals
-- touch no one's records; a run touches those who give or receive in it; a roll those who have traded, and those for whom something falls due.
use Rattle.std.specs.Prelude.{Bool, false, not, ◌&&◌, ◌||◌, List, [], ◌∷◌, ℕ, ◌+◌, eqb}
use Rattle.rules.specs.Words.{any}
use Rattle.rules.specs.Book.{due_of, list_of}
use Rattle.rules.specs.Trades.{is_excluded}
use Rattle.rules.specs.Nets.{trades_of}
use Rattle.rules.specs.Run.{Meeting, meetings}
use Rattle.rules.specs.Marks.{marked_of}
use Rattle.rules.specs.Calls.{Call, enter, amend, exclude, roll, deposit, withdraw, run}
use Rattle.rules.specs.CallFile.{left}
use Rattle.rules.specs.declared.Trade.{Trade}
use Rattle.rules.specs.declared.Book.{Book}
use Rattle.history.specs.Histories.{survivors}

-- the account gives or receives in the meeting
abbrev pub is_one : ℕ → Meeting → Bool
is_one a m = eqb m.giver.account a || eqb m.receiver.account a

-- it gives or receives in some meeting of a run of security s
unfoldable pub takes_part : Book → ℕ → ℕ → Bool
takes_part k s a = any (is_one a) (meetings k s)

-- the account buys or sells in the trade
abbrev pub is_party : ℕ → Trade → Bool
is_party a t = eqb t.buyer a || eqb t.seller a

-- the trades of an account that stand (an excluded one has fields of zero, and is no trade of account 0)
unfoldable pub trades_standing : ℕ → List Trade → List Trade
trades_standing a ts = trades_of a (survivors ts)

-- it has bought or sold in a trade that stands
unfoldable pub has_traded : Book → ℕ → Bool
has_traded k a = any (is_party a) (survivors (list_of k))

-- a record of it falls due with the next day
unfoldable pub has_falling_due : Book → ℕ → Bool
has_falling_due k a = any (λ p. eqb (due_of p) (k.day + 1)) (marked_of k a)

-- the call touches the records of account a: where it does not, they stay (Statements)
unfoldable pub touches : Book → Call → ℕ → Bool
touches k (enter t) a = false
touches k (amend t) a = false
touches k (exclude n) a = false
touches k roll a = has_traded k a || has_falling_due k a
touches k (deposit b s q) a = false
touches k (withdraw b s q) a = false
touches k (run s) a = takes_part k s a

-- one of the calls does, each on the book that those before it left
unfoldable pub touched : Book → List Call → ℕ → Bool
touched k [] a = false
touched k (c ∷ cs) a = touches k c a || touched (left k c) cs a

-- ── today's list ──

-- the trade stands, and is one of the account
abbrev pub stands_for : ℕ → Trade → Bool
stands_for a t = not (is_excluded t) && is_party a t

-- the trade of a number is a standing one of the account
unfoldable pub has_trade : Book → ℕ → ℕ → Bool
has_trade k n a = any (λ t. eqb t.number n && stands_for a t) (list_of k)

-- the call concerns the standing trades of account a: where it does not, they stay
unfoldable pub concerns : Book → Call → ℕ → Bool
concerns k (enter t) a = is_party a t
concerns k (amend t) a = is_party a t || has_trade k t.number a
concerns k (exclude n) a = has_trade k n a
concerns k roll a = has_traded k a
concerns k (deposit b s q) a = false
concerns k (withdraw b s q) a = false
concerns k (run s) a = false

-- one of the calls does, each on the book that those before it left
unfoldable pub concerned : Book → List Call → ℕ → Bool
concerned k [] a = false
concerned k (c ∷ cs) a = concerns k c a || concerned (left k c) cs a
