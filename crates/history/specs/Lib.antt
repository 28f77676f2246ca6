-- Theorems about every history of calls. To be read: Histories, Amounts, Lent, Publics here (the words) and proofs/Theorems (the statements); nothing else must be.
pub mod Histories
pub mod Amounts
pub mod Lent
pub mod Publics
-- one call; every book of a history is sound; refusals 1 and 13
pub mod Steps
pub mod Refusals
pub mod Logs
-- a book is its rest and its list; the calls by what they read of it; the survivors of a list
pub mod Rest
pub mod Alike
pub mod Survivors
-- the same deposits, withdrawals and runs again; the survivors entered; the last accepted form of a number; a list in another order; any list of last forms; many days
pub mod Following
pub mod Entering
pub mod Forms
pub mod Orders
pub mod AnyForms
pub mod ManyDays
-- zero totals of shares, holdings
pub mod ZeroShares
pub mod Held
-- over lent bytes: bytes of any book, values that fit, calls one after another, the records of a file
pub mod AllBytes
pub mod SoundFits
pub mod LentHistory
pub mod FileRecords
pub mod FileHistory
-- a history worked out
pub mod Example
