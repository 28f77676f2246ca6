-- The theorems, and the laws of this crate that rest on words which wrong versions change (must-fail/): these show in proofs, and never in specs/.
-- the last accepted forms by the log; the tidy day; entries between the other calls
pub mod Surviving
pub mod Days
pub mod Interleaving
-- zero totals of money
pub mod ZeroMoney
-- tidy days over lent bytes; all public calls over lent bytes
pub mod TidyFits
pub mod PublicHistory
-- the statements
pub mod Theorems
