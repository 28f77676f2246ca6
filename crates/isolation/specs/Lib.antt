-- Which calls leave an account's records, and so what marks answer for it. To be read: Touching here (the words) and proofs/Statements; nothing else must be.
pub mod Touching
-- calls on the list and the holdings, and refused ones
pub mod Untouched
-- today's list, and the day
pub mod TradesApart
pub mod SameDay
-- runs
pub mod RunApart
-- rolls
pub mod OffsetApart
pub mod NetsApart
pub mod RollApart
pub mod QuietRoll
-- over lent bytes
pub mod Stored
