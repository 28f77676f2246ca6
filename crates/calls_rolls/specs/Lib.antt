-- What the steps of a roll may count on; the roll of a quiet day.
pub mod Rolls
pub mod Quiet
