-- What the counts of a run are proved with: what records owe and want, counting, what accounts hold.
pub mod Amounts
pub mod Counting
pub mod Holders
