-- What the proofs are made of: sums per currency, converted totals.
pub mod Summing
pub mod Converting
