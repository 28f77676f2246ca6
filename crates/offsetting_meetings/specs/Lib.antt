-- A meeting on two records.
pub mod Meeting
