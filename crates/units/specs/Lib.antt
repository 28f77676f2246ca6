-- Shares, money and prices as numbers.
pub mod Units
