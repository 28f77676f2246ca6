-- What the proofs are made of: laws of `any`, the price tables.
pub mod Looking
pub mod Pricing
