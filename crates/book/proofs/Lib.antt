-- What the proofs share.
pub mod Made
