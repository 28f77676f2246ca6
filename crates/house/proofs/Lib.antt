-- Lemmas of the public calls' proofs: what `ok_or(..)?` answers where there is no value.
pub mod Unsound
