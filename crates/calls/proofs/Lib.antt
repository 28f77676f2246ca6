-- Lemmas of the calls' proofs: a refusal, as its call answers it.
pub mod Refused
