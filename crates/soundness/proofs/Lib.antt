-- What the proofs of the test for soundness share.
pub mod Clauses
