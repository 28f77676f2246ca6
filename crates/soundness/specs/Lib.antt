-- The sentences of a sound book, grouped as the code tests them.
pub mod Clauses
