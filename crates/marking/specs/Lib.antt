-- Marks of a sound book, which `marks_of` promises, and the theorem that an account's answer is its own.
pub mod SoundMarks
pub mod Isolation
-- What the proofs are made of: the tests in their order, the answer.
pub mod Passing
pub mod Answering
