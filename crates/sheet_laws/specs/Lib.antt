-- Theorems about every call file: what its answers and its sheet fit into. To be read: Bounded, here and in proofs/; nothing else must be.
-- the answers are few, and fit; the book that the file leaves is sound, and its values fit
pub mod AnswersFew
pub mod AnswersFit
pub mod BookLeft
-- how many bytes a line has, and the lines of the answers and of the book
pub mod Widths
pub mod AnswerWidths
pub mod BookWidths
-- the whole sheet
pub mod Bounded
