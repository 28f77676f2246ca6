-- Theorems by computation about marks: worked examples of the source documents, the order of refusals, the limit.
pub mod MarkOrders
pub mod Marked
pub mod Joint
