-- Theorems by computation about calls over lent bytes: books, records of a file, the whole file, the whole sheet.
pub mod Lent
pub mod Whole
