-- What the public calls are proved by: a book that is not sound, and creation.
pub mod Lent
