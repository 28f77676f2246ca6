-- One result: any two outcomes that meet the promise of a public call are equal. `One` is the word; the statements are in Books, Files and Lines.
pub mod One
pub mod Books
pub mod Files
pub mod Lines
