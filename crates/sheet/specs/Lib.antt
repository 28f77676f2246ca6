-- What the code of the sheet does, over the definitions of the rules.
-- lines written one behind the other; the lines of the answers, of the book, of the whole sheet, of a refused file
pub mod Written
pub mod Answers
pub mod BookLines
pub mod Whole
pub mod Refused
-- what a file gives: the sheet of the bytes of its answers and of its book is the sheet of the file
pub mod OfFile
pub mod OfBook
