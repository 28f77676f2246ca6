-- Where the parts of the book stand, and what the readers and writers of the book leave, as laws of the layout's codecs.
pub mod Places
pub mod Reading
pub mod Views
pub mod Writing
pub mod Changing
pub mod Replacing
