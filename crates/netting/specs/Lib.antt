-- What the code of the nets needs beside the laws: all nets pair by pair, the table that is filled with them, the book before offsetting.
pub mod Pairs
pub mod Filling
pub mod Before
