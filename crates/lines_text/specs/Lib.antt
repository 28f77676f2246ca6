pub mod Digits
pub mod LineWords
pub mod Placed
