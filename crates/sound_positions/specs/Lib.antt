-- What the loops over the position table need of the rules. No definition here must be believed.
pub mod Table
pub mod DueBy
pub mod Each
pub mod Ascent
pub mod Summing
pub mod Balance
pub mod OneSign
