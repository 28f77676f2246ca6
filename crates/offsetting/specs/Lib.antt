-- What the code of offsetting is proved against, beside the rules: the walk over rows and that it is the rule's,
-- what keeps its sums within 64 bits, the walk over the bytes, how the rows split by due day, and the book that is left.
pub mod Walk
pub mod WalkIsRule
pub mod Holding
pub mod Turns
pub mod Loops
pub mod Rows
pub mod Bytes
pub mod Borders
pub mod Result
