-- Playing a call file: the call of one record, the walk over all of them, what stands first, the count of the answers.
pub mod Answers
pub mod Applying
pub mod Again
pub mod Steps
pub mod Playing
pub mod First
pub mod Counting
