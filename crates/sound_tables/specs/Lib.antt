-- What the test for soundness needs beside the laws: what its loops have found out, and that it is what the definitions say.
pub mod Flags
pub mod Distinct
pub mod Placed
pub mod Held
pub mod Stakes
