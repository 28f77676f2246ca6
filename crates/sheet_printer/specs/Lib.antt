-- What the contracts cite beside the rules.
pub mod Counts
pub mod Printed
