-- What the contracts of the exported functions cite beside the rules, and the laws of their proofs.
pub mod Fields
pub mod Lines
-- laws
pub mod Figures
pub mod Priced
