-- Theorems by computation about the rules: worked examples of the source documents, runs, damaged files, widths of fields, effects that no line shows, lines.
pub mod Source
pub mod Runs
pub mod Damage
pub mod Widths
pub mod Effects
pub mod Lines
