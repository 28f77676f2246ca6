-- The part; what a sum of marks counts. Definitions first, then what is proved of them.
pub mod Part
pub mod Conversion
pub mod PartLaws
pub mod ConversionLaws
pub mod Figures
