-- The whole sheet as one call.
pub mod Sheets
