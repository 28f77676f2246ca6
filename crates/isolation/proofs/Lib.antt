-- The statements: they rest on words which a wrong version changes (must-fail/), so they show in proofs, and never in specs/.
pub mod Statements
