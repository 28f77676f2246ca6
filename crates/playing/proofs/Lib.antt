-- Laws that rest on words which a wrong version changes (must-fail/): these show in proofs, and never in specs/.
pub mod RecordByRecord
