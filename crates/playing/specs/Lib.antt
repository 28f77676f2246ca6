-- Playing a call file as one call: the whole.
pub mod Whole
-- the record calls one after another (that they are the whole file: proofs/RecordByRecord)
pub mod RecordCalls
