-- Reading a call file: fields where they stand, kinds of records, the record at a place, and the walk from one to the next.
pub mod Bodies
pub mod Kinds
pub mod Reading
pub mod Walking
