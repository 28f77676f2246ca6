-- One record as a call of its own: the room that its fields have, its answer, what it leaves.
pub mod Rooms
pub mod Answering
pub mod Applying
