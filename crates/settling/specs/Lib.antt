-- What the code of the settlement run is proved with: charges, the walk and whom it passes over, the walk over the bytes with its meetings, how
-- it ends, and a run that moves nothing.
pub mod Charges
pub mod Passing
pub mod Steps
pub mod Loops
pub mod Turns
pub mod Meetings
pub mod Bytes
pub mod Ends
pub mod Idle
