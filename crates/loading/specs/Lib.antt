pub mod Offsets
pub mod Counts
pub mod Made
pub mod Checks
pub mod Gives
