pub mod Terms
pub mod Writes
