pub mod Runs
pub mod Choosing
