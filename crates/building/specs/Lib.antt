pub mod Changes
pub mod Sizes
pub mod Steps
pub mod Rows
