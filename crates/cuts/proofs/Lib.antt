pub mod Putting
pub mod Taking
pub mod Dropping
pub mod Reversing
pub mod Counting
