pub mod AnyOrder
pub mod Sorts
pub mod Bags
pub mod Ends
pub mod Partings
