pub mod Bags
pub mod Drawings
pub mod Rolls
pub mod Rows
pub mod Ticks
pub mod Shown
pub mod Overlaps
