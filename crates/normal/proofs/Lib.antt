pub mod Placings
pub mod Writings
