pub mod Order
pub mod Comparisons
pub mod Texts
