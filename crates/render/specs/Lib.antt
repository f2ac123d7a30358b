pub mod Entries
pub mod Drawings
pub mod Roll
pub mod RollLaw
pub mod Grid
pub mod GridLaw
pub mod Theorems
pub mod Examples
