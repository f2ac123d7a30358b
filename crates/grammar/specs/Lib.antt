pub mod Files
pub mod Items
pub mod Drafts
pub mod Described
pub mod Refusals
pub mod Loads
pub mod Theorems
