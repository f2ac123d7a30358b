pub mod Forms
pub mod Joining
pub mod Steps
pub mod Rewriting
