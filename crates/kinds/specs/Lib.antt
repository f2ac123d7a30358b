pub mod Answers
pub mod Note
pub mod Clip
pub mod Examples
pub mod Clips
pub mod Numbers
pub mod Notes
