pub mod Passing
pub mod Pages
pub mod Standing
pub mod Running
pub mod Asking
