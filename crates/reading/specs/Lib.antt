pub mod Languages
pub mod Passing
pub mod Taking
pub mod Heads
pub mod Readings
pub mod Terms
