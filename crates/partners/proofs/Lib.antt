pub mod Starts
pub mod Searches
pub mod Tallies
pub mod Spendings
pub mod Choices
pub mod Afters
