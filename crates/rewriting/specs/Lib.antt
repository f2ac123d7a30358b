pub mod Plans
pub mod Matches
pub mod Rules
pub mod Rewritings
