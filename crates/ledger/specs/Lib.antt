pub mod Answers
pub mod Ledgers
pub mod Runs
pub mod Stands
pub mod Certificates
