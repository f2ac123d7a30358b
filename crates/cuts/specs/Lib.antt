pub mod Pieces
pub mod Padding
