pub mod Pieces
pub mod Counted
