pub mod JsonLines
pub mod Pieces
pub mod inner
