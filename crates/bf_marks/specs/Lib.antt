pub mod Phrases
pub mod Tallies
pub mod CellMarks
pub mod RowOrder
pub mod Labels
pub mod Widths
pub mod GridViews
pub mod inner
