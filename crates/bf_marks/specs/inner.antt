pub mod Walk
pub mod Behind
pub mod Labels
