pub mod Lines
pub mod Tells
pub mod Found
pub mod Bare
pub mod Recording
