pub mod Choices
pub mod Standings
pub mod Heaps
pub mod Classes
pub mod Keeping
pub mod Kept
pub mod Looks
pub mod inner
