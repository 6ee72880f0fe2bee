pub mod Slots
pub mod Weights
pub mod inner
