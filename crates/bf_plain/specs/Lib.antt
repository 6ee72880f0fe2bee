pub mod Ticks
pub mod inner
