pub mod Years
pub mod Fires
pub mod Intervals
pub mod Runs
pub mod inner
