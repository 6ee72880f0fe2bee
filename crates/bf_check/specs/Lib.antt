pub mod Checking
pub mod Schedules
pub mod Refusals
pub mod inner
