pub mod Lists
pub mod Plain
pub mod Schedules
pub mod Nearness
pub mod Shares
pub mod Told
pub mod Files
pub mod PlaceLemmas
pub mod Everywhere
mod Pulled
